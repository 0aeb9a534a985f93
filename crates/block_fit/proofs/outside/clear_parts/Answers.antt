use Rattle.std.proofs.Common.{◌≡◌, ◌∙◌, subst, sym, true, pos, ◌+ℤ◌, ◌&&◌, not, arith}
use Rattle.eon_model.specs.Grid.{Units, span_of, has_unit, lies_in}
use Rattle.spectrum_map.specs.Bits.{bit_of}
use Rattle.block_fit.proofs.JoinLaws.{part_more, part_all, part_none, part_within}
use Rattle.block_fit.proofs.outside.clear_parts.Goals as goal

pub loop-i-init : goal.loop-i-init
loop-i-init c k = part_none (bit_of c.args.row.now.words k)

pub clear_part-requires : goal.clear_part-requires
clear_part-requires c =
    let count = c.parts-i-end.ensures.value in
    let near = c.loop-i-test.true in
    subst (λ (p : Units). lies_in (span_of c.args.band.now) p ≡ true) (sym c.part.ensures.value)
    (part_within c.args.band.now c.part.ensures.valid c.loop-i.i (omega (arith, count, near)))

pub loop-i-preserved : goal.loop-i-preserved
loop-i-preserved c k =
    let count = c.parts-i-end.ensures.value in
    let near = c.loop-i-test.true in
    c.clear_part.ensures k
    ∙ (λ q. c.loop-i.invariant k q
    && not (has_unit (c.part.ensures.value q) ((span_of c.args.band.now).lo +ℤ pos k)))
    ∙ part_more c.args.band.now c.loop-i.i (bit_of c.args.row.now.words k) ((span_of c.args.band.now).lo +ℤ pos k)
    (omega (arith, count, near))

pub returns : goal.returns
returns c k =
    let count = c.parts-i-end.ensures.value in
    let far = c.loop-i-test.false in
    c.loop-i.invariant k
    ∙ part_all c.args.band.now c.loop-i.i (bit_of c.args.row.now.words k) ((span_of c.args.band.now).lo +ℤ pos k)
    (omega (arith, count, far))
