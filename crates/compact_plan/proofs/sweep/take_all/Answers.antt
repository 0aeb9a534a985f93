use Rattle.std.proofs.Common.{◌∙◌, refl, false, get_or, arith}
use Rattle.std.proofs.lemmas.Option.{slice_get-get_or}
use Rattle.compact_plan.specs.declared.block.Block.{Block}
use Rattle.compact_plan.proofs.SweepSteps.{swept_none, swept_more, swept_all, number_in}
use Rattle.compact_plan.proofs.sweep.take_all.Goals as goal

abbrev blank : Block
blank = record { height = 0; number = 0; is_backup = false }

pub loop-block-init : goal.loop-block-init
loop-block-init c = (
  refl,
  c.requires.long,
  c.requires.small,
  swept_none c.args.band.now c.args.services.now.list c.args.blocks.now c.requires.blocks c.requires.order
      c.args.lows.now c.requires.long,
)

pub take_block-requires-clause-number : goal.take_block-requires-clause-number
take_block-requires-clause-number c =
    let blocks = c.args.blocks.now in
    let k = c.loop-block.block-index in
    number_in c.args.services.now.list blocks k (get_or blocks k blank) c.requires.blocks
    (slice_get-get_or blocks k blank c.loop-block-test.true)

pub loop-block-preserved : goal.loop-block-preserved
loop-block-preserved c =
    let blocks = c.args.blocks.now in
    let k = c.loop-block.block-index in
    let inv = c.loop-block.invariant in
    let takes = c.take_block.ensures in (
      takes.long ∙ inv.0,
      takes.wide ∙ inv.1,
      takes.small inv.2,
      swept_more c.args.band.now c.args.services.now.list blocks c.requires.blocks c.requires.order k
          (get_or blocks k blank) c.loop-block.tops c.take_block.new.tops c.loop-block.lows c.take_block.new.lows
          (slice_get-get_or blocks k blank c.loop-block-test.true) takes inv.3,
    )

pub returns-clause-lowest : goal.returns-clause-lowest
returns-clause-lowest c =
    let past = c.loop-block-test.false in
    let within = c.loop-block.auto.block-index-end in
    swept_all c.args.band.now c.args.services.now.list c.args.blocks.now c.requires.blocks c.requires.order
    c.loop-block.block-index c.loop-block.tops c.loop-block.lows (omega arith) c.loop-block.invariant.3
