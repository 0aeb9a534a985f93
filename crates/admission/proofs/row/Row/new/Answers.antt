use Rattle.std.proofs.Common.{◌≡◌, refl, false, ◌≤◌, ◌<◌, pos, ◌+ℤ◌, ◌-ℤ◌, w32, to_z, of_z, arith, length, replicate}
use Rattle.std.proofs.lemmas.Int.{ints}
use Rattle.flex_grid.specs.Padded.{blank}
use Rattle.admission.proofs.GapLaws.{no-gaps, gap-ends, gap-taken, gaps-free}
use Rattle.admission.proofs.row.Row.new.Goals as goal

pub loop-i-init : goal.loop-i-init
loop-i-init c = no-gaps (record { band = c.args.band.now; taken = replicate 1024 false }) 1024 refl

pub take_from-requires : goal.take_from-requires
take_from-requires c =
    let band = c.args.band.now in
    let some : 1 ≤ c.loop-i.i = omega arith in
    let within : c.loop-i.i < length band = let end = c.parts-i-end.ensures.value in omega arith in
    let apart = gap-ends band blank c.part.result c.part-in-loop-i.result c.loop-i.i c.parts-i-end.ensures.valid some within
    c.part.ensures.value c.part-in-loop-i.ensures.value in
    let hi = c.hi.ensures.value in
    let lo = c.lo.ensures.value in omega (arith, ints)

pub loop-i-preserved : goal.loop-i-preserved
loop-i-preserved c =
    let band = c.args.band.now in
    let some : 1 ≤ c.loop-i.i = omega arith in
    let within : c.loop-i.i < length band = let end = c.parts-i-end.ensures.value in omega arith in
    let below = c.part.result in
    let above = c.part-in-loop-i.result in
    let low = to_z w32 (of_z w32 (to_z w32 (of_z w32 c.from-low.result) +ℤ pos 1)) in
    let high = to_z w32 (of_z w32 (to_z w32 (of_z w32 c.from-high.result) -ℤ pos 1)) in
    let from : low ≡ below.hi +ℤ pos 1 = let hi = c.hi.ensures.value in omega (arith, ints) in
    let to : high ≡ above.lo -ℤ pos 1 = let lo = c.lo.ensures.value in omega (arith, ints) in
    gap-taken band blank below above c.loop-i.row c.take_from.new.self low high c.loop-i.i some within
    c.part.ensures.value c.part-in-loop-i.ensures.value from to c.loop-i.invariant c.take_from.ensures

pub returns : goal.returns
returns c =
    let past : length c.args.band.now ≤ c.loop-i.i = let end = c.parts-i-end.ensures.value in
    let done = c.loop-i-test.false in omega arith in
    gaps-free c.args.band.now c.loop-i.row c.loop-i.i c.parts-i-end.ensures.valid past c.loop-i.invariant
