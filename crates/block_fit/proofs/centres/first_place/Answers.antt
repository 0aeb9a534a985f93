use Rattle.std.proofs.Common.{pos, ◌+ℤ◌, arith, to_z, of_z, w32}
use Rattle.std.specs.Prelude.{nat_abs}
use Rattle.std.proofs.lemmas.Int.{ints, clamps}
use Rattle.std.proofs.lemmas.Bool.{le-leb, leb-true}
use Rattle.eon_model.specs.Grid.{span_of}
use Rattle.eon_model.proofs.GridLaws.{int_le-le, le-int_le}
use Rattle.eon_model.proofs.SetLists.{same_test}
use Rattle.eon_model.proofs.SpanLaws.{span-facts}
use Rattle.block_fit.proofs.centres.first_place.Goals as goal

pub returns-clause-place : goal.returns-clause-place
returns-clause-place c p l =
    let band = c.args.band.now in
    let span = span-facts band c.lo.ensures.valid in
    let low = span.low in
    let order = span.order in
    let high = span.high in
    let at = c.lo.ensures.value in
    let value = c.clamp.ensures.value in
    same_test _ _
    (λ h. let a = leb-true (nat_abs (to_z w32 (of_z w32 c.clamp.result))) p h in
    le-int_le c.args.from (((span_of c.args.band.now).lo +ℤ pos p) +ℤ pos c.args.m) (omega (arith, ints, clamps)))
    (λ h. let b = int_le-le c.args.from (((span_of c.args.band.now).lo +ℤ pos p) +ℤ pos c.args.m) h in
    le-leb (nat_abs (to_z w32 (of_z w32 c.clamp.result))) p (omega (arith, ints, clamps)))
