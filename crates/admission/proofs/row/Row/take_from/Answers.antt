use Rattle.std.proofs.Common.{◌≡◌, w32, to_z, of_z, arith}
use Rattle.std.specs.Int.{int_max, int_min}
use Rattle.std.proofs.lemmas.Int.{ints, clamps}
use Rattle.eon_model.specs.Grid.{Units, span_of}
use Rattle.admission.proofs.FreeLaws.{takes_cut, takes_beside}
use Rattle.admission.proofs.row.Row.take_from.Goals as goal

pub returns-then-from-to : goal.returns-then-from-to
returns-then-from-to c =
    let row = c.args.self.now in
    let span : Units = record { lo = c.args.low; hi = c.args.high } in
    let from = to_z w32 (of_z w32 c.max-from.result) in
    let to = to_z w32 (of_z w32 c.min-to.result) in
    let low : from ≡ int_max c.args.low (span_of row.band).lo =
    let b = c.lo.ensures.value in
    let d = c.max-from.ensures.value in omega (arith, ints, clamps) in
    let high : to ≡ int_min c.args.high (span_of row.band).hi =
    let b = c.hi.ensures.value in
    let d = c.min-to.ensures.value in omega (arith, ints, clamps) in
    takes_cut row span c.requires c.lo.ensures.valid from to low high c.take_places.new.taken
    c.place-first.result c.place-end.result c.place-first.ensures.place c.place-end.ensures.place
    (omega arith) c.if-from-to.true c.take_places.ensures

pub returns-else-from-to : goal.returns-else-from-to
returns-else-from-to c =
    let row = c.args.self.now in
    let span : Units = record { lo = c.args.low; hi = c.args.high } in
    let from = to_z w32 (of_z w32 c.max-from.result) in
    let to = to_z w32 (of_z w32 c.min-to.result) in
    let low : from ≡ int_max c.args.low (span_of row.band).lo =
    let b = c.lo.ensures.value in
    let d = c.max-from.ensures.value in omega (arith, ints, clamps) in
    let high : to ≡ int_min c.args.high (span_of row.band).hi =
    let b = c.hi.ensures.value in
    let d = c.min-to.ensures.value in omega (arith, ints, clamps) in
    takes_beside row span c.requires c.lo.ensures.valid from to low high c.if-from-to.false
