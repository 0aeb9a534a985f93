use Rattle.std.proofs.Common.{◌≡◌, w32, to_z, of_z, arith}
use Rattle.std.proofs.lemmas.Int.{ints}
use Rattle.eon_model.specs.Grid.{span_of}
use Rattle.admission.proofs.row.Row.len.Goals as goal
use Rattle.eon_model.proofs.SpanLaws.{span-facts}

pub place-requires : goal.place-requires
place-requires c =
    let band = c.args.self.now.band in
    let order = (span-facts band c.hi.ensures.valid).order in
    let at : to_z w32 (of_z w32 c.from.result) ≡ (span_of band).hi = let value = c.hi.ensures.value in omega (arith, ints)
    in record { low = omega (arith, ints); high = omega (arith, ints) }

pub returns : goal.returns
returns c =
    let band = c.args.self.now.band in
    let order = (span-facts band c.hi.ensures.valid).order in
    let at : to_z w32 (of_z w32 c.from.result) ≡ (span_of band).hi = let value = c.hi.ensures.value in omega (arith, ints)
    in
    let place = c.place.ensures.place in
    let few = c.place.ensures.few in record { count = omega (arith, ints); few = omega arith }
