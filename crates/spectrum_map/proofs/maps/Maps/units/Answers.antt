use Rattle.std.proofs.Common.{arith}
use Rattle.std.proofs.lemmas.Int.{ints}
use Rattle.eon_model.proofs.SpanLaws.{span-facts}
use Rattle.spectrum_map.proofs.maps.Maps.units.Goals as goal

pub place-requires-clause-low : goal.place-requires-clause-low
place-requires-clause-low c =
    let span = span-facts c.self.inside.band c.self.invariant.band_is in
    let some = span.order in
    let high = c.hi.ensures.value in
    omega (arith, ints)
