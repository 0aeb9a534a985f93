use Rattle.std.proofs.Common.{◌≡◌, arith}
use Rattle.std.proofs.lemmas.Int.{ints}
use Rattle.eon_model.specs.Grid.{span_of}
use Rattle.admission.proofs.SpanLaws.{place-is}
use Rattle.admission.proofs.row.Row.place.Goals as goal
use Rattle.eon_model.proofs.SpanLaws.{span-facts}

pub overflow_sub-result : goal.overflow_sub-result
overflow_sub-result c =
    let band = c.args.self.now.band in
    let at : c.from.result ≡ (span_of band).lo = let value = c.lo.ensures.value in omega (arith, ints) in
    (place-is (span_of band) c.from.result c.args.unit at (span-facts band c.lo.ensures.valid) c.requires.low
    c.requires.high).fits

pub overflow_cast-result : goal.overflow_cast-result
overflow_cast-result c =
    let band = c.args.self.now.band in
    let at : c.from.result ≡ (span_of band).lo = let value = c.lo.ensures.value in omega (arith, ints) in
    let place = place-is (span_of band) c.from.result c.args.unit at (span-facts band c.lo.ensures.valid)
    c.requires.low c.requires.high in
    let low = place.low in
    let few = place.few in (omega (arith, ints), omega (arith, ints))

pub returns : goal.returns
returns c =
    let band = c.args.self.now.band in
    let at : c.from.result ≡ (span_of band).lo = let value = c.lo.ensures.value in omega (arith, ints) in
    let place = place-is (span_of band) c.from.result c.args.unit at (span-facts band c.lo.ensures.valid)
    c.requires.low c.requires.high in
    record { place = place.is; few = place.few }
