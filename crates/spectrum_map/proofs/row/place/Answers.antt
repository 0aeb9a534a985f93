use Rattle.std.proofs.Common.{◌≡◌, arith}
use Rattle.std.proofs.lemmas.Int.{ints}
use Rattle.eon_model.specs.Grid.{span_of}
use Rattle.eon_model.proofs.SpanLaws.{span-facts}
use Rattle.spectrum_map.proofs.row.place.Goals as goal

pub overflow_sub-result : goal.overflow_sub-result
overflow_sub-result c =
    let band = c.args.band.now in
    let span = span-facts band c.lo.ensures.valid in
    let narrow = span.wide in
    let at : c.from.result ≡ (span_of band).lo = let value = c.lo.ensures.value in omega (arith, ints) in
    let low = c.requires.low in
    let high = c.requires.high in
    omega (arith, ints)

pub overflow_cast-result : goal.overflow_cast-result
overflow_cast-result c =
    let band = c.args.band.now in
    let span = span-facts band c.lo.ensures.valid in
    let narrow = span.wide in
    let at : c.from.result ≡ (span_of band).lo = let value = c.lo.ensures.value in omega (arith, ints) in
    let low = c.requires.low in
    let high = c.requires.high in
    (omega (arith, ints), omega (arith, ints))

pub returns : goal.returns
returns c =
    let band = c.args.band.now in
    let span = span-facts band c.lo.ensures.valid in
    let narrow = span.wide in
    let at : c.from.result ≡ (span_of band).lo = let value = c.lo.ensures.value in omega (arith, ints) in
    let low = c.requires.low in
    let high = c.requires.high in
    record { place = omega (arith, ints); few = omega (arith, ints); valid = c.lo.ensures.valid }
