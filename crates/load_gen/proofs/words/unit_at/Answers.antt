use Rattle.std.proofs.Common.{◌≤ℤ◌, ◌+ℤ◌, pos, arith}
use Rattle.std.proofs.lemmas.Int.{ints}
use Rattle.eon_model.specs.Grid.{span_of}
use Rattle.eon_model.proofs.SpanLaws.{span-facts}
use Rattle.load_gen.proofs.PlaceLaws.{within}
use Rattle.load_gen.proofs.words.unit_at.Goals as goal

pub overflow_cast-result : goal.overflow_cast-result
overflow_cast-result c =
    let span = span_of c.args.band.now in
    let f = span-facts c.args.band.now c.lo.ensures.valid in
    let low = f.low in
    let high = f.high in
    let top : (span.lo +ℤ pos c.args.place) ≤ℤ span.hi = within span.lo span.hi c.args.place f.order c.requires in
    omega (arith, ints)

pub returns : goal.returns
returns c =
    let span = span_of c.args.band.now in
    let f = span-facts c.args.band.now c.lo.ensures.valid in
    let low = f.low in
    let high = f.high in
    let top : (span.lo +ℤ pos c.args.place) ≤ℤ span.hi = within span.lo span.hi c.args.place f.order c.requires in
    omega (arith, ints)
