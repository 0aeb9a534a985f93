use Rattle.std.proofs.Common.{◌≡◌, ◌∙◌, pos, ◌+ℤ◌, arith, to_z, of_z, w16, w32}
use Rattle.std.proofs.lemmas.Int.{ints}
use Rattle.eon_model.specs.Grid.{span_of}
use Rattle.eon_model.proofs.SpanLaws.{span-facts}
use Rattle.block_fit.proofs.CentreLaws.{rounded}
use Rattle.block_fit.proofs.centres.centre_at.Goals as goal

pub returns : goal.returns
returns c =
    let band = c.args.band.now in
    let span = span-facts band c.lo.ensures.valid in
    let low = span.low in
    let order = span.order in
    let high = span.high in
    let at = c.lo.ensures.value in
    let near = c.requires.place in
    let narrow = c.requires.width in
    let lo : to_z w32 (of_z w32 c.from.result) ≡ (span_of c.args.band.now).lo = omega (arith, ints) in
    let place : to_z w32 c.args.place ≡ pos c.args.place = omega (arith, ints) in
    let half : to_z w32 (of_z w32 c.from-2.result) ≡ pos c.args.m = omega (arith, ints) in
    (λ i. to_z w16 (of_z w16 (to_z w32 (of_z w32 (to_z w32 (of_z w32 (lo i +ℤ place i)) +ℤ half i)))))
    ∙ rounded (span_of c.args.band.now).lo c.args.place c.args.m low (omega (arith, ints)) near narrow
