use Rattle.std.proofs.Common.{◌≡◌, ◌∙◌, ap, sym, ℤ, ◌||◌, arith, to_z, of_z, w16}
use Rattle.std.specs.List.{list_any}
use Rattle.std.proofs.lemmas.Int.{ints}
use Rattle.eon_model.specs.Grid.{Band}
use Rattle.spectrum_map.specs.Bits.{bit_of}
use Rattle.spectrum_map.specs.Kept.{is_unit_that, place_of}
use Rattle.block_fit.specs.Blocks.{least_clear}
use Rattle.block_fit.proofs.LeastLaws.{least_agree, least_rows, unit_marked}
use Rattle.block_fit.proofs.centres.lowest.Goals as goal

pub returns : goal.returns
returns g c =
    let rows = g.V.Occupied.rows c.args.view.now in
    let fibres = c.args.fibres.now in
    let test = λ (u : ℤ). list_any (λ fibre. rows.lit fibre u || rows.held fibre u) c.args.fibres.now in
    let same : to_z w16 (of_z w16 c.args.from) ≡ c.args.from = omega (arith, ints) in
    c.lowest_unmarked.ensures
    ∙ ap (λ (z : ℤ). least_clear (λ u. bit_of c.taken.result.words (place_of c.args.band u)) c.args.m c.args.band z) same
    ∙ least_agree (λ u. bit_of c.taken.result.words (place_of c.args.band u)) test c.args.m c.args.band c.args.from
    c.parts.ensures.valid
    (unit_marked c.args.band c.parts.ensures.valid c.taken.result.words test
    (λ i. c.taken.ensures i ∙ ap (λ (b : Band). is_unit_that b test i) (sym c.requires.band)))
    ∙ least_rows rows fibres c.args.m c.args.band c.args.from
