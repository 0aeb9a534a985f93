use Rattle.std.proofs.Common.{◌≡◌, ◌∙◌, ap, ℕ, length, to_z, of_z, w16, length-take, arith}
use Rattle.std.proofs.lemmas.List.{length-replicate}
use Rattle.std.proofs.lemmas.Int.{ints}
use Rattle.eon_model.specs.Grid.{unit_count, span_of}
use Rattle.eon_model.specs.Legal.{Setup}
use Rattle.plan_report.specs.Counted.{state_holdings}
use Rattle.plan_report.proofs.CountLemmas.{row_units}
use Rattle.plan_report.proofs.rows.units_on.Goals as goal

pub returns-clause-value : goal.returns-clause-value
returns-clause-value c =
    let low : to_z w16 (of_z w16 c.lo.result) ≡ c.lo.result = omega (arith, ints) in
    row_units c.args.fibre (state_holdings c.args.kind c.args.services.now.list) _ (span_of c.args.setup.now.band).lo _
    (unit_count (span_of c.args.setup.now.band)) _ _ c.count_positive.ensures.value c.count_row.ensures
    (low ∙ c.lo.ensures.value ∙ ap (λ (s : Setup). (span_of s.band).lo) c.setup.view_is)
    ((let n : length _ ≡ c.band_units.result = omega (arith, length-take {A = ℕ}, length-replicate {A = ℕ}) in n)
    ∙ c.band_units.ensures.count ∙ ap (λ (s : Setup). unit_count (span_of s.band)) c.setup.view_is)
