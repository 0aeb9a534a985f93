use Rattle.std.proofs.Common.{◌≡◌, ◌∙◌, ap, subst, ℕ, List, length, IfOk, to_z, of_z, w16, length-take, arith}
use Rattle.std.proofs.lemmas.List.{length-replicate}
use Rattle.std.proofs.lemmas.Int.{ints}
use Rattle.eon_model.specs.Grid.{unit_count, span_of}
use Rattle.eon_model.specs.Legal.{Setup}
use Rattle.eon_model.specs.Listings as listings
use Rattle.plan_report.specs.Mapped.{lines_seen}
use Rattle.plan_report.proofs.MapLemmas.{held_row}
use Rattle.plan_report.proofs.map.held_lines.Goals as goal

pub returns : goal.returns
returns c =
    let low : to_z w16 (of_z w16 c.lo-lowest.result) ≡ c.lo-lowest.result = omega (arith, ints) in
    let e = held_row c.args.setup.now c.args.services.now.list c.args.fibre _ _ _ c.count_row.ensures
    (low ∙ c.lo-lowest.ensures.value ∙ ap (λ (s : Setup). (span_of s.band).lo) c.setup.view_is)
    ((let n : length _ ≡ c.band_units.result = omega (arith, length-take {A = ℕ}, length-replicate {A = ℕ}) in n)
    ∙ c.band_units.ensures.count ∙ ap (λ (s : Setup). unit_count (span_of s.band)) c.setup.view_is) in
    subst (λ (ls : List listings.MapLine). IfOk c.runs_of.result (λ v. lines_seen v.items ≡ ls)) e
    c.runs_of.ensures
