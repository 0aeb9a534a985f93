use Rattle.std.proofs.Common.{◌≡◌, ◌*◌, ◌≤◌, count_by, sum_by}
use Rattle.std.specs.List.{list_any, range_with_len}
use Rattle.eon_model.specs.FirstFit.{centres_in}
use Rattle.eon_model.specs.Listings.{holds}
use Rattle.plan_report.specs.Counted.{state_holdings}
use Rattle.plan_report.proofs.rows.units_held.Given as goal

abbrev pub invariant-loop-fibre : goal.invariant-loop-fibre
invariant-loop-fibre l =
    (l.held
    ≡ sum_by (λ i. count_by (λ u. list_any (holds i u) (state_holdings l.kind l.services.list)) (centres_in l.setup.band))
    (range_with_len 0 l.fibre))
    × (l.held ≤ 1024 * l.fibre)
