use Rattle.std.proofs.Common.{◌≡◌, ◌≤◌, take, count_by}
use Rattle.plan_report.specs.Featured.{has_feature}
use Rattle.plan_report.proofs.totals.count_where.Given as goal

abbrev pub invariant-loop-i : goal.invariant-loop-i
invariant-loop-i l = (l.count ≡ count_by (has_feature l.feature) (take l.i l.services.list)) × (l.count ≤ l.i)
