use Rattle.std.proofs.Common.{take}
use Rattle.plan_report.specs.Counted.{state_holdings, holders, Grows}
use Rattle.plan_report.proofs.rows.count_services.Given as goal

-- what the services before this one hold is counted
abbrev pub invariant-loop-i : goal.invariant-loop-i
invariant-loop-i l =
    Grows l.lowest (holders l.fibre (state_holdings l.kind (take l.i l.services.list))) l.fn.counts l.counts
