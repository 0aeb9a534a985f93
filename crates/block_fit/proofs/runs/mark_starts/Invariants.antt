use Rattle.std.proofs.Common.{◌-◌, ◌≤◌}
use Rattle.block_fit.proofs.RunLaws.{Starts}
use Rattle.block_fit.proofs.runs.mark_starts.Given as goal

-- the starts of shorter runs are marked so far
abbrev pub invariant-loop-done : goal.invariant-loop-done
invariant-loop-done l = record {
  most : l.done ≤ l.len;
  starts : Starts l.initial.words l.words l.done;
}

abbrev pub decreases-loop-done : goal.decreases-loop-done
decreases-loop-done l = l.len - l.done
