-- The rows so far have no move.
use Rattle.std.proofs.Common.{◌≡◌, length}
use Rattle.plan_batches.specs.Rows.{AreEmpty}
use Rattle.plan_batches.proofs.rows.no_turns.Given as goal

abbrev pub invariant-loop-i : goal.invariant-loop-i
invariant-loop-i l = (length l.rows.items ≡ l._i) × AreEmpty l.rows.items
