use Rattle.std.proofs.Common.{◌≡◌, drop}
use Rattle.eon_model.specs.JournalFault.{first_difference}
use Rattle.plan_journal.proofs.head.first_difference.Given as goal

abbrev pub invariant-loop-i : goal.invariant-loop-i
invariant-loop-i l = first_difference 0 l.wanted l.bytes ≡ first_difference l.i (drop l.i l.wanted) (drop l.i l.bytes)
