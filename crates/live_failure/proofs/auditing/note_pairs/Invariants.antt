-- What is noted, with the pairs that are left, is all.
use Rattle.std.proofs.Common.{◌≡◌, ◌+◌, ◌≤◌, drop}
use Rattle.live_failure.specs.Replied.{audit_told}
use Rattle.live_failure.specs.Rivals.{with_pairs, pairs_with}
use Rattle.live_failure.proofs.auditing.note_pairs.Given as goal

abbrev pub invariant-loop-i : goal.invariant-loop-i
invariant-loop-i l = record {
  all : with_pairs l.services.list l.own (audit_told l.audit) (pairs_with l.one (drop l.i l.later))
      ≡ with_pairs l.services.list l.own (audit_told l.initial.audit) (pairs_with l.one l.later);
  few : l.audit.pairs ≤ l.initial.audit.pairs + l.i;
}
