-- What is noted, with the pairs that are left, is all.
use Rattle.std.proofs.Common.{◌≡◌, ◌*◌, ◌≤◌, drop}
use Rattle.eon_model.specs.LiveFailure.{pairs_in_order}
use Rattle.live_failure.specs.Replied.{audit_told}
use Rattle.live_failure.specs.Rivals.{with_pairs, no_audit}
use Rattle.live_failure.proofs.auditing.audit.Given as goal

abbrev pub invariant-loop-i : goal.invariant-loop-i
invariant-loop-i l = record {
  all : with_pairs l.services.list l.own (audit_told l.audit) (pairs_in_order (drop l.i l.order))
      ≡ with_pairs l.services.list l.own no_audit (pairs_in_order l.order);
  few : l.audit.pairs ≤ 256 * l.i;
}
