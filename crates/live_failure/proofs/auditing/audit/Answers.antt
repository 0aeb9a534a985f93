use Rattle.std.proofs.Common.{◌∙◌, ap, ◌+◌, drop, ◌-◌, get_or, length, length-drop, arith}
use Rattle.std.proofs.lemmas.List.{take_all}
use Rattle.std.proofs.lemmas.Option.{slice_get-get_or}
use Rattle.eon_model.specs.LiveFailure.{pairs_in_order}
use Rattle.live_failure.specs.Replied.{audit_told}
use Rattle.live_failure.specs.Rivals.{with_pairs, no_audit}
use Rattle.live_failure.proofs.AuditLaws.{outer-step}
use Rattle.live_failure.proofs.auditing.audit.Goals as goal

pub loop-i-preserved : goal.loop-i-preserved
loop-i-preserved c =
    let order = c.args.order.now in
    let i = c.loop-i.i in
    let one = get_or order i 0 in
    let few = c.loop-i.invariant.few in
    let more = c.note_pairs.ensures.few in
    let rest = length-drop (i + 1) order in
    let later = take_all (length order - (i + 1)) (drop (i + 1) order) (omega arith) in
    let told = rw later at c.note_pairs.ensures.told in
    let count = ap length later in
    record {
      all = ap (λ a. with_pairs c.args.services.now.list c.args.own.now a (pairs_in_order (drop (i + 1) order))) told
          ∙ outer-step c.args.services.now.list c.args.own.now (audit_told c.loop-i.audit) one order i
          (with_pairs c.args.services.now.list c.args.own.now no_audit (pairs_in_order order))
          (slice_get-get_or order i 0 c.loop-i-test.true) c.loop-i.invariant.all;
      few = omega arith;
    }
