use Rattle.std.proofs.Common.{◌∙◌, ◌+◌, ap, ℕ}
use Rattle.std.proofs.lemmas.List.{length_push}
use Rattle.plan_batches.proofs.RowLaws.{empty_more}
use Rattle.plan_batches.proofs.rows.no_turns.Goals as goal

pub loop-i-preserved : goal.loop-i-preserved
loop-i-preserved c =
    rw c.in_ok-push.ensures.items (
      length_push c.loop-i.rows.items c.new.result ∙ ap (λ (n : ℕ). n + 1) c.loop-i.invariant.0,
      empty_more c.loop-i.rows.items c.new.result c.new.ensures.items c.loop-i.invariant.1,
    )
