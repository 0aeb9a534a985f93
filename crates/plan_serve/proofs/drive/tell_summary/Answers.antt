use Rattle.std.proofs.Common.{refl, subst, ℕ, List}
use Rattle.plan_serve.specs.JournalEnds.{Tells}
use Rattle.plan_serve.specs.Outside.{output}
use Rattle.plan_serve.proofs.DriveLaws.{summary_told, totals_as}
use Rattle.plan_serve.proofs.drive.tell_summary.Goals as goal

pub returns-in-Ok-clause-told : goal.returns-in-Ok-clause-told
returns-in-Ok-clause-told g c = λ seed count driven.
    summary_told c.args.core.now.setup seed count c.args.core.now.state c.args.tally.now driven c.stats.result
    c.in-Ok.text.items (output (g.K.Sink.given c.args.out.now) (g.K.Sink.standing c.args.out.now))
    (output (g.K.Sink.given c.give.new.out) (g.K.Sink.standing c.give.new.out)) c.give.result
    (totals_as c.stats.result _ _ _ _ c.stats.ensures c.setup.ensures.setup c.services.ensures.list)
    c.in-Ok.ensures
    (subst (λ (v : List ℕ). Tells v (output (g.K.Sink.given c.args.out.now) (g.K.Sink.standing c.args.out.now))
    (output (g.K.Sink.given c.give.new.out) (g.K.Sink.standing c.give.new.out)) c.give.result) c.as_slice.ensures.value c.give.ensures.told)

pub returns-in-Err-clause-told : goal.returns-in-Err-clause-told
returns-in-Err-clause-told g c = λ seed count driven. refl
