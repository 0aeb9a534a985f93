use Rattle.std.proofs.Common.{sym, ◌∙◌, ap, subst, List, ℕ, OnErr}
use Rattle.eon_outside.specs.Writing.{AppendsPart}
use Rattle.plan_serve.specs.Status.{own_line}
use Rattle.plan_serve.proofs.status.Status.write_line.Goals as goal

pub returns-in-Words-clause-part : goal.returns-in-Words-clause-part
returns-in-Words-clause-part g c =
    subst (λ (v : List ℕ). OnErr c.write_all.result (AppendsPart (g.K.Sink.given c.args.out.now) (g.K.Sink.given c.write_all.new.out) v))
    (c.as_bytes.ensures.value ∙ ap own_line (sym c.in-Words.is)) c.write_all.ensures.part
