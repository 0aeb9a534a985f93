use Rattle.std.proofs.Common.{sym, ◌∙◌, None}
use Rattle.eon_model.specs.Run.{situation}
use Rattle.plan_serve.proofs.FeedLaws.{not_nothing, finishes_fed}
use Rattle.plan_serve.proofs.session.Session.finish.Goals as goal

pub returns-in-Ok-clause-ended : goal.returns-in-Ok-clause-ended
returns-in-Ok-clause-ended g c = λ start before bytes h.
    finishes_fed _ start (situation c.feed.new.self.core.state None) before _ c.args.self.now.begun.items c.feed.new.self.begun.items bytes
    c.feed.new.out.held.now.items c.in-Ok.field-0
    (not_nothing _ c.args.self.now.begun.len (sym c.is_empty.ensures ∙ c.if-is_empty.false) (sym c.args.self.now.begun.ok.0))
    (c.in-Ok.ensures.fed start before bytes h)
