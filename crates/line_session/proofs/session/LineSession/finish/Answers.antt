use Rattle.std.proofs.Common.{sym, ◌∙◌}
use Rattle.line_session.proofs.EndLaws.{not_reading}
use Rattle.line_session.proofs.FeedLaws.{not_nothing, finishes_fed, finishes_broken, stands_at}
use Rattle.line_session.proofs.session.LineSession.finish.Goals as goal

pub returns-in-Ok-clause-ended : goal.returns-in-Ok-clause-ended
returns-in-Ok-clause-ended g c = λ first before bytes same h.
    finishes_fed _ _ _ (g.M.Answerer.place c.feed.new.answerer) before _ _ c.args.self.now.begun.items c.feed.new.self.begun.items bytes
    c.feed.new.held.items
    (not_nothing _ c.args.self.now.begun.len (sym c.is_empty.ensures ∙ c.if-is_empty.false) (sym c.args.self.now.begun.ok.0))
    c.in-Ok.field-0 (c.in-Ok.ensures.fed first before bytes same h)

pub returns-in-Err-clause-ended : goal.returns-in-Err-clause-ended
returns-in-Err-clause-ended g c = λ first before bytes same h.
    finishes_broken _ _ _ (g.M.Answerer.place c.feed.new.answerer) before _ _ c.args.self.now.begun.items c.feed.new.self.begun.items bytes
    c.feed.new.held.items
    (not_nothing _ c.args.self.now.begun.len (sym c.is_empty.ensures ∙ c.if-is_empty.false) (sym c.args.self.now.begun.ok.0))
    c.in-Err.stopped c.outcome_of.result c.outcome_of.ensures (c.in-Err.ensures.fed first before bytes same h)

pub returns-in-Err-clause-stands : goal.returns-in-Err-clause-stands
returns-in-Err-clause-stands g c = stands_at c.in-Err.stopped c.outcome_of.result _ _ c.outcome_of.ensures c.in-Err.ensures.stands

pub returns-in-Err-clause-no_read : goal.returns-in-Err-clause-no_read
returns-in-Err-clause-no_read g c = not_reading c.in-Err.stopped c.outcome_of.result c.outcome_of.ensures
