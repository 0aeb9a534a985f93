use Rattle.line_session.proofs.FeedLaws.{fed_given, fed_part, fed_broken}
use Rattle.line_session.proofs.session.LineSession.feed.Goals as goal

pub returns-in-Ok-give_held-clause-fed : goal.returns-in-Ok-give_held-clause-fed
returns-in-Ok-give_held-clause-fed g c = λ first before bytes same h.
    fed_given _ _ _ _ before _ _ _ _ c.answer_lines.new.held.items c.give_held.new.held.items
    c.in-Ok-give_held.field-0 c.in-Ok.flow c.in-Ok-give_held.ensures.bytes (c.in-Ok.ensures.fed first before bytes same h)

pub returns-in-Err-give_held-clause-fed : goal.returns-in-Err-give_held-clause-fed
returns-in-Err-give_held-clause-fed g c = λ first before bytes same h.
    fed_part _ _ _ (g.M.Answerer.place c.answer_lines.new.answerer) before _ _ c.answer_lines.new.self.begun.items _
    c.answer_lines.new.held.items c.give_held.new.held.items (Unit {0})
    c.in-Ok.flow c.in-Err-give_held.field-0 c.in-Err-give_held.ensures.bytes (c.in-Ok.ensures.fed first before bytes same h)

pub returns-in-Err-clause-fed : goal.returns-in-Err-clause-fed
returns-in-Err-clause-fed g c = λ first before bytes same h.
    fed_broken _ _ _ before _ _ _ c.answer_lines.new.held.items (g.M.Answerer.place c.answer_lines.new.answerer)
    c.answer_lines.new.self.begun.items c.in-Err.stopped (c.in-Err.ensures.fed first before bytes same h)
