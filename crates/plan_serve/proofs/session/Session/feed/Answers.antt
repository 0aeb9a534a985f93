use Rattle.std.proofs.Common.{None}
use Rattle.eon_model.specs.Run.{situation}
use Rattle.plan_serve.proofs.FeedLaws.{fed_given, fed_part, fed_broken}
use Rattle.plan_serve.proofs.session.Session.feed.Goals as goal

pub returns-in-Ok-flush-clause-fed : goal.returns-in-Ok-flush-clause-fed
returns-in-Ok-flush-clause-fed g c = λ start before bytes h.
    fed_given _ start _ before g.S.Start.bytes (g.K.Sink.given c.answer_lines.new.out.out.now)
    (g.K.Sink.given c.flush.new.self.out.now) _ _ c.answer_lines.new.out.held.now.items c.flush.new.self.held.now.items
    c.in-Ok-flush.field-0 c.in-Ok.flow c.in-Ok-flush.ensures.bytes (c.in-Ok.ensures.fed start before bytes h)

pub returns-in-Err-flush-clause-fed : goal.returns-in-Err-flush-clause-fed
returns-in-Err-flush-clause-fed g c = λ start before bytes h.
    fed_part _ start (situation c.answer_lines.new.self.core.state None) before g.S.Start.bytes
    (g.K.Sink.given c.answer_lines.new.out.out.now) (g.K.Sink.given c.flush.new.self.out.now)
    c.answer_lines.new.self.begun.items _ c.answer_lines.new.out.held.now.items c.flush.new.self.held.now.items (Unit {0})
    c.in-Ok.flow c.in-Err-flush.field-0 c.in-Err-flush.ensures.bytes (c.in-Ok.ensures.fed start before bytes h)

pub returns-in-Err-clause-fed : goal.returns-in-Err-clause-fed
returns-in-Err-clause-fed g c = λ start before bytes h.
    fed_broken _ start before _ _ c.answer_lines.new.out.held.now.items (c.in-Err.ensures.fed start before bytes h)
