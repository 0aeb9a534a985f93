use Rattle.eon_model.specs.Run.{situation}
use Rattle.eon_outside.specs.Held.{given_since}
use Rattle.std.proofs.Common.{refl}
use Rattle.journal_record.specs.Told.{event_told}
use Rattle.reply_text.specs.Replied.{reply_told}
use Rattle.planner_lines.specs.Pacing.{gives_first}
use Rattle.planner_lines.proofs.SettleLaws.{said-settled, settles-made, not-given, says-of, changes-of}
use Rattle.planner_lines.proofs.answering.Planner.settle.Goals as goal

pub returns-in-Say-clause-settled : goal.returns-in-Say-clause-settled
returns-in-Say-clause-settled g c = λ line decided.
    let was = c.args.self.now in
    let here = situation was.core.now.state (g.L.Log.left was.log.now) in
    said-settled was.core.now.setup (gives_first was.pace) (g.L.Log.keeps was.log.now was.log.now) here line here
    (g.K.Sink.given c.args.out.now) c.args.held.now.items (reply_told c.in-Say.reply)
    (says-of was.core.now.setup was.core.now.state line c.args.decision c.in-Say.reply c.in-Say.is decided)
    refl (g.met.L.Log.keeps_none was.log.now)

pub returns-in-Ok-clause-settled : goal.returns-in-Ok-clause-settled
returns-in-Ok-clause-settled g c = λ line decided.
    let was = c.args.self.now in
    let known = g.K.Sink.given c.args.out.now in
    let below = g.K.Sink.given c.give_first.new.out in
    let core = c.make.new.core in
    let log = c.make.new.log in
    settles-made was.core.now.setup (gives_first was.pace) (g.L.Log.keeps was.log.now log)
    (situation was.core.now.state (g.L.Log.left was.log.now)) line (situation core.state (g.L.Log.left log))
    (given_since known known c.args.held.now.items) (given_since known below c.give_first.new.held.items) below
    (event_told c.in-Change.event) (reply_told c.in-Change.reply) (g.L.Log.can_keep was.log.now) c.make.result
    (changes-of was.core.now.setup was.core.now.state line c.args.decision c.in-Change.event c.in-Change.reply c.in-Change.is decided)
    c.make.ensures.made c.give_first.ensures.same c.requires.ready c.in-Ok.ensures.took

pub returns-in-Err-clause-settled : goal.returns-in-Err-clause-settled
returns-in-Err-clause-settled g c = λ line decided.
    let was = c.args.self.now in
    let known = g.K.Sink.given c.args.out.now in
    let below = g.K.Sink.given c.give_first.new.out in
    let here = situation was.core.now.state (g.L.Log.left was.log.now) in
    not-given was.core.now.setup (gives_first was.pace) (g.L.Log.keeps was.log.now was.log.now) here line here
    (given_since known known c.args.held.now.items) (given_since known below c.give_first.new.held.items) below
    (event_told c.in-Change.event) (reply_told c.in-Change.reply)
    (changes-of was.core.now.setup was.core.now.state line c.args.decision c.in-Change.event c.in-Change.reply c.in-Change.is decided)
    c.give_first.ensures.same (g.met.L.Log.keeps_none was.log.now)
