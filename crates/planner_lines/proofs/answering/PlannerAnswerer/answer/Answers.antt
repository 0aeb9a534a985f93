use Rattle.std.proofs.Common.{refl, ◌∙◌, ap, Ok, Err}
use Rattle.eon_model.specs.Run.{situation}
use Rattle.eon_outside.specs.Held.{given_since}
use Rattle.reply_text.specs.Replied.{reply_told}
use Rattle.planner_lines.specs.Pacing.{gives_first}
use Rattle.planner_lines.specs.Answering.{Setting}
use Rattle.planner_lines.proofs.SettleLaws.{settles-from, told-there, given-whole, given-part, still-ready}
use Rattle.planner_lines.proofs.answering.PlannerAnswerer.answer.Goals as goal

pub returns-in-Err-clause-told : goal.returns-in-Err-clause-told
returns-in-Err-clause-told g c =
    let was = c.args.self.now in
    let here = c.decide-decision.new.core in
    let new = c.settle.new.self in
    let known = g.K.Sink.given c.args.out.now in
    let below = g.K.Sink.given c.settle.new.out in
    settles-from was.core.now.setup here.setup was.core.now.state here.state (gives_first was.pace)
    (g.L.Log.keeps was.log.now new.log.now) (g.L.Log.left was.log.now)
    (situation new.core.now.state (g.L.Log.left new.log.now)) c.args.line.now
    (given_since known known c.args.held.now.items) (given_since known below c.settle.new.held.items) below
    c.decide-decision.result (Err c.in-Err.stopped) c.decide-decision.ensures.setup c.decide-decision.ensures.state
    c.decide-decision.ensures.decided (c.in-Err.ensures.settled c.args.line.now)

pub give_reply-requires : goal.give_reply-requires
give_reply-requires g c =
    let was = c.args.self.now in
    let here = c.decide-decision.new.core in
    let new = c.settle.new.self in
    let known = g.K.Sink.given c.args.out.now in
    let below = g.K.Sink.given c.settle.new.out in
    let settled = settles-from was.core.now.setup here.setup was.core.now.state here.state (gives_first was.pace)
    (g.L.Log.keeps was.log.now new.log.now) (g.L.Log.left was.log.now)
    (situation new.core.now.state (g.L.Log.left new.log.now)) c.args.line.now
    (given_since known known c.args.held.now.items) (given_since known below c.settle.new.held.items) below
    c.decide-decision.result (Ok c.in-Ok.reply) c.decide-decision.ensures.setup c.decide-decision.ensures.state
    c.decide-decision.ensures.decided (c.in-Ok.ensures.settled c.args.line.now) in
    record {
      there = told-there was.core.now.setup new.core.now.setup new.core.now.state new.core.now.state (reply_told c.in-Ok.reply)
          (c.settle.ensures.setup ∙ c.decide-decision.ensures.setup) refl settled.tellable;
    }

pub returns-in-Ok-give_reply-clause-ready : goal.returns-in-Ok-give_reply-clause-ready
returns-in-Ok-give_reply-clause-ready g c =
    let was = c.args.self.now in
    let here = c.decide-decision.new.core in
    let new = c.settle.new.self in
    let known = g.K.Sink.given c.args.out.now in
    let below = g.K.Sink.given c.settle.new.out in
    let settled = settles-from was.core.now.setup here.setup was.core.now.state here.state (gives_first was.pace)
    (g.L.Log.keeps was.log.now new.log.now) (g.L.Log.left was.log.now)
    (situation new.core.now.state (g.L.Log.left new.log.now)) c.args.line.now
    (given_since known known c.args.held.now.items) (given_since known below c.settle.new.held.items) below
    c.decide-decision.result (Ok c.in-Ok.reply) c.decide-decision.ensures.setup c.decide-decision.ensures.state
    c.decide-decision.ensures.decided (c.in-Ok.ensures.settled c.args.line.now) in
    let s : Setting = record {
      setup = was.core.now.setup;
      acknowledges = gives_first was.pace;
      core = was.core.ghost_name;
      log = was.log.ghost_name;
    } in
    still-ready s (g.L.Log.keeps was.log.now new.log.now) (situation was.core.now.state (g.L.Log.left was.log.now))
    (situation new.core.now.state (g.L.Log.left new.log.now)) c.args.line.now known below below c.args.held.now.items
    c.settle.new.held.items c.settle.new.held.items (reply_told c.in-Ok.reply) settled
    (g.L.Log.can_keep new.log.now) (g.L.Log.can_keep was.log.now) new.core.now.setup (gives_first new.pace)
    (ap gives_first c.settle.ensures.pace) c.requires.ready c.in-Ok.ensures.open c.give_reply.ensures.in_range
    c.give_reply.ensures.legal

pub returns-in-Ok-give_reply-clause-told : goal.returns-in-Ok-give_reply-clause-told
returns-in-Ok-give_reply-clause-told g c =
    let was = c.args.self.now in
    let here = c.decide-decision.new.core in
    let new = c.settle.new.self in
    let known = g.K.Sink.given c.args.out.now in
    let below = g.K.Sink.given c.settle.new.out in
    let settled = settles-from was.core.now.setup here.setup was.core.now.state here.state (gives_first was.pace)
    (g.L.Log.keeps was.log.now new.log.now) (g.L.Log.left was.log.now)
    (situation new.core.now.state (g.L.Log.left new.log.now)) c.args.line.now
    (given_since known known c.args.held.now.items) (given_since known below c.settle.new.held.items) below
    c.decide-decision.result (Ok c.in-Ok.reply) c.decide-decision.ensures.setup c.decide-decision.ensures.state
    c.decide-decision.ensures.decided (c.in-Ok.ensures.settled c.args.line.now) in
    let s : Setting = record {
      setup = was.core.now.setup;
      acknowledges = gives_first was.pace;
      core = was.core.ghost_name;
      log = was.log.ghost_name;
    } in
    given-whole s (g.L.Log.keeps was.log.now new.log.now) (situation was.core.now.state (g.L.Log.left was.log.now))
    (situation new.core.now.state (g.L.Log.left new.log.now)) c.args.line.now known below
    (g.K.Sink.given c.give_reply.new.out) c.args.held.now.items c.settle.new.held.items c.give_reply.new.held.items
    (reply_told c.in-Ok.reply) settled new.core.now.setup new.core.now.state c.flow_behind.result
    (c.settle.ensures.setup ∙ c.decide-decision.ensures.setup) refl c.flow_behind.ensures c.in-Ok-give_reply.ensures.bytes

pub returns-clause-told : goal.returns-clause-told
returns-clause-told g c =
    let was = c.args.self.now in
    let here = c.decide-decision.new.core in
    let new = c.settle.new.self in
    let known = g.K.Sink.given c.args.out.now in
    let below = g.K.Sink.given c.settle.new.out in
    let settled = settles-from was.core.now.setup here.setup was.core.now.state here.state (gives_first was.pace)
    (g.L.Log.keeps was.log.now new.log.now) (g.L.Log.left was.log.now)
    (situation new.core.now.state (g.L.Log.left new.log.now)) c.args.line.now
    (given_since known known c.args.held.now.items) (given_since known below c.settle.new.held.items) below
    c.decide-decision.result (Ok c.in-Ok.reply) c.decide-decision.ensures.setup c.decide-decision.ensures.state
    c.decide-decision.ensures.decided (c.in-Ok.ensures.settled c.args.line.now) in
    let s : Setting = record {
      setup = was.core.now.setup;
      acknowledges = gives_first was.pace;
      core = was.core.ghost_name;
      log = was.log.ghost_name;
    } in
    given-part s (g.L.Log.keeps was.log.now new.log.now) (situation was.core.now.state (g.L.Log.left was.log.now))
    (situation new.core.now.state (g.L.Log.left new.log.now)) c.args.line.now known below
    (g.K.Sink.given c.give_reply.new.out) c.args.held.now.items c.settle.new.held.items c.give_reply.new.held.items
    (reply_told c.in-Ok.reply) settled new.core.now.setup new.core.now.state
    (c.settle.ensures.setup ∙ c.decide-decision.ensures.setup) refl c.in-Err-give_reply.ensures.part
