use Rattle.eon_outside.specs.declared.reading.Failed.{Failed}
use Rattle.eon_outside.specs.Held.{given_since}
use Rattle.room_lines.proofs.SettingSteps.{line_whole, line_part}
use Rattle.room_lines.proofs.session.RoomsAnswerer.answer.Goals as goal

pub returns-in-Ok-clause-told : goal.returns-in-Ok-clause-told
returns-in-Ok-clause-told g c =
    let start = g.K.Sink.given c.args.out.now in
    let now = g.K.Sink.given c.answer_behind.new.out in
    line_whole {E = Failed} c.args.self.now c.args.line.now (given_since start start c.args.held.now.items)
    (given_since start now c.answer_behind.new.held.items) now c.in-Ok.flow c.in-Ok.ensures.told

pub returns-in-Err-clause-told : goal.returns-in-Err-clause-told
returns-in-Err-clause-told g c =
    let start = g.K.Sink.given c.args.out.now in
    let now = g.K.Sink.given c.answer_behind.new.out in
    line_part {E = Failed} c.args.self.now c.args.line.now (given_since start start c.args.held.now.items)
    (given_since start now c.answer_behind.new.held.items) now c.in-Err.field-0 c.in-Err.ensures.told
