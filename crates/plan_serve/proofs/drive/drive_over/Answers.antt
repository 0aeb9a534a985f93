use Rattle.plan_serve.specs.Outside.{output}
use Rattle.plan_serve.proofs.DriveLaws.{drive_as}
use Rattle.plan_serve.proofs.drive.drive_over.Goals as goal

pub returns-in-Ok-clause-told : goal.returns-in-Ok-clause-told
returns-in-Ok-clause-told g c =
    drive_as c.args.setup c.in-Ok.core.setup c.answer_load-tally.new.core.setup c.args.seed c.args.count
    c.answer_load-tally.new.core.state c.answer_load-tally.result
    (output (g.K.Sink.given c.args.out.now) (g.K.Sink.standing c.args.out.now))
    (output (g.K.Sink.given c.tell_summary.new.out) (g.K.Sink.standing c.tell_summary.new.out)) c.tell_summary.result
    c.in-Ok.ensures.setup c.answer_load-tally.ensures.setup c.answer_load-tally.ensures.driven c.tell_summary.ensures.told
