use Rattle.eon_outside.specs.declared.reading.Failed.{Failed}
use Rattle.plan_serve.specs.Status.{own_line}
use Rattle.plan_serve.proofs.TopLaws.{line_given, part_given}
use Rattle.plan_serve.proofs.status.refuse.Goals as goal

pub returns-in-Ok-clause-given : goal.returns-in-Ok-clause-given
returns-in-Ok-clause-given g c =
    line_given (Unit {0}) Failed (own_line c.args.status) _ _ (g.K.Sink.standing c.args.out.now)
    (g.K.Sink.standing c.write_line.new.out) c.in-Ok.field-0 c.in-Ok.ensures.bytes c.in-Ok.ensures.stands

pub returns-in-Err-clause-given : goal.returns-in-Err-clause-given
returns-in-Err-clause-given g c =
    part_given (Unit {0}) Failed (own_line c.args.status) _ _ (g.K.Sink.standing c.args.out.now)
    (g.K.Sink.standing c.write_line.new.out) c.in-Err.field-0 c.in-Err.ensures.part c.in-Err.ensures.stands
