use Rattle.std.proofs.Common.{◌∙◌, sym, ap}
use Rattle.eon_model.specs.Services.{Service}
use Rattle.row_events.proofs.RowEventLaws.{turn-leave, may-change, has-changed}
use Rattle.row_events.proofs.legs.leave.Goals as goal

pub leave_both-requires-clause-new : goal.leave_both-requires-clause-new
leave_both-requires-clause-new c = sym (ap (λ (s : Service). s.next) c.service.view_is) ∙ c.in-Some.is

pub leave-requires : goal.leave-requires
leave-requires c =
    may-change _ c.args.service.now _ (turn-leave _ c.args.service.now c.service.view_is c.in-None.is)
    c.args.rows.now c.requires

pub returns-in-None : goal.returns-in-None
returns-in-None c =
    has-changed _ c.args.service.now _ (turn-leave _ c.args.service.now c.service.view_is c.in-None.is)
    c.args.rows.now c.leave.new.self c.leave.ensures
