use Rattle.std.proofs.Common.{◌∙◌}
use Rattle.plan_serve.specs.Outside.{outside}
use Rattle.plan_serve.proofs.AskLaws.{asks_live}
use Rattle.plan_serve.proofs.ask.live_over.Goals as goal

pub returns-clause-ends : goal.returns-clause-ends
returns-clause-ends g c =
    let old = c.args.shelf.now in
    let new = c.answer_commands.new.shelf in
    asks_live c.over-live.result c.args.core.now.setup c.args.core.now.state c.args.commands.now
    (outside (g.H.Shelf.files old) (g.H.Shelf.opened old) (g.H.Shelf.left old) (g.H.Shelf.faults old)
    (g.K.Sink.given c.args.out.now) (g.K.Sink.standing c.args.out.now))
    (outside (g.H.Shelf.files new) (g.H.Shelf.opened new) (g.H.Shelf.left new) (g.H.Shelf.faults new)
    (g.K.Sink.given c.answer_commands.new.out) (g.K.Sink.standing c.answer_commands.new.out)) c.answer_commands.result
    (c.over-live.ensures.setup ∙ c.setup.ensures.setup) (c.over-live.ensures.state ∙ c.services.ensures.list) c.over-live.ensures.failed
    c.answer_commands.ensures.ends
