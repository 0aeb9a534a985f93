use Rattle.std.proofs.Common.{refl}
use Rattle.plan_serve.specs.Outside.{outside}
use Rattle.plan_serve.proofs.TopLaws.{dry_ends, dry_at_network, network_said}
use Rattle.plan_serve.proofs.top.dry.Goals as goal

pub returns-in-Ok-clause-ends : goal.returns-in-Ok-clause-ends
returns-in-Ok-clause-ends g c =
    let shelf = c.read_network.new.shelf in
    let old = c.args.shelf.now in
    let new = c.answer_over.new.shelf in
    dry_ends c.in-Ok.setup c.args.net.now c.args.commands.now
    (outside (g.H.Shelf.files old) (g.H.Shelf.opened old) (g.H.Shelf.left old) (g.H.Shelf.faults old)
    (g.K.Sink.given c.args.out.now) (g.K.Sink.standing c.args.out.now))
    (outside (g.H.Shelf.files shelf) (g.H.Shelf.opened shelf) (g.H.Shelf.left shelf) (g.H.Shelf.faults shelf)
    (g.K.Sink.given c.args.out.now) (g.K.Sink.standing c.args.out.now))
    (outside (g.H.Shelf.files new) (g.H.Shelf.opened new) (g.H.Shelf.left new) (g.H.Shelf.faults new)
    (g.K.Sink.given c.answer_over.new.out) (g.K.Sink.standing c.answer_over.new.out)) c.in-Ok.ensures.opened
    c.in-Ok.ensures.network.0 refl refl c.in-Ok.ensures.files c.in-Ok.ensures.network.1 c.answer_over.result
    c.answer_over.ensures.ends

pub returns-in-Err-clause-ends : goal.returns-in-Err-clause-ends
returns-in-Err-clause-ends g c =
    let old = c.args.shelf.now in
    let new = c.read_network.new.shelf in
    let before = outside (g.H.Shelf.files old) (g.H.Shelf.opened old) (g.H.Shelf.left old) (g.H.Shelf.faults old)
    (g.K.Sink.given c.args.out.now) (g.K.Sink.standing c.args.out.now) in
    let now = outside (g.H.Shelf.files new) (g.H.Shelf.opened new) (g.H.Shelf.left new) (g.H.Shelf.faults new)
    (g.K.Sink.given c.refuse.new.out) (g.K.Sink.standing c.refuse.new.out) in
    dry_at_network c.args.net.now c.args.commands.now before now c.refuse.result
    (network_said c.args.net.now before now c.in-Err.status c.refuse.result c.refuse.ensures.status c.in-Err.ensures.opened
    c.in-Err.ensures.network c.refuse.ensures.given)
