use Rattle.std.proofs.Common.{inl, inr}
use Rattle.plan_serve.specs.Outside.{outside}
use Rattle.plan_serve.proofs.TopLaws.{network_said}
use Rattle.plan_serve.proofs.drive.drive.Goals as goal

pub returns-in-Ok-clause-ends : goal.returns-in-Ok-clause-ends
returns-in-Ok-clause-ends g c =
    inr (
      (c.in-Ok.ensures.opened, c.in-Ok.ensures.network.0),
      (c.in-Ok.setup, c.in-Ok.ensures.network.1, c.drive_over.ensures.told),
    )

pub returns-in-Err-clause-ends : goal.returns-in-Err-clause-ends
returns-in-Err-clause-ends g c =
    let old = c.args.shelf.now in
    let new = c.read_network.new.shelf in
    inl (network_said c.args.net.now
    (outside (g.H.Shelf.files old) (g.H.Shelf.opened old) (g.H.Shelf.left old) (g.H.Shelf.faults old)
    (g.K.Sink.given c.args.out.now) (g.K.Sink.standing c.args.out.now))
    (outside (g.H.Shelf.files new) (g.H.Shelf.opened new) (g.H.Shelf.left new) (g.H.Shelf.faults new)
    (g.K.Sink.given c.refuse.new.out) (g.K.Sink.standing c.refuse.new.out)) c.in-Err.status c.refuse.result
    c.refuse.ensures.status c.in-Err.ensures.opened c.in-Err.ensures.network c.refuse.ensures.given)
