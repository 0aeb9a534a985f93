use Rattle.std.proofs.Common.{◌≡◌, ◌≤◌, ◌-◌, [], None}
use Rattle.std.specs.Prelude.{IsTrue}
use Rattle.eon_model.specs.Modes.{stream_limit}
use Rattle.eon_model.specs.Run.{situation}
use Rattle.eon_outside.specs.Held.{standing_over, given_since}
use Rattle.plan_serve.proofs.EndLaws.{Going}
use Rattle.plan_serve.proofs.session.Session.answer_stream.Given as goal

abbrev pub invariant-loop-count : goal.invariant-loop-count
invariant-loop-count g l = record {
  within : l.taken ≤ stream_limit;
  setup : l.self.core.setup ≡ l.initial.self.core.setup;
  going : Going l.initial.self.core.setup (situation l.initial.self.core.state None) (g.H.Shelf.left l.initial.shelf)
      (g.H.Shelf.left l.shelf)
      (given_since g.S.Start.bytes (g.K.Sink.given l.initial.out.out.now) l.initial.out.held.now.items)
      (situation l.self.core.state None) l.self.begun.items l.taken
      (given_since g.S.Start.bytes (g.K.Sink.given l.out.out.now) l.out.held.now.items);
  held : l.out.held.now.items ≡ [];
  files : g.H.Shelf.files l.shelf ≡ g.H.Shelf.files l.initial.shelf;
  opened : g.H.Shelf.opened l.shelf ≡ g.H.Shelf.opened l.initial.shelf;
  reads : g.H.Shelf.faults l.shelf ≡ g.H.Shelf.faults l.initial.shelf;
  stands : standing_over l.out.out.ghost_name l.out.held.ghost_name (g.K.Sink.standing l.out.out.now)
      ≡ standing_over l.initial.out.out.ghost_name l.initial.out.held.ghost_name (g.K.Sink.standing l.initial.out.out.now);
  calm : IsTrue (g.H.Shelf.calm l.initial.shelf) → IsTrue (g.H.Shelf.calm l.shelf);
}

abbrev pub decreases-loop-count : goal.decreases-loop-count
decreases-loop-count g l = stream_limit - l.taken
