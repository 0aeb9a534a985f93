use Rattle.std.proofs.Common.{◌≡◌, ℕ, ◌≤◌, List, ◌++◌, length, Option, None}
use Rattle.eon_model.specs.Run.{Situation, situation}
use Rattle.plan_serve.specs.Session.{Goes}
use Rattle.plan_serve.proofs.session.Session.answer_lines.Given as goal

abbrev pub invariant-loop-at : goal.invariant-loop-at
invariant-loop-at g l = record {
  short : length l.rest ≤ length l.piece;
  done : List ℕ;
  whole : l.piece ≡ done ++ l.rest;
  setup : l.self.core.setup ≡ l.initial.self.core.setup;
  goes : (start : Situation) (before : Option (List ℕ)) (bytes : List ℕ)
      → Goes l.initial.self.core.setup start before (situation l.initial.self.core.state None) l.initial.self.begun.items bytes
      (g.K.Sink.given l.initial.out)
      → Goes l.initial.self.core.setup start before (situation l.self.core.state None) l.self.begun.items (bytes ++ done)
      (g.K.Sink.given l.out);
  stands : g.K.Sink.standing l.out ≡ g.K.Sink.standing l.initial.out;
}

abbrev pub decreases-loop-at : goal.decreases-loop-at
decreases-loop-at g l = length l.rest
