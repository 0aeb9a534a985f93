use Rattle.std.proofs.Common.{◌≡◌, ℕ, ◌≤◌, List, ◌++◌, length, Option}
use Rattle.std.specs.Io.KnownBytes.{append_known}
use Rattle.line_session.specs.Session.{Goes}
use Rattle.line_session.proofs.session.LineSession.answer_lines.Given as goal

abbrev pub invariant-loop-at : goal.invariant-loop-at
invariant-loop-at g l = record {
  short : length l.rest ≤ length l.piece;
  done : List ℕ;
  whole : l.piece ≡ done ++ l.rest;
  ready : g.M.Answerer.ready l.answerer;
  setting : g.M.Answerer.setting l.answerer ≡ g.M.Answerer.setting l.initial.answerer;
  goes : (first : g.row.M.Denot) (before : Option (List ℕ)) (bytes : List ℕ) → g.M.Answerer.setting l.initial.answerer ≡ g.M.Answerer.setting first
      → Goes (g.M.Answerer.by (g.M.Answerer.setting first)) (g.M.Answerer.went first l.initial.answerer) (g.M.Answerer.place first) before
      (g.M.Answerer.place l.initial.answerer) l.initial.self.begun.items bytes
      (append_known (g.K.Sink.given l.initial.out) l.initial.held.items) (g.K.Sink.given l.initial.out)
      → Goes (g.M.Answerer.by (g.M.Answerer.setting first)) (g.M.Answerer.went first l.answerer) (g.M.Answerer.place first) before
      (g.M.Answerer.place l.answerer) l.self.begun.items (bytes ++ done)
      (append_known (g.K.Sink.given l.out) l.held.items) (g.K.Sink.given l.out);
  stands : g.K.Sink.standing l.out ≡ g.K.Sink.standing l.initial.out;
}

abbrev pub decreases-loop-at : goal.decreases-loop-at
decreases-loop-at g l = length l.rest
