use Rattle.std.proofs.Common.{◌≡◌, ◌≤◌, ◌-◌, []}
use Rattle.std.specs.Prelude.{IsTrue}
use Rattle.std.specs.Io.KnownBytes.{append_known}
use Rattle.eon_model.specs.Modes.{stream_limit}
use Rattle.line_session.proofs.EndLaws.{Going}
use Rattle.line_session.proofs.session.LineSession.answer_stream.Given as goal

abbrev pub invariant-loop-count : goal.invariant-loop-count
invariant-loop-count g l = record {
  within : l.taken ≤ stream_limit;
  ready : g.M.Answerer.ready l.answerer;
  setting : g.M.Answerer.setting l.answerer ≡ g.M.Answerer.setting l.initial.answerer;
  going : Going (g.M.Answerer.by (g.M.Answerer.setting l.initial.answerer)) (g.M.Answerer.went l.initial.answerer l.answerer)
      (g.M.Answerer.place l.initial.answerer) (g.H.Shelf.left l.initial.shelf) (g.H.Shelf.left l.shelf)
      (g.K.Sink.given l.initial.out) (g.M.Answerer.place l.answerer) l.self.begun.items l.taken
      (append_known (g.K.Sink.given l.out) l.held.items) (g.K.Sink.given l.out);
  held : l.held.items ≡ [];
  files : g.H.Shelf.files l.shelf ≡ g.H.Shelf.files l.initial.shelf;
  opened : g.H.Shelf.opened l.shelf ≡ g.H.Shelf.opened l.initial.shelf;
  reads : g.H.Shelf.faults l.shelf ≡ g.H.Shelf.faults l.initial.shelf;
  stands : g.K.Sink.standing l.out ≡ g.K.Sink.standing l.initial.out;
  calm : IsTrue (g.H.Shelf.calm l.initial.shelf) → IsTrue (g.H.Shelf.calm l.shelf);
}

abbrev pub decreases-loop-count : goal.decreases-loop-count
decreases-loop-count g l = stream_limit - l.taken
