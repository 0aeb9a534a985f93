use Rattle.std.proofs.Common.{◌∙◌, refl, sym, inl, subst, ℕ}
use Rattle.eon_outside.specs.declared.reading.Failed.{Failed}
use Rattle.eon_outside.specs.WholeFile.{IsFile}
use Rattle.line_session.specs.Ends.{CountsReads}
use Rattle.line_session.specs.Lines as session
use Rattle.plan_serve.specs.AskEnds.{AsksStream}
use Rattle.plan_serve.specs.declared.status.Status.{Status}
use Rattle.plan_serve.specs.Outside.{outside}
use Rattle.plan_serve.proofs.TopLaws.{keeps_all, not_calm}
use Rattle.plan_serve.proofs.AskLaws.{none_is_left, stream_is, stream_of, asked_ends, outcome_room, no_read_fault}
use Rattle.plan_serve.proofs.stream.answer_commands.Goals as goal

pub returns-in_default-with_capacity-clause-ends : goal.returns-in_default-with_capacity-clause-ends
returns-in_default-with_capacity-clause-ends g c = (refl, (refl, refl), keeps_all (g.K.Sink.given c.args.out.now))

pub returns-in-Ok-open-clause-ends : goal.returns-in-Ok-open-clause-ends
returns-in-Ok-open-clause-ends g c =
    let old = c.args.shelf.now in
    let open_now = c.open.new.self in
    let new = c.answer_stream.new.shelf in
    let out = c.args.out.now in
    let out_new = c.answer_stream.new.out in
    let answering = g.M.Answerer.by (g.M.Answerer.setting c.args.answerer.now) in
    let went = g.M.Answerer.went c.args.answerer.now c.answer_stream.new.answerer in
    let start = g.M.Answerer.place c.args.answerer.now in
    let commands = c.args.commands.now in
    let ended = c.answer_stream.result in
    let files = g.H.Shelf.files old in
    let before = outside files (g.H.Shelf.opened old) (g.H.Shelf.left old) (g.H.Shelf.faults old) (g.K.Sink.given out)
    (g.K.Sink.standing out) in
    let now = outside (g.H.Shelf.files new) (g.H.Shelf.opened new) (g.H.Shelf.left new) (g.H.Shelf.faults new)
    (g.K.Sink.given out_new) (g.K.Sink.standing out_new) in
    subst (λ (v : Status). AsksStream answering went start commands before now v) (sym c.status_behind.ensures)
    (asked_ends answering went start commands before now (g.K.Sink.standing out) (g.K.Sink.standing out_new) ended
    (c.answer_stream.ensures.opened ∙ c.in-Ok-open.ensures.opened)
    (subst (λ (n : ℕ). CountsReads ended n (g.H.Shelf.faults new)) c.in-Ok-open.ensures.counts c.answer_stream.ensures.reads)
    c.answer_stream.ensures.stands refl refl
    (stream_of answering went start (session.IsLeft (g.H.Shelf.left open_now)) (IsFile files commands) (g.H.Shelf.left new)
    (g.K.Sink.given out) (g.K.Sink.given out_new) ended
    (λ stream. stream_is Failed files commands (g.H.Shelf.left open_now) c.in-Ok-open.field-0 stream
    c.in-Ok-open.ensures.bytes) c.answer_stream.ensures.answered))

pub returns-in-Ok-open-clause-room : goal.returns-in-Ok-open-clause-room
returns-in-Ok-open-clause-room g c =
    outcome_room (g.K.Sink.standing c.args.out.now) (g.K.Sink.standing c.answer_stream.new.out) c.answer_stream.result
    c.answer_stream.ensures.stands

pub returns-in-Ok-open-clause-calm : goal.returns-in-Ok-open-clause-calm
returns-in-Ok-open-clause-calm g c = λ calm there.
    no_read_fault c.answer_stream.result c.status_behind.result c.status_behind.ensures
    (c.answer_stream.ensures.calm (c.in-Ok-open.ensures.calm calm).0)

pub returns-clause-ends : goal.returns-clause-ends
returns-clause-ends g c = (
  c.in-Err.ensures.opened,
  c.in-Err.ensures.counts,
  refl,
  inl (none_is_left (g.H.Shelf.left c.open.new.self) c.in-Err.ensures.none_open, keeps_all (g.K.Sink.given c.args.out.now)),
)

pub returns-clause-calm : goal.returns-clause-calm
returns-clause-calm g c = λ calm there e.
    not_calm (Unit {0}) Failed (g.H.Shelf.calm c.args.shelf.now) (g.H.Shelf.calm c.open.new.self)
    (g.H.Shelf.files c.args.shelf.now) c.args.commands.now c.in-Err.field-0 c.in-Err.ensures.calm calm there
