use Rattle.std.proofs.Common.{◌∙◌, subst, refl, inl, ℕ, None}
use Rattle.eon_model.specs.Services.{State}
use Rattle.eon_model.specs.Run.{situation}
use Rattle.eon_outside.specs.declared.reading.Failed.{Failed}
use Rattle.eon_outside.specs.WholeFile.{IsFile}
use Rattle.plan_serve.specs.Files.{IsLeft}
use Rattle.plan_serve.specs.Outside.{outside}
use Rattle.plan_serve.specs.Ends.{AnswersStream, CountsReads}
use Rattle.plan_serve.proofs.TopLaws.{opened_is, stream_told, stream_ends, keeps_all, none_left, not_calm, Legal-none, status_room}
use Rattle.plan_serve.proofs.top.answer_file.Goals as goal

pub returns-in_default-with_capacity-clause-ends :
    goal.returns-in_default-with_capacity-clause-ends
returns-in_default-with_capacity-clause-ends g c = (refl, (refl, refl), keeps_all (g.K.Sink.given c.args.out.now))

pub answer_open-requires-clause-legal : goal.answer_open-requires-clause-legal
answer_open-requires-clause-legal g c = Legal-none c.args.session.now.core.setup c.args.session.now.core.state c.requires.at_start

pub returns-in-Ok-open-clause-ends : goal.returns-in-Ok-open-clause-ends
returns-in-Ok-open-clause-ends g c =
    let old = c.args.shelf.now in
    let open_now = c.open.new.self in
    let new = c.answer_open.new.shelf in
    let out = c.args.out.now in
    let out_new = c.answer_open.new.out in
    let setup = c.args.session.now.core.setup in
    let commands = c.args.commands.now in
    let status = c.answer_open.result in
    let files = g.H.Shelf.files old in
    let answered = subst (λ (v : State). AnswersStream (IsLeft (g.H.Shelf.left open_now)) setup (situation v None) (g.H.Shelf.left new)
    (g.K.Sink.given out) (g.K.Sink.given out_new) status) c.requires.at_start c.answer_open.ensures.answered in
    stream_ends setup commands
    (outside files (g.H.Shelf.opened old) (g.H.Shelf.left old) (g.H.Shelf.faults old) (g.K.Sink.given out) (g.K.Sink.standing out))
    (outside (g.H.Shelf.files new) (g.H.Shelf.opened new) (g.H.Shelf.left new) (g.H.Shelf.faults new) (g.K.Sink.given out_new)
    (g.K.Sink.standing out_new))
    (g.K.Sink.standing out) (g.K.Sink.standing out_new) status (c.answer_open.ensures.opened ∙ c.in-Ok-open.ensures.opened)
    (subst (λ (n : ℕ). CountsReads status n (g.H.Shelf.faults new)) c.in-Ok-open.ensures.counts c.answer_open.ensures.reads)
    c.answer_open.ensures.stands refl refl
    (stream_told (IsLeft (g.H.Shelf.left open_now)) (IsFile files commands) setup (g.H.Shelf.left new) (g.K.Sink.given out)
    (g.K.Sink.given out_new) status
    (λ stream. opened_is Failed files commands (g.H.Shelf.left open_now) c.in-Ok-open.field-0 stream
    c.in-Ok-open.ensures.bytes) answered)

pub returns-in-Ok-open-clause-room : goal.returns-in-Ok-open-clause-room
returns-in-Ok-open-clause-room g c =
    status_room (g.K.Sink.standing c.args.out.now) (g.K.Sink.standing c.answer_open.new.out) c.answer_open.result
    c.answer_open.ensures.stands

pub returns-clause-ends : goal.returns-clause-ends
returns-clause-ends g c = (
  c.in-Err.ensures.opened,
  c.in-Err.ensures.counts,
  refl,
  inl (none_left (g.H.Shelf.left c.open.new.self) c.in-Err.ensures.none_open, keeps_all (g.K.Sink.given c.args.out.now)),
)

pub returns-clause-calm : goal.returns-clause-calm
returns-clause-calm g c = λ calm there e.
    not_calm (Unit {0}) Failed (g.H.Shelf.calm c.args.shelf.now) (g.H.Shelf.calm c.open.new.self)
    (g.H.Shelf.files c.args.shelf.now) c.args.commands.now c.in-Err.field-0 c.in-Err.ensures.calm calm there
