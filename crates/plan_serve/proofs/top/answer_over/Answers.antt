use Rattle.std.proofs.Common.{refl}
use Rattle.plan_serve.specs.Outside.{outside}
use Rattle.plan_serve.proofs.TopLaws.{stream_alike, keeps_all}
use Rattle.plan_serve.proofs.top.answer_over.Goals as goal

pub returns-in-Ok-clause-ends : goal.returns-in-Ok-clause-ends
returns-in-Ok-clause-ends g c =
    let old = c.args.shelf.now in
    let new = c.answer_file.new.shelf in
    stream_alike _ _ c.args.commands.now
    (outside (g.H.Shelf.files old) (g.H.Shelf.opened old) (g.H.Shelf.left old) (g.H.Shelf.faults old)
    (g.K.Sink.given c.args.out.now) (g.K.Sink.standing c.args.out.now))
    (outside (g.H.Shelf.files new) (g.H.Shelf.opened new) (g.H.Shelf.left new) (g.H.Shelf.faults new)
    (g.K.Sink.given c.answer_file.new.out) (g.K.Sink.standing c.answer_file.new.out))
    c.answer_file.result c.in-Ok.ensures.setup c.answer_file.ensures.ends

pub returns-in-Ok-clause-files : goal.returns-in-Ok-clause-files
returns-in-Ok-clause-files g c = c.answer_file.ensures.files

pub returns-in-Ok-clause-calm : goal.returns-in-Ok-clause-calm
returns-in-Ok-clause-calm g c = c.answer_file.ensures.calm

pub returns-in-Ok-clause-room : goal.returns-in-Ok-clause-room
returns-in-Ok-clause-room g c = c.answer_file.ensures.room

pub returns-in-Err-clause-ends : goal.returns-in-Err-clause-ends
returns-in-Err-clause-ends g c = (refl, (refl, refl), keeps_all (g.K.Sink.given c.args.out.now))
