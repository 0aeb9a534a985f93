use Rattle.std.proofs.Common.{◌≡◌, sym, subst}
use Rattle.plan_serve.specs.AskEnds.{RefusesNetwork, IsRefused, live_on}
use Rattle.plan_serve.specs.Outside.{outside, disk_seen}
use Rattle.plan_serve.specs.declared.status.Status.{Status}
use Rattle.plan_serve.proofs.AskLaws.{ask_ends, ask_refused, asked_later}
use Rattle.plan_serve.proofs.ask.live.Goals as goal

pub returns-in-Ok-clause-ends : goal.returns-in-Ok-clause-ends
returns-in-Ok-clause-ends g c =
    let old = c.args.shelf.now in
    let mid = c.open_state.new.shelf in
    let new = c.live_over.new.shelf in
    let disk = c.args.disk.now in
    let later = c.open_state.new.disk in
    ask_ends live_on _ c.args.net.now c.args.journal.now c.args.commands.now
    (outside (g.H.Shelf.files old) (g.H.Shelf.opened old) (g.H.Shelf.left old) (g.H.Shelf.faults old)
    (g.K.Sink.given c.args.out.now) (g.K.Sink.standing c.args.out.now))
    (outside (g.H.Shelf.files new) (g.H.Shelf.opened new) (g.H.Shelf.left new) (g.H.Shelf.faults new)
    (g.K.Sink.given c.live_over.new.out) (g.K.Sink.standing c.live_over.new.out))
    (disk_seen (g.D.Disk.now disk) (g.D.Disk.images disk) (g.D.Disk.asked disk) (g.D.Disk.faults disk))
    (disk_seen (g.D.Disk.now later) (g.D.Disk.images later) (g.D.Disk.asked later) (g.D.Disk.faults later)) c.in-Ok.ensures.now
    c.in-Ok.core (g.H.Shelf.files mid) (g.H.Shelf.opened mid) (g.H.Shelf.left mid) (g.H.Shelf.faults mid) c.live_over.result
    c.in-Ok.ensures.files c.in-Ok.ensures.names c.in-Ok.ensures.opened c.live_over.ensures.legal c.live_over.ensures.ends

pub returns-in-Err-clause-ends : goal.returns-in-Err-clause-ends
returns-in-Err-clause-ends g c =
    let old = c.args.shelf.now in
    let new = c.open_state.new.shelf in
    let disk = c.args.disk.now in
    let later = c.open_state.new.disk in
    ask_refused live_on _ c.args.net.now c.args.journal.now c.args.commands.now
    (outside (g.H.Shelf.files old) (g.H.Shelf.opened old) (g.H.Shelf.left old) (g.H.Shelf.faults old)
    (g.K.Sink.given c.args.out.now) (g.K.Sink.standing c.args.out.now))
    (outside (g.H.Shelf.files new) (g.H.Shelf.opened new) (g.H.Shelf.left new) (g.H.Shelf.faults new)
    (g.K.Sink.given c.refuse.new.out) (g.K.Sink.standing c.refuse.new.out))
    (disk_seen (g.D.Disk.now disk) (g.D.Disk.images disk) (g.D.Disk.asked disk) (g.D.Disk.faults disk))
    (disk_seen (g.D.Disk.now later) (g.D.Disk.images later) (g.D.Disk.asked later) (g.D.Disk.faults later)) c.in-Err.ensures.now
    c.in-Err.status c.refuse.result c.refuse.ensures.status c.in-Err.ensures.names c.in-Err.ensures.opened c.refuse.ensures.given

pub returns-in-Ok-clause-untouched : goal.returns-in-Ok-clause-untouched
returns-in-Ok-clause-untouched g c = λ refused.
    let old = c.open_state.new.shelf in
    let new = c.live_over.new.shelf in
    absurd (asked_later (live_on c.in-Ok.core.setup c.in-Ok.core.state) _ _ c.args.commands.now
    (outside (g.H.Shelf.files old) (g.H.Shelf.opened old) (g.H.Shelf.left old) (g.H.Shelf.faults old)
    (g.K.Sink.given c.args.out.now) (g.K.Sink.standing c.args.out.now))
    (outside (g.H.Shelf.files new) (g.H.Shelf.opened new) (g.H.Shelf.left new) (g.H.Shelf.faults new)
    (g.K.Sink.given c.live_over.new.out) (g.K.Sink.standing c.live_over.new.out)) c.live_over.result c.live_over.ensures.ends
    refused)

pub returns-in-Err-clause-untouched : goal.returns-in-Err-clause-untouched
returns-in-Err-clause-untouched g c = λ refused.
    c.in-Err.ensures.untouched (subst (λ (s : Status). RefusesNetwork s) c.refuse.ensures.status refused)
