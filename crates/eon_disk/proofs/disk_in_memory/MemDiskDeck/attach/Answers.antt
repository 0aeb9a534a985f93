use Rattle.std.proofs.Common.{◌∙◌, ap, Bool, Some, true, false}
use Rattle.eon_disk.specs.Asked.{asked_of}
use Rattle.eon_disk.specs.HeldDisk.{HeldDisk, after_no_change, after_attach}
use Rattle.eon_disk.proofs.DiskTells.{attached}
use Rattle.eon_disk.proofs.disk_in_memory.MemDiskDeck.attach.Goals as goal

pub returns-then-start_call-clause-is : goal.returns-then-start_call-clause-is
returns-then-start_call-clause-is c =
    let inside = c.self.inside in
    let before : HeldDisk = record {
      held = inside.medium.held;
      room = inside.room;
      plan = inside.plan;
      stop = inside.stop;
      asked = asked_of inside.create inside.names.names;
    } in
    let asked = asked_of (Some c.args.create) c.note.new.self.names in
    c.start_call.ensures.is
    ∙ ap (λ (b : Bool). after_no_change b (record before { asked = asked })) c.if-start_call.true
    ∙ attached true before inside.names.names c.note.new.self.names c.as_bytes.result.now c.args.name.now c.args.create
    c.note.ensures c.as_bytes.ensures.value
    ∙ ap (after_attach true (record { name = c.args.name.now; create = c.args.create })) c.self.view_is

pub returns-clause-is : goal.returns-clause-is
returns-clause-is c =
    let inside = c.self.inside in
    let before : HeldDisk = record {
      held = inside.medium.held;
      room = inside.room;
      plan = inside.plan;
      stop = inside.stop;
      asked = asked_of inside.create inside.names.names;
    } in
    let asked = asked_of (Some c.args.create) c.note.new.self.names in
    c.start_call.ensures.is
    ∙ ap (λ (b : Bool). after_no_change b (record before { asked = asked })) c.if-start_call.false
    ∙ attached false before inside.names.names c.note.new.self.names c.as_bytes.result.now c.args.name.now c.args.create
    c.note.ensures c.as_bytes.ensures.value
    ∙ ap (after_attach false (record { name = c.args.name.now; create = c.args.create })) c.self.view_is
