use Rattle.std.proofs.Common.{refl}
use denote.Builtin.{unit}
use Rattle.change_log.specs.declared.log.Unkept.TheVariants.{Full, Disk}
use Rattle.journal_record.specs.Told.{event_told}
use Rattle.reply_text.specs.Replied.{reply_told}
use Rattle.planner_lines.proofs.MakeLaws.{made-it, made-nothing, made-doubtful, room-by, left-by, kept-by}
use Rattle.planner_lines.proofs.keeping.make.Goals as goal

pub returns-in-Ok-clause-made : goal.returns-in-Ok-clause-made
returns-in-Ok-clause-made g c =
    let core = c.args.core.now in
    let log = c.args.log.now in
    let kept = c.keep.new.self in
    made-it core.setup (g.L.Log.keeps log kept) core.state c.apply.new.self.state (g.L.Log.left log) (g.L.Log.left kept)
    (event_told c.args.event) (reply_told c.args.reply) c.in-Ok.ensures.full c.apply.ensures.state c.in-Ok.ensures.left
    c.in-Ok.ensures.kept

pub returns-in-Err-Full-clause-made : goal.returns-in-Err-Full-clause-made
returns-in-Err-Full-clause-made g c =
    let core = c.args.core.now in
    let log = c.args.log.now in
    let kept = c.keep.new.self in
    let told = c.in-Err-Full.ensures in
    let u = c.in-Err-Full.field-0 in
    let v = Full c.in-Err-Full.need c.in-Err-Full.left in
    let Keeps = g.L.Log.keeps log kept in
    let before = g.L.Log.left log in
    let after = g.L.Log.left kept in
    let e = event_told c.args.event in
    let is = c.in-Err-Full.field-0-is in
    let room = room-by unit.Denot Keeps before after e u v is told.full in
    rw is (made-nothing core.setup Keeps core.state core.state before after e (reply_told c.args.reply) c.in-Err-Full.need
    c.in-Err-Full.left room.0 room.1 room.2 refl (left-by unit.Denot Keeps before after e u v is told.left)
    (kept-by unit.Denot Keeps before after e u v is told.kept))

pub returns-clause-made : goal.returns-clause-made
returns-clause-made g c =
    let core = c.args.core.now in
    let log = c.args.log.now in
    let kept = c.keep.new.self in
    let told = c.in-Err-Disk.ensures in
    let u = c.in-Err-Disk.field-0 in
    let Keeps = g.L.Log.keeps log kept in
    let before = g.L.Log.left log in
    let after = g.L.Log.left kept in
    let e = event_told c.args.event in
    let is = c.in-Err-Disk.field-0-is in
    let room = room-by unit.Denot Keeps before after e u Disk is told.full in
    made-doubtful core.setup Keeps core.state core.state before after e (reply_told c.args.reply) room.0 room.1 room.2
    (kept-by unit.Denot Keeps before after e u Disk is told.kept)
