-- The lines so far were taken.
use Rattle.std.proofs.Common.{map, take}
use Rattle.std.specs.List.{flat_map}
use Rattle.eon_model.specs.RoomReplies.{shift_line}
use Rattle.line_writer.specs.Sent.{Takes}
use Rattle.make_room.specs.Shifts.{shift_told}
use Rattle.room_lines.proofs.printing.put_each_shift.Given as goal

abbrev pub invariant-loop-shift : goal.invariant-loop-shift
invariant-loop-shift g l = Takes (g.W.TextSink.sent l.fn.out) (g.W.TextSink.sent l.out)
    (flat_map shift_line (map shift_told (take l.shift-index l.shifts)))
