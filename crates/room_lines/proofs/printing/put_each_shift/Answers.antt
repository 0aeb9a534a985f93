use Rattle.room_lines.proofs.TextLaws.{next_shift}
use Rattle.room_lines.proofs.printing.put_each_shift.Goals as goal

pub loop-shift-preserved : goal.loop-shift-preserved
loop-shift-preserved g c =
    next_shift c.args.shifts.now c.loop-shift.shift-index c.shift-item.result _ _ _
    c.loop-shift-test.true c.shift-item.is c.loop-shift.invariant c.put_shift.ensures
