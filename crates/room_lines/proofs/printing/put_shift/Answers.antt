use Rattle.std.proofs.Common.{w16, rules}
use mir.Val.{SFits}
use Rattle.std.proofs.lemmas.Int.{to_z-of_z}
use Rattle.line_writer.proofs.WordLaws.{line_taken, word_then}
use Rattle.room_lines.proofs.printing.put_shift.Goals as goal

pub returns : goal.returns
returns g c =
    let m = c.args.shift.now in
    let low : SFits w16 m.from = search rules in
    let high : SFits w16 m.to = search rules in
    let from = rw (to_z-of_z w16 m.from low) at c.put_centre.ensures in
    let to = rw (to_z-of_z w16 m.to high) at c.put_centre-2.ensures in
    line_taken _ _ _ _ _ _ c.put.ensures (word_then _ _ _ _ _ c.put_name.ensures (word_then _ _ _ _ _ from to)) c.end_line.ensures
