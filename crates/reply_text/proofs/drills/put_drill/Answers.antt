use Rattle.line_writer.proofs.TakesLaws.{takes-both}
use Rattle.reply_text.proofs.drills.put_drill.Goals as goal

pub returns : goal.returns
returns g c =
    let first = rw c.len.ensures at c.put_drill_line.ensures in
    takes-both _ _ _ _ _ first c.put_each_hit.ensures
