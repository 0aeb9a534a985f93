use Rattle.line_writer.proofs.WordLaws.{line_taken}
use Rattle.room_lines.proofs.printing.put_count.Goals as goal

pub returns : goal.returns
returns g c = line_taken _ _ _ _ _ _ c.put.ensures c.put_number.ensures c.end_line.ensures
