use Rattle.line_writer.proofs.WordLaws.{line_taken, word_then}
use Rattle.live_failure.proofs.printing.put_repaired.Goals as goal

pub returns : goal.returns
returns g c = line_taken _ _ _ _ _ _ c.put.ensures (word_then _ _ _ _ _ c.put_word.ensures c.put_group.ensures) c.end_line.ensures
