use Rattle.line_writer.proofs.WordLaws.{line_taken, word_then}
use Rattle.live_failure.proofs.fates.put_failed_line.Goals as goal

pub returns : goal.returns
returns g c = line_taken _ _ _ _ _ _ c.put.ensures (word_then _ _ _ _ _ c.put_word.ensures (word_then _ _ _ _ _ c.put_group.ensures c.put_number.ensures)) c.end_line.ensures
