use Rattle.line_writer.proofs.WordLaws.{line_taken, words_both}
use Rattle.reply_text.proofs.printing.put_full_journal.Goals as goal

pub returns : goal.returns
returns g c = line_taken _ _ _ _ _ _ c.put.ensures (words_both _ _ _ _ _ c.put_count.ensures c.put_number.ensures)
    c.end_line.ensures
