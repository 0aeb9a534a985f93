use Rattle.line_writer.proofs.WordLaws.{line_taken, words_both}
use Rattle.reply_text.proofs.printing.put_stats.Goals as goal

pub returns : goal.returns
returns g c = rw (← c.stats.view_is) (line_taken _ _ _ _ _ _ c.put.ensures
    (words_both _ _ _ _ _ c.put_count.ensures (words_both _ _ _ _ _ c.put_count-2.ensures
    (words_both _ _ _ _ _ c.put_count-3.ensures (words_both _ _ _ _ _ c.put_count-4.ensures
    (words_both _ _ _ _ _ c.put_count-5.ensures c.put_count-6.ensures))))) c.end_line.ensures)
