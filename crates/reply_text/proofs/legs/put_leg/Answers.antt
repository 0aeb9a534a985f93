use Rattle.line_writer.proofs.WordLaws.{words_both, word_then}
use Rattle.reply_text.proofs.legs.put_leg.Goals as goal

pub returns : goal.returns
returns g c = rw (← c.leg.view_is) (word_then _ _ _ _ _ c.put_word.ensures (words_both _ _ _ _ _ c.put_path.ensures c.put_backup.ensures))
