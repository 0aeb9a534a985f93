use Rattle.line_writer.proofs.TakesLaws.{takes-both}
use Rattle.line_writer.proofs.WordLaws.{word_then}
use Rattle.reply_text.proofs.printing.begin_ok.Goals as goal

pub returns : goal.returns
returns g c = takes-both _ _ _ _ _ c.put.ensures (word_then _ _ _ _ _ c.put_word.ensures c.put_name.ensures)
