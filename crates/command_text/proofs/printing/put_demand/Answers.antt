use Rattle.line_writer.proofs.WordLaws.{word_then, words_both}
use Rattle.command_text.proofs.printing.put_demand.Goals as goal

pub returns : goal.returns
returns g c = word_then _ _ _ _ _ c.put_name.ensures (words_both _ _ _ _ _ c.put_names.ensures c.put_terms.ensures)
