use Rattle.line_writer.proofs.WordLaws.{line_taken}
use Rattle.line_writer.proofs.words.put_line.Goals as goal

pub returns : goal.returns
returns g c = line_taken _ _ _ _ c.args.first.now _ c.put.ensures c.put_words.ensures c.end_line.ensures
