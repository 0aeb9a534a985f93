use Rattle.line_writer.proofs.WordLaws.{line_taken, word_then}
use Rattle.reply_text.proofs.plans.put_plan_line.Goals as goal

pub returns : goal.returns
returns g c = line_taken _ _ _ _ _ _ c.put.ensures
    (word_then _ _ _ _ _ c.put_number.ensures c.put_number-2.ensures) c.end_line.ensures
