use Rattle.line_writer.proofs.WordLaws.{line_taken, words_both}
use Rattle.reply_text.proofs.services.put_service.Goals as goal

pub returns : goal.returns
returns g c = line_taken _ _ _ _ _ _ c.put.ensures
    (words_both _ _ _ _ _ c.put_demand.ensures c.put_legs.ensures) c.end_line.ensures
