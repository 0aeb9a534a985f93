use Rattle.line_writer.proofs.WordLaws.{words_three}
use Rattle.reply_text.proofs.services.put_legs.Goals as goal

pub returns : goal.returns
returns g c = rw (← c.service.view_is) (words_three _ _ _ _ _ _ _ c.put_leg.ensures c.put_target.ensures c.put_new_leg.ensures)
