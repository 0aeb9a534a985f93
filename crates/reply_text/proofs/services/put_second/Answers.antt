use Rattle.std.proofs.Common.{sym}
use Rattle.eon_model.specs.ReplyText.{leg_words}
use Rattle.reply_text.proofs.WordLaws.{no_words}
use Rattle.reply_text.proofs.services.put_second.Goals as goal

pub returns-in_default : goal.returns-in_default
returns-in_default g c = no_words (leg_words c.args.net.now) _ _ (sym c.in_default.is)
