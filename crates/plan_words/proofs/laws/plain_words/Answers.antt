use Rattle.plan_words.proofs.PlainLaws.{plain_ask}
use Rattle.plan_words.proofs.laws.plain_words.Goals as goal

pub returns : goal.returns
returns c = plain_ask
