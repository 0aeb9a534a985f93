use Rattle.plan_words.proofs.TaskLaws.{words_ask}
use Rattle.plan_words.proofs.laws.words_ask_for_their_task.Goals as goal

pub returns : goal.returns
returns c = words_ask
