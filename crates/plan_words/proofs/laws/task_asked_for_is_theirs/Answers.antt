use Rattle.plan_words.proofs.UnknownLaws.{asked_is_theirs}
use Rattle.plan_words.proofs.laws.task_asked_for_is_theirs.Goals as goal

pub returns : goal.returns
returns c = asked_is_theirs
