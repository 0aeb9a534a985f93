use Rattle.std.proofs.lemmas.Bool.{false≢true}
use Rattle.planner_lines.proofs.DecideLaws.{step-decided, memory-decided}
use Rattle.planner_lines.proofs.deciding.decide_command.Goals as goal

pub returns-in-Ok-clause-decided : goal.returns-in-Ok-clause-decided
returns-in-Ok-clause-decided c =
    step-decided _ _ _ c.in-Ok.decision c.in-Ok.ensures.answer c.in-Ok.ensures.can_tell

pub returns-in-Err-clause-decided : goal.returns-in-Err-clause-decided
returns-in-Err-clause-decided c =
    memory-decided _ _ _ (λ free. false≢true (c.in-Err.ensures.no_memory free))
