use Rattle.std.proofs.Common.{ap}
use Rattle.std.proofs.lemmas.Bool.{false≢true}
use Rattle.plan_core.specs.Seen.{CoreSeen}
use Rattle.plan_serve.proofs.DecideLaws.{say_decides, change_decides, memory_decides}
use Rattle.plan_serve.proofs.answering.reply_to_command.Goals as goal

pub returns-in-Ok-Say-clause-decides : goal.returns-in-Ok-Say-clause-decides
returns-in-Ok-Say-clause-decides c =
    say_decides _ _ _ _ _ _ c.in-Ok-Say.field-0-is
    c.in-Ok-Say.ensures.state c.in-Ok-Say.ensures.answer c.in-Ok-Say.ensures.can_tell

pub returns-in-Ok-Change-clause-decides : goal.returns-in-Ok-Change-clause-decides
returns-in-Ok-Change-clause-decides c =
    change_decides _ c.step.new.self.setup _ c.step.new.self.state _ _ _ c.in-Ok-Change.event c.in-Ok-Change.reply
    c.in-Ok-Change.field-0-is
    c.in-Ok-Change.ensures.setup c.in-Ok-Change.ensures.state c.apply.ensures.state
    c.in-Ok-Change.ensures.answer c.in-Ok-Change.ensures.can_tell

pub returns-in-Err-clause-decides : goal.returns-in-Err-clause-decides
returns-in-Err-clause-decides c =
    memory_decides _ _ _ _
    (ap (λ (m : CoreSeen). m.state) c.in-Err.ensures.wanted) (λ free. false≢true (c.in-Err.ensures.no_memory free))
