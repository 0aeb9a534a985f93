use Rattle.std.proofs.Common.{refl}
use Rattle.live_failure.proofs.AnswerLaws.{command_decides, memory_decides}
use Rattle.live_failure.proofs.answering.reply_to_command.Goals as goal

pub returns-in-Fail : goal.returns-in-Fail
returns-in-Fail c = rw c.in-Fail.is (command_decides _ _ _ _ c.fail.ensures)

pub returns-in-Repair : goal.returns-in-Repair
returns-in-Repair c = rw c.in-Repair.is (command_decides _ _ _ _ c.repair.ensures)

pub returns-in-Lights : goal.returns-in-Lights
returns-in-Lights c = rw c.in-Lights.is (command_decides _ _ _ _ c.lights.ensures)

pub returns-in-Ok : goal.returns-in-Ok
returns-in-Ok c = rw c.in-Exposed.is (command_decides _ _ _ _ c.in-Ok.ensures)

pub returns-in-Err : goal.returns-in-Err
returns-in-Err c = rw c.in-Exposed.is (memory_decides _ _ refl)

pub returns-in-Audit : goal.returns-in-Audit
returns-in-Audit c = rw c.in-Audit.is (command_decides _ _ _ _ c.audit.ensures)

pub returns-in-Quit : goal.returns-in-Quit
returns-in-Quit c = rw c.in-Quit.is (command_decides _ _ _ _ (record { setup = refl; state = refl; answer = refl }))
