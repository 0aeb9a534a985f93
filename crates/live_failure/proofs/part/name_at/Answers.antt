use Rattle.command_text.proofs.CodeSteps.{name-taken, name-refused}
use Rattle.live_failure.proofs.part.name_at.Goals as goal

pub returns-in-Ok : goal.returns-in-Ok
returns-in-Ok c =
    name-taken c.args.bytes.now c.name_end-len.result.1.now c.in-Ok.name c.name_end-len.result.0 c.name_end-len.ensures.end c.in-Ok.ensures.value

pub returns-in-Err : goal.returns-in-Err
returns-in-Err c = name-refused c.args.bytes.now c.name_end-len.result.1.now c.name_end-len.result.0 c.name_end-len.ensures.end c.in-Err.ensures.value
