use Rattle.std.proofs.Common.{◌∙◌, ap}
use Rattle.std.specs.Bool.{then_some}
use Rattle.command_text.proofs.CodeSteps.{fibres-ended, fibres-stuck}
use Rattle.command_text.proofs.fibre_names.FibreNames.read.Goals as goal

pub returns-in-Ok : goal.returns-in-Ok
returns-in-Ok c =
    c.then_some.ensures ∙ ap (λ b. then_some b c.in-Ok.names) c.is_empty.ensures
    ∙ fibres-ended c.args.bytes.now c.in-Ok.rest.now c.in-Ok.names c.in-Ok.ensures

pub returns-in-Err : goal.returns-in-Err
returns-in-Err c = fibres-stuck c.args.bytes.now c.in-Err.field-0.left c.in-Err.ensures
