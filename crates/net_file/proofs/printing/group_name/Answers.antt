use Rattle.std.proofs.Common.{◌∙◌, arith}
use Rattle.net_file.proofs.PrintGroups.{risk-name-group}
use Rattle.net_file.proofs.printing.group_name.Goals as goal

pub returns : goal.returns
returns c =
    let count = c.fibres.ensures.count in
    let a = c.from.ensures in
    let b = c.from-2.ensures in
    c.risk_name.ensures ∙ risk-name-group c.args.net.now _ c.args.group (omega arith)
