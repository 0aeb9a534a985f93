use Rattle.std.proofs.Common.{◌∙◌}
use Rattle.net_file.proofs.PrintGroups.{risk-name-group}
use Rattle.net_widening.proofs.network.group_name.Goals as goal

pub returns : goal.returns
returns c =
    c.risk_name.ensures ∙ risk-name-group c.args.net.now c.risk_of.result c.args.group c.risk_of.ensures.value
