use Rattle.std.proofs.Common.{◌∙◌, ap, arith}
use Rattle.std.proofs.Common.{◌+◌}
use Rattle.std.specs.FinSet.{contains}
use Rattle.eon_model.specs.Sets.{NumberSet}
use Rattle.net_file.proofs.PrintGroups.{holds-is}
use Rattle.net_file.proofs.printing.holds.Goals as goal

pub returns : goal.returns
returns c =
    let count = c.fibres.ensures.count in
    let a = c.from.ensures in
    let b = c.from-2.ensures in
    c.has.ensures
    ∙ ap (λ (s : NumberSet). contains s (c.from.result + c.from-2.result)) c.risk.ensures
    ∙ holds-is c.args.net.now (c.from.result + c.from-2.result) c.args.group c.args.fibre (omega arith) c.requires.fibre c.requires.group
