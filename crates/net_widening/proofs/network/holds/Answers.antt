use Rattle.std.proofs.Common.{sym, ◌∙◌, ap, arith}
use Rattle.std.specs.FinSet.{contains}
use Rattle.std.proofs.lemmas.Bool.{le-ltb}
use Rattle.eon_model.specs.Sets.{NumberSet}
use Rattle.net_file.proofs.PrintGroups.{holds-is}
use Rattle.net_widening.proofs.GroupMembers.{not-held}
use Rattle.net_widening.proofs.network.holds.Goals as goal

pub returns-then-fibre-fibres : goal.returns-then-fibre-fibres
returns-then-fibre-fibres c =
    let count = c.fibres.ensures.count in
    let low = c.if-fibre-fibres.true in
    c.has.ensures
    ∙ ap (λ (s : NumberSet). contains s c.risk_of.result) c.risk.ensures
    ∙ holds-is c.args.net.now c.risk_of.result c.args.group c.args.fibre c.risk_of.ensures.value (omega arith) c.requires

pub returns-else-fibre-fibres : goal.returns-else-fibre-fibres
returns-else-fibre-fibres c =
    let count = c.fibres.ensures.count in
    let past = c.if-fibre-fibres.false in
    le-ltb c.args.fibre c.fibres.result past ∙ sym (not-held c.args.net.now c.args.group c.args.fibre c.fibres.ensures.graph c.requires (omega arith))
