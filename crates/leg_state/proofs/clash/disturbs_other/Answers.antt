use Rattle.std.proofs.Common.{◌∙◌, sym}
use Rattle.leg_state.proofs.ClashLemmas.{clashes-apart}
use Rattle.leg_state.proofs.clash.disturbs_other.Goals as goal

pub returns : goal.returns
returns c =
    c.disturbs.ensures
    ∙ sym (clashes-apart c.args.class c.args.leg.now c.args.owner.now c.args.service.now
    (sym c.is_named.ensures ∙ c.if-is_named.false))
