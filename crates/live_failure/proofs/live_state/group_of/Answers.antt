use Rattle.std.proofs.Common.{sym, ◌∙◌, ap}
use Rattle.eon_model.specs.Legal.{Setup}
use Rattle.eon_model.specs.Network.{Network, risk_number_of}
use Rattle.live_failure.proofs.GroupNumbers.{risk-in_range}
use Rattle.live_failure.proofs.live_state.group_of.Goals as goal

pub overflow_cast-result : goal.overflow_cast-result
overflow_cast-result c =
    let net = ap (λ (v : Setup). v.network) c.setup.view_is in
    record {
      fits = risk-in_range c.args.setup.now c.args.name.now c.in-Some.group c.requires
          (ap (λ (n : Network). risk_number_of n c.args.name.now) (sym net) ∙ sym c.risk_of.ensures ∙ c.in-Some.is);
    }
