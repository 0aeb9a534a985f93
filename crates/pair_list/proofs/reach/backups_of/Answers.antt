use Rattle.std.proofs.Common.{ap, ◌∙◌}
use Rattle.std.proofs.lemmas.Result.{IfOk-weaker}
use Rattle.eon_model.specs.Candidates.{SizedRoute}
use Rattle.eon_model.specs.Sets.{has_member}
use Rattle.pair_list.proofs.FoundLaws.{backups-found}
use Rattle.pair_list.proofs.reach.backups_of.Goals as goal

pub returns : goal.returns
returns c =
    let w : SizedRoute = record { route = c.args.work.now; m = 0 } in
    IfOk-weaker c.routes_within.result _ _ (λ rs e. e ∙ backups-found c.args.setup.now c.args.s c.args.t w
    (has_member c.sharers-banned.result) c.setup.inside.net c.risk.result
    (ap (λ s. s.network) c.setup.view_is) c.risk.ensures c.sharers-banned.ensures) c.routes_within.ensures
