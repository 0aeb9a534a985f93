use Rattle.std.proofs.Common.{◌∙◌, ◌+◌, ◌++◌, ap}
use Rattle.std.proofs.lemmas.Result.{on_ok_weaker}
use Rattle.eon_model.specs.Sets.{has_member}
use Rattle.pair_list.proofs.FoundLaws.{backed-found}
use Rattle.pair_list.proofs.RunLaws.{runs-behind-found}
use Rattle.pair_list.proofs.demand.put_protected.Goals as goal

pub returns : goal.returns
returns g c =
    let d = c.args.demand in
    let banned = has_member c.sharers-banned.result in
    let net = ap (λ s. s.network) c.setup.view_is in
    let risks = c.risk.ensures ∙ ap (λ w. w.route.risk) c.work.view_is in
    record {
      pairs = on_ok_weaker c.put_backups.result (λ put. put ∙ ap (λ ps. c.args.pairs.now.items ++ ps)
          (backed-found c.args.setup.now d.s d.t d.rate c.args.work.now c.in_ok-backups.backups banned
          c.setup.inside.net c.risk.result net risks c.sharers-banned.ensures c.in_ok-backups.ensures.routes))
          c.put_backups.ensures;
      runs = on_ok_weaker c.put_backups.result (λ put. c.in_ok-backups.ensures.runs ∙ ap (λ n. c.args.steps.now + n)
          (runs-behind-found c.args.setup.now d.s d.t c.args.work.now banned c.setup.inside.net c.risk.result net risks
          c.sharers-banned.ensures)) c.put_backups.ensures;
      most = c.routes_within_counted.ensures.most;
    }
