use Rattle.std.proofs.Common.{◌≡◌, ℕ, ap, subst, arith}
use Rattle.std.specs.Prelude.{IfOk}
use Rattle.eon_model.specs.Candidates.{max_reach}
use Rattle.eon_model.specs.Legal.{Setup}
use Rattle.eon_model.specs.Routes.{first_routes}
use Rattle.eon_model.specs.Sets.{has_member}
use Rattle.pair_list.specs.Runs.{most_within}
use Rattle.pair_list.proofs.RunLaws.{runs-told}
use Rattle.pair_list.proofs.reach.routes_within_counted.Goals as goal

pub returns : goal.returns
returns g c =
    let s = c.args.s in
    let t = c.args.t in
    let banned = has_member c.args.banned.now in
    let found = subst (λ (v : Setup). IfOk c.routes.result (λ rs. rs ≡ first_routes v.network s t banned v.k (max_reach v.formats)))
    c.setup.view_is
    (subst (λ (max_km : ℕ). IfOk c.routes.result
    (λ rs. rs ≡ first_routes c.setup.inside.net s t banned c.setup.inside.k max_km)) c.max_reach-max_km.ensures
    c.routes.ensures.routes) in
    record {
      routes = found;
      runs = runs-told c.args.setup.now s t banned c.routes.result c.setup.inside.k c.args.steps.now
          c.routes.new.steps (ap (λ v. v.k) c.setup.view_is) found c.routes.ensures.runs;
      most = let same = ap most_within c.setup.view_is in omega (arith, c.routes.ensures.most, same);
    }
