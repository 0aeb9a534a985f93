use Rattle.std.proofs.Common.{◌≡◌, sym, ◌∙◌, ap, subst, ◌-◌, ◌*◌, ◌<◌, ◌≤◌, ℕ, List, [], ◌∷◌, ◌++◌, length, map, filter, not, get_or, arith}
use Rattle.std.specs.List.{list_all, AllByRecursion}
use Rattle.eon_model.specs.Route.{Route}
use Rattle.eon_model.specs.Routes.{is_open_route}
use Rattle.eon_model.specs.Sets.{has_member}
use Rattle.eon_model.specs.Deviations.{is_front, is_front_of, fronts_of, deviations_at}
use Rattle.route_list.specs.Fronts.{seen}
use Rattle.route_list.specs.Pools.{fibres_in, runs_for}
use Rattle.route_list.proofs.NextLaws.{first-none, first-pool, turn-facts, turn-pool, next-known, next-few, shares-last, full, all-found, many-fibres, fibres-more, length-more, last-of, few-times, most-more, runs-but-last}
use Rattle.route_list.proofs.search.routes.Goals as goal

pub loop-route-init : goal.loop-route-init
loop-route-init g c =
    let net = c.args.net.now in
    let banned = has_member c.args.banned.now in
    let none = c.new-found.ensures.items in
    let no_fibres : fibres_in c.new-found.result.items ≡ 0 = ap fibres_in none in
    let long : length c.new-found.result.items ≡ 0 = ap length none in
    record {
      facts = first-none net c.nodes.ensures.graph c.args.s c.args.t banned c.args.max_km c.new-found.result.items none;
      pool = first-pool net c.nodes.ensures.graph c.args.s c.args.t banned c.args.max_km c.new-found.result.items _ none
          c.in_ok-pool.ensures.pool;
      few = omega (arith, long, c.if-k-eq0.false);
      counted = omega (arith, no_fibres);
      most = omega (arith, no_fibres);
    }

pub returns-then-len-k-clause-routes : goal.returns-then-len-k-clause-routes
returns-then-len-k-clause-routes g c =
    let net = c.args.net.now in
    let banned = has_member c.args.banned.now in
    let inv = c.loop-route.invariant in
    let found = c.loop-route.found.items in
    let pool = map seen c.loop-route.pool.items in
    let fresh = map seen c.take_earliest.new.pool.items in
    let r = c.in-Some.route in
    let is = c.in_ok-push.ensures.items in
    let long = ap length is ∙ length-more found r in
    c.of-then-len-k.ensures ∙ full net c.nodes.ensures.graph c.args.s c.args.t banned c.args.max_km c.push.new.self.items c.args.k
    (turn-facts net c.nodes.ensures.graph c.args.s c.args.t banned c.args.max_km found pool
    inv.facts inv.pool fresh r c.in-Some.ensures
    c.push.new.self.items is)
    (omega (arith, c.if-len-k.true, c.len.ensures, inv.few, long, c.push.new.self.ok.0))

pub returns-then-len-k-clause-least : goal.returns-then-len-k-clause-least
returns-then-len-k-clause-least g c =
    let net = c.args.net.now in
    let banned = has_member c.args.banned.now in
    let inv = c.loop-route.invariant in
    let found = c.loop-route.found.items in
    let pool = map seen c.loop-route.pool.items in
    let fresh = map seen c.take_earliest.new.pool.items in
    let r = c.in-Some.route in
    let is = c.in_ok-push.ensures.items in
    let long = ap length is ∙ length-more found r in
    let many = many-fibres net c.nodes.ensures.graph c.args.s c.args.t banned c.args.max_km found inv.facts.open_routes in
    omega (arith, inv.counted, many, long, ap length c.of-then-len-k.ensures, c.in_ok-pool.ensures.counted)

pub returns-then-len-k-clause-runs : goal.returns-then-len-k-clause-runs
returns-then-len-k-clause-runs g c =
    let net = c.args.net.now in
    let banned = has_member c.args.banned.now in
    let inv = c.loop-route.invariant in
    let found = c.loop-route.found.items in
    let pool = map seen c.loop-route.pool.items in
    let fresh = map seen c.take_earliest.new.pool.items in
    let r = c.in-Some.route in
    let is = c.in_ok-push.ensures.items in
    let long = ap length is ∙ length-more found r in
    let whole = ap (runs_for c.args.k) (c.of-then-len-k.ensures ∙ is) in
    let runs = runs-but-last c.args.k found r
    (omega (arith, c.if-len-k.true, c.len.ensures, inv.few, long, c.push.new.self.ok.0)) in
    omega (arith, inv.counted, c.in_ok-pool.ensures.counted, whole, runs)

pub renew-requires-clause-open_routes : goal.renew-requires-clause-open_routes
renew-requires-clause-open_routes g c =
    let net = c.args.net.now in
    let banned = has_member c.args.banned.now in
    let inv = c.loop-route.invariant in
    let found = c.loop-route.found.items in
    let pool = map seen c.loop-route.pool.items in
    let fresh = map seen c.take_earliest.new.pool.items in
    let r = c.in-Some.route in
    let is = c.in_ok-push.ensures.items in
    ap (list_all (is_open_route net c.args.s c.args.t banned c.args.max_km)) c.deref.ensures.value
    ∙ (turn-facts net c.nodes.ensures.graph c.args.s c.args.t banned c.args.max_km found pool
    inv.facts inv.pool fresh r c.in-Some.ensures
    c.push.new.self.items is).open_routes

pub renew-requires-clause-shares : goal.renew-requires-clause-shares
renew-requires-clause-shares g c =
    let net = c.args.net.now in
    let banned = has_member c.args.banned.now in
    let inv = c.loop-route.invariant in
    let found = c.loop-route.found.items in
    let pool = map seen c.loop-route.pool.items in
    let fresh = map seen c.take_earliest.new.pool.items in
    let r = c.in-Some.route in
    let is = c.in_ok-push.ensures.items in
    let long = ap length is ∙ length-more found r in
    let d = c.index.result.now in
    let place : c.len-in-Some.result - 1 ≡ length found =
    omega (arith, c.len-in-Some.ensures, long, c.push.new.self.ok.0) in
    let last : c.index.result.now ≡ r = c.index.ensures ∙ ap (λ n. get_or c.push.new.self.items n d) place
    ∙ ap (λ rs. get_or rs (length found) d) is ∙ last-of found r d in
    let fibres : c.fibres-last.result.now ≡ r.fibres = c.fibres-last.ensures ∙ ap (λ q. q.fibres) last in
    λ front h. ap (λ rs. is_front_of rs front) (c.deref.ensures.value ∙ is)
    ∙ shares-last net c.nodes.ensures.graph c.args.s c.args.t banned c.args.max_km found r front
    (ap (is_front front) (sym fibres) ∙ h)

pub renew-requires-clause-known : goal.renew-requires-clause-known
renew-requires-clause-known g c =
    let net = c.args.net.now in
    let banned = has_member c.args.banned.now in
    let inv = c.loop-route.invariant in
    let found = c.loop-route.found.items in
    let pool = map seen c.loop-route.pool.items in
    let fresh = map seen c.take_earliest.new.pool.items in
    let r = c.in-Some.route in
    let is = c.in_ok-push.ensures.items in
    let long = ap length is ∙ length-more found r in
    let d = c.index.result.now in
    let place : c.len-in-Some.result - 1 ≡ length found =
    omega (arith, c.len-in-Some.ensures, long, c.push.new.self.ok.0) in
    let last : c.index.result.now ≡ r = c.index.ensures ∙ ap (λ n. get_or c.push.new.self.items n d) place
    ∙ ap (λ rs. get_or rs (length found) d) is ∙ last-of found r d in
    let fibres : c.fibres-last.result.now ≡ r.fibres = c.fibres-last.ensures ∙ ap (λ q. q.fibres) last in
    subst (λ (fs : List ℕ). AllByRecursion (λ i. i < length net.fibres) fs) (sym fibres)
    (next-known net c.nodes.ensures.graph c.args.s c.args.t banned c.args.max_km found pool
    inv.facts inv.pool fresh r c.in-Some.ensures)

pub loop-route-preserved : goal.loop-route-preserved
loop-route-preserved g c =
    let net = c.args.net.now in
    let banned = has_member c.args.banned.now in
    let inv = c.loop-route.invariant in
    let found = c.loop-route.found.items in
    let pool = map seen c.loop-route.pool.items in
    let fresh = map seen c.take_earliest.new.pool.items in
    let r = c.in-Some.route in
    let is = c.in_ok-push.ensures.items in
    let long = ap length is ∙ length-more found r in
    let d = c.index.result.now in
    let place : c.len-in-Some.result - 1 ≡ length found =
    omega (arith, c.len-in-Some.ensures, long, c.push.new.self.ok.0) in
    let last : c.index.result.now ≡ r = c.index.ensures ∙ ap (λ n. get_or c.push.new.self.items n d) place
    ∙ ap (λ rs. get_or rs (length found) d) is ∙ last-of found r d in
    let fibres : c.fibres-last.result.now ≡ r.fibres = c.fibres-last.ensures ∙ ap (λ q. q.fibres) last in
    let kept = map seen c.forget.new.pool.items in
    let few = next-few net c.nodes.ensures.graph c.args.s c.args.t banned c.args.max_km found pool
    inv.facts inv.pool fresh r c.in-Some.ensures in
    let sum = ap fibres_in is ∙ fibres-more found r in
    record {
      facts = turn-facts net c.nodes.ensures.graph c.args.s c.args.t banned c.args.max_km found pool
          inv.facts inv.pool fresh r c.in-Some.ensures
          c.push.new.self.items is;
      pool = turn-pool net c.nodes.ensures.graph c.args.s c.args.t banned c.args.max_km found pool
          inv.facts inv.pool fresh r c.in-Some.ensures
          c.push.new.self.items is kept (map seen c.renew.new.pool.items)
          (c.forget.ensures ∙ ap (λ fs. filter (λ e. not (is_front e.front fs)) fresh) c.fibres.ensures)
          (c.in_ok-renew.ensures.pool
          ∙ (λ j. kept ++ deviations_at net c.args.s c.args.t banned c.args.max_km ((c.deref.ensures.value ∙ is) j)
          (fronts_of (fibres j))));
      few = omega (arith, c.if-len-k.false, c.len.ensures, c.push.new.self.ok.0);
      counted = omega (arith, c.in_ok-renew.ensures.counted, inv.counted, sum, ap length fibres);
      most = subst (λ (rs : List Route). fibres_in rs ≤ length rs * length net.nodes) (sym is)
          (most-more found r (length net.nodes) inv.most few);
    }

pub returns-in_err-renew-clause-most : goal.returns-in_err-renew-clause-most
returns-in_err-renew-clause-most g c =
    let net = c.args.net.now in
    let banned = has_member c.args.banned.now in
    let inv = c.loop-route.invariant in
    let found = c.loop-route.found.items in
    let pool = map seen c.loop-route.pool.items in
    let fresh = map seen c.take_earliest.new.pool.items in
    let r = c.in-Some.route in
    let is = c.in_ok-push.ensures.items in
    let long = ap length is ∙ length-more found r in
    let d = c.index.result.now in
    let place : c.len-in-Some.result - 1 ≡ length found =
    omega (arith, c.len-in-Some.ensures, long, c.push.new.self.ok.0) in
    let last : c.index.result.now ≡ r = c.index.ensures ∙ ap (λ n. get_or c.push.new.self.items n d) place
    ∙ ap (λ rs. get_or rs (length found) d) is ∙ last-of found r d in
    let fibres : c.fibres-last.result.now ≡ r.fibres = c.fibres-last.ensures ∙ ap (λ q. q.fibres) last in
    let few = next-few net c.nodes.ensures.graph c.args.s c.args.t banned c.args.max_km found pool
    inv.facts inv.pool fresh r c.in-Some.ensures in
    let most = few-times (length (found ++ r ∷ [])) c.args.k (length net.nodes) (fibres_in (found ++ r ∷ []))
    (omega (arith, length-more found r, inv.few)) (most-more found r (length net.nodes) inv.most few) in
    omega (
      arith,
      c.in_err-renew.ensures.most,
      inv.counted,
      c.in_ok-pool.ensures.counted,
      ap length fibres,
      most,
      fibres-more found r,
    )

pub returns-clause-routes : goal.returns-clause-routes
returns-clause-routes g c =
    let net = c.args.net.now in
    let banned = has_member c.args.banned.now in
    let inv = c.loop-route.invariant in
    let found = c.loop-route.found.items in
    let few = inv.few in
    c.of-2.ensures ∙ all-found net c.nodes.ensures.graph c.args.s c.args.t banned c.args.max_km found
    (map seen c.loop-route.pool.items) c.args.k inv.facts inv.pool c.in_default.ensures (omega (arith, few))

pub returns-clause-least : goal.returns-clause-least
returns-clause-least g c =
    let net = c.args.net.now in
    let banned = has_member c.args.banned.now in
    let inv = c.loop-route.invariant in
    let found = c.loop-route.found.items in
    let many = many-fibres net c.nodes.ensures.graph c.args.s c.args.t banned c.args.max_km found inv.facts.open_routes in
    omega (arith, inv.counted, many, ap length c.of-2.ensures, c.in_ok-pool.ensures.counted)
