use Rattle.std.proofs.Common.{◌≡◌, ap, subst, ℕ, ◌<◌, List, length, false, get_or, arith}
use Rattle.std.specs.Ordering.{is_lt}
use Rattle.route_list.specs.declared.deviation.Deviation.{Deviation}
use Rattle.route_list.specs.Pools.{numbers_cmp}
use Rattle.route_list.proofs.PoolLaws.{taken}
use Rattle.route_list.proofs.search.take_earliest.Goals as goal

pub returns : goal.returns
returns c =
    taken c.args.pool.now.items c.remove-route.new.self.items c.earliest-best.result c.remove-route.result
    (omega (arith, c.earliest-best.ensures.inside, ap length c.deref.ensures.value)) c.remove-route.ensures.value
    c.remove-route.ensures.items
    (subst (λ (xs : List Deviation). (j : ℕ) (d : Deviation) → j < length xs →
    is_lt (numbers_cmp (get_or xs j d).route (get_or xs c.earliest-best.result d).route) ≡ false)
    c.deref.ensures.value c.earliest-best.ensures.first)
