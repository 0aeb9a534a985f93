use Rattle.std.proofs.Common.{sym, ◌∙◌, ◌≡◌, ap, subst, ℕ, false, get_or, arith}
use Rattle.std.specs.Ordering.{is_lt}
use Rattle.route_list.specs.Pools.{numbers_cmp}
use Rattle.route_list.proofs.PoolLaws.{not-itself, now-best, still-best}
use Rattle.route_list.proofs.search.earliest.Goals as goal
use Rattle.route_list.proofs.search.earliest.Goals.{then-comes_before, else-comes_before}

pub loop-i-init : goal.loop-i-init
loop-i-init c = record {
  inside = c.requires;
  first = λ j d l.
      let same : j ≡ 0 = omega (arith, l) in
      ap (λ n. is_lt (numbers_cmp (get_or c.args.pool.now n d).route (get_or c.args.pool.now 0 d).route)) same
      ∙ not-itself (get_or c.args.pool.now 0 d).route;
}

pub loop-i-preserved : goal.loop-i-preserved
loop-i-preserved c =
    let pool = c.args.pool.now in
    let inv = c.loop-i.invariant in
    elim c.if-comes_before.branch [
      | then-comes_before w ↦ record {
        inside = omega (arith, w.best-is, c.loop-i-test.true);
        first = λ j d l.
            subst (λ (n : ℕ). is_lt (numbers_cmp (get_or pool j d).route (get_or pool n d).route) ≡ false)
            (sym w.best-is)
            (now-best pool c.loop-i.i c.loop-i.best _ _ c.comes_before.result c.loop-i-test.true inv.inside
            c.comes_before.ensures w.if-comes_before.true inv.first j d l);
      }
      | else-comes_before w ↦ record {
        inside = omega (arith, w.best-is, inv.inside);
        first = λ j d l.
            subst (λ (n : ℕ). is_lt (numbers_cmp (get_or pool j d).route (get_or pool n d).route) ≡ false)
            (sym w.best-is)
            (still-best pool c.loop-i.i c.loop-i.best _ _ c.comes_before.result c.loop-i-test.true inv.inside
            c.comes_before.ensures w.if-comes_before.false inv.first j d l);
      }
    ]
