use Rattle.std.proofs.Common.{◌≡◌, ℕ, ◌<◌, false, length, get_or}
use Rattle.std.specs.Ordering.{is_lt}
use Rattle.route_list.specs.declared.deviation.Deviation.{Deviation}
use Rattle.route_list.specs.Pools.{numbers_cmp}
use Rattle.route_list.proofs.search.earliest.Given as goal

abbrev pub invariant-loop-i : goal.invariant-loop-i
invariant-loop-i l = record {
  inside : l.best < length l.pool;
  first : (j : ℕ) (d : Deviation) → j < l.i →
      is_lt (numbers_cmp (get_or l.pool j d).route (get_or l.pool l.best d).route) ≡ false;
}
