use Rattle.std.proofs.Common.{refl, ◌∙◌, ap, arith}
use Rattle.std.specs.FinSet.{contains, contains-empty}
use Rattle.std.specs.Ordering.{nat_cmp}
use Rattle.route_list.proofs.deviation.Front.start.Goals as goal

pub returns : goal.returns
returns c = λ net. record {
  node = refl;
  passed = λ n. ap (λ s. contains s n) c.empty.ensures ∙ contains-empty nat_cmp n;
  left = omega arith;
}
