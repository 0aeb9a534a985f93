use Rattle.std.proofs.Common.{refl}
use Rattle.plan_report.proofs.EmptyLaws.{Legal-empty}
use Rattle.plan_core.proofs.machine.Core.open.Goals as goal

pub invariant_of-result : goal.invariant_of-result
invariant_of-result c = (
  c.new-kept.ensures,
  record {
    in_range = c.requires;
    named = rw c.new.ensures refl;
    legal = rw c.new.ensures (Legal-empty c.args.setup);
    waits = rw c.none.ensures tt;
  },
)
