use Rattle.std.proofs.Common.{◌∙◌, ap, ℕ, nat_eq}
use Rattle.compact_plan.proofs.TellLaws.{begins}
use Rattle.compact_plan.proofs.telling.begins_at.Goals as goal

pub returns : goal.returns
returns c =
    ap (λ (k : ℕ). nat_eq c.args.low k) c.height.ensures.value ∙ begins c.args.low c.args.units.now c.lo.ensures.valid
