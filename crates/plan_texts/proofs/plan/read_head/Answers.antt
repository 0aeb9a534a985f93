use Rattle.std.proofs.Common.{◌≡◌, ◌∙◌, ◌≤◌, sym, ap, Option, Some, None}
use Rattle.std.specs.Prelude.{IfSome}
use Rattle.std.specs.Option.{option_map}
use Rattle.eon_model.specs.NetworkFault.{Fields}
use Rattle.plan_texts.specs.Plans.{head_at, model_head}
use Rattle.plan_texts.specs.declared.plan.Head.{Head}
use Rattle.plan_texts.proofs.PlanReads.{head-read, head-few}
use Rattle.plan_texts.proofs.plan.read_head.Goals as goal

few_by : (fields : Fields) (o : Option Head) → o ≡ head_at fields → IfSome o (λ h. h.moves ≤ 4096)
few_by fields None e = tt
few_by fields (Some h) e = head-few fields h (sym e)

pub returns-clause-value : goal.returns-clause-value
returns-clause-value c =
    ap (option_map model_head) (c.head_fields.ensures ∙ ap head_at c.new-fields.ensures) ∙ head-read c.args.line.now

pub returns-clause-few : goal.returns-clause-few
returns-clause-few c = few_by c.new-fields.result c.head_fields.result c.head_fields.ensures
