use Rattle.std.proofs.Common.{◌∙◌, ap, ℕ, get_or}
use Rattle.std.specs.Prelude.{max}
use Rattle.compact_plan.proofs.TopLaws.{over_next}
use Rattle.compact_plan.proofs.row.top_over.Goals as goal

pub loop-fibre-preserved : goal.loop-fibre-preserved
loop-fibre-preserved c =
    over_next c.args.tops.now c.args.fibres.now c.args.floor c.loop-fibre.top c.loop-fibre.fibre-index
    c.max-top.result c.loop-fibre-test.true
    (c.max-top.ensures ∙ ap (λ (k : ℕ). max c.loop-fibre.top (get_or c.args.tops.now k 0)) c.from.ensures)
    c.loop-fibre.invariant
