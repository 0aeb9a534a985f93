use Rattle.std.proofs.Common.{◌∙◌, sym, ◌+◌, count_by, arith}
use Rattle.std.specs.List.{list_any}
use Rattle.eon_model.specs.FirstFit.{centres_in}
use Rattle.eon_model.specs.Listings.{holds}
use Rattle.plan_report.specs.Counted.{state_holdings}
use Rattle.plan_report.proofs.CountLemmas.{sum_more}
use Rattle.plan_report.proofs.rows.units_held.Goals as goal

pub loop-fibre-preserved : goal.loop-fibre-preserved
loop-fibre-preserved c =
    let most = c.units_on-held.ensures.few in (
      (λ i. c.loop-fibre.invariant.0 i + c.units_on-held.ensures.value i)
          ∙ sym (sum_more (λ i. count_by (λ u. list_any (holds i u) (state_holdings c.args.kind c.args.services.now.list)) (centres_in c.args.setup.now.band)) c.loop-fibre.fibre),
      omega (arith, c.loop-fibre.invariant.1),
    )
