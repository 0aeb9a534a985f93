use Rattle.std.proofs.Common.{◌≡◌, ◌∙◌, to_z, of_z, w16, map, arith}
use Rattle.std.proofs.lemmas.Int.{ints}
use Rattle.eon_model.specs.Lists.{integers_from}
use Rattle.plan_report.specs.Counted.{state_holdings, holders}
use Rattle.plan_report.proofs.CountLemmas.{row-grown}
use Rattle.plan_report.proofs.rows.count_row.Goals as goal

pub returns : goal.returns
returns c =
    let by = holders c.args.fibre (state_holdings c.args.kind c.args.services.now.list) in
    let low : to_z w16 (of_z w16 c.args.lowest) ≡ c.args.lowest = omega (arith, ints) in
    row-grown (to_z w16 (of_z w16 c.args.lowest)) by c.clear.new.counts c.count_services.new.counts
    c.clear.ensures.zero c.count_services.ensures
    ∙ (λ i. map by (integers_from (low i) (c.clear.ensures.length i)))
