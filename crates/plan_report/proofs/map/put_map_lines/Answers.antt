use Rattle.plan_report.proofs.MapLemmas.{next_line}
use Rattle.plan_report.proofs.map.put_map_lines.Goals as goal

pub loop-line-preserved : goal.loop-line-preserved
loop-line-preserved g c = next_line c.args.lines.now c.loop-line.line-index c.line-item.result _ _ _
    c.loop-line-test.true c.line-item.is c.loop-line.invariant c.put_map_line.ensures
