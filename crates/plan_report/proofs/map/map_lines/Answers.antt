use Rattle.plan_report.proofs.MapLemmas.{map_made}
use Rattle.plan_report.proofs.map.map_lines.Goals as goal

pub returns : goal.returns
returns c =
    map_made c.args.setup.now c.args.services.now.list c.args.fibre _ _ c.in_ok-lines.ensures
    c.in_ok-add_services.ensures
