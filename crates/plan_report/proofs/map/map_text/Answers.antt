use Rattle.plan_report.proofs.CountLemmas.{few_services}
use Rattle.plan_report.proofs.map.map_text.Goals as goal

pub map_lines-requires : goal.map_lines-requires
map_lines-requires c =
    few_services c.args.setup.now c.args.services.now.list c.requires.setup c.requires.legal
