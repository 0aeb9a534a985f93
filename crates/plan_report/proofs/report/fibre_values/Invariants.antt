use Rattle.std.proofs.Common.{◌≡◌, map, take}
use Rattle.serde_json.specs.View.{view}
use Rattle.plan_report.specs.Reported.{fibre_data}
use Rattle.plan_report.proofs.report.fibre_values.Given as goal

abbrev pub invariant-loop-fibre : goal.invariant-loop-fibre
invariant-loop-fibre l = map view l.names.items ≡ map (fibre_data l.net) (take l.fibre-index l.fibres)
