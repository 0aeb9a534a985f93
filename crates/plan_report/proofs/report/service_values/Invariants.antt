use Rattle.std.proofs.Common.{◌≡◌, true, map, take}
use Rattle.std.specs.List.{list_all}
use Rattle.serde_json.specs.View.{view}
use Rattle.eon_model.specs.Names.{is_name}
use Rattle.eon_model.specs.Services.{Service}
use Rattle.plan_report.specs.Reported.{service_data}
use Rattle.plan_report.proofs.report.service_values.Given as goal

abbrev pub invariant-loop-i : goal.invariant-loop-i
invariant-loop-i l =
    (map view l.values.items ≡ map (service_data l.setup.network) (take l.i l.services.list))
    × (list_all (λ (s : Service). is_name s.name) (take l.i l.services.list) ≡ true)
