use Rattle.eon_model.specs.Grid.{Units, lies_in_band}
use Rattle.eon_model.specs.Services.{Service}
use Rattle.admission.specs.Clear.{work_is_clear_of_service}
use Rattle.admission.proofs.PassLaws.{TakenTo}
use Rattle.admission.proofs.taken.work_row.Given as goal

-- what the services before this one hold is taken
abbrev pub invariant-loop-i : goal.invariant-loop-i
invariant-loop-i l =
    TakenTo l.band (lies_in_band l.band)
    (λ (u : Units) (s : Service). work_is_clear_of_service (record { route = l.route; units = u }) s)
    l.services.list l.row l.i
