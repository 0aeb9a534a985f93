use Rattle.std.specs.Option.{option_copied}
use Rattle.eon_model.specs.Grid.{Units, lies_in_band}
use Rattle.eon_model.specs.Services.{Service}
use Rattle.admission.specs.FirstClear.{is_beside}
use Rattle.admission.specs.Clear.{back_is_clear_of_service}
use Rattle.admission.proofs.PassLaws.{TakenTo}
use Rattle.admission.proofs.taken.back_row.Given as goal

-- what the services before this one hold is taken
abbrev pub invariant-loop-i : goal.invariant-loop-i
invariant-loop-i l =
    TakenTo l.band (lies_in_band l.band)
    (λ (u : Units) (s : Service). back_is_clear_of_service (is_beside (option_copied l.own) s) l.class l.work
    (record { route = l.route; units = u }) s) l.services.list l.row l.i
