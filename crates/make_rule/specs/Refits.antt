-- Where the backup of a leg may stand.
use Rattle.std.specs.Prelude.{ℤ, Bool, ◌&&◌, not, is_some, Some}
use Rattle.eon_model.specs.declared.Class.{Class}
use Rattle.eon_model.specs.Grid.{Band, moved_to}
use Rattle.eon_model.specs.Names.{Name}
use Rattle.eon_model.specs.Services.{Path, Leg, State, owned}
use Rattle.eon_model.specs.Changes.{path_moved}
use Rattle.eon_model.specs.Step.{first_clash}
use Rattle.admission.specs.FirstClear.{stands_in}

-- the leg with this backup at another centre
abbrev pub with_back : Leg → Path → ℤ → Leg
with_back l b n = record l { back = Some (path_moved b n) }

-- whether this backup may stand at the centre: its slot lies in the band, and the leg of the service of this name
-- and class clashes with no other service
abbrev pub may_back : State → Band → Name → Class → Leg → Path → ℤ → Bool
may_back state band name class l b n =
    stands_in band (moved_to b.slot n) && not (is_some (first_clash state (owned name class (with_back l b n))))
