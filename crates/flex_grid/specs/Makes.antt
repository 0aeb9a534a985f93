-- Which numbers make a slot, a range of units and a band.
use Rattle.std.specs.Prelude.{ℕ, ℤ, pos, ◌+ℤ◌, ◌-ℤ◌, int_le, Bool, ◌&&◌, [], ◌∷◌, ◌++◌, Option, Some, None, if◌then◌else◌}
use Rattle.eon_model.specs.Grid.{Units, Band, Slot, is_slot, is_units, is_band, span_of}

-- the slot with this centre and width, if it is one
abbrev pub slot_of : ℤ → ℕ → Option Slot
slot_of n m = let s : Slot = record { n = n; m = m } in if is_slot s then Some s else None

-- the units from one to another, if they are a range of the grid
abbrev pub units_from : ℤ → ℤ → Option Units
units_from lo hi = let u : Units = record { lo = lo; hi = hi } in if is_units u then Some u else None

-- whether a part begins above a unit that lies above the band, and few enough units lie from the band's
-- lowest to the part's highest
abbrev pub leaves_room_for : Band → Units → Bool
leaves_room_for band part =
    int_le ((span_of band).hi +ℤ pos 2) part.lo && int_le (part.hi -ℤ (span_of band).lo) (pos 1023)

-- the band with one part more at its end, if it is one
abbrev pub band_with : Band → ℤ → ℤ → Option Band
band_with band lo hi =
    let part : Units = record { lo = lo; hi = hi } in
    let c : Band = band ++ part ∷ [] in
    if is_band c then Some c else None

-- the band of one part, if it is one
abbrev pub band_from : ℤ → ℤ → Option Band
band_from lo hi = band_with [] lo hi
