-- How far up each fibre is taken, and where a channel settles.
use Rattle.std.specs.Prelude.{◌≡◌, ◌⊎◌, ℕ, ◌+◌, ◌≤◌, min, true, List, length, find, slice_index}
use Rattle.std.specs.Option.{option_map, unwrap_or}
use Rattle.eon_model.specs.Grid.{Band, units_of, lies_in}
use Rattle.eon_model.specs.Lists.{has_number}
use Rattle.eon_model.specs.Services.{Path}
use Rattle.compact_plan.specs.Blocks.{height_of, path_height}

-- how many units of the grid lie below the part of the band that holds the path
abbrev pub floor_height : Band → Path → ℕ
floor_height band p =
    unwrap_or (option_map (λ part. height_of part.lo) (find (λ part. lies_in part (units_of p.slot)) band)) (path_height p)

-- on this top, and not above where the path stands
abbrev pub settled_height : ℕ → Path → ℕ
settled_height top p = min top (path_height p)

-- below the first unit above a path that begins at this height
abbrev pub end_height : ℕ → Path → ℕ
end_height low p = low + (p.slot.m + p.slot.m)

-- the greatest of the floor and of the tops of these fibres
pub record IsTopOver (tops fibres : List ℕ) (floor top : ℕ) : Type 0 where
  pub above : floor ≤ top
  pub over : (f : ℕ) → has_number fibres f ≡ true → slice_index tops f ≤ top
  pub from : (top ≡ floor) ⊎ ((f : ℕ) × (has_number fibres f ≡ true) × (slice_index tops f ≡ top))

-- on these fibres all is taken up to the height, and no more than before elsewhere
pub record Raises (tops raised fibres : List ℕ) (height : ℕ) : Type 0 where
  pub long : length raised ≡ length tops
  pub over : (f : ℕ) → has_number fibres f ≡ true → height ≤ slice_index raised f
  pub grows : (f : ℕ) → slice_index tops f ≤ slice_index raised f
  pub from : (f : ℕ) → (slice_index raised f ≡ slice_index tops f)
      ⊎ ((has_number fibres f ≡ true) × (slice_index raised f ≡ height))
