-- Heights in the grid, counted from its floor or from its ceiling.
use Rattle.std.specs.Prelude.{◌≡◌, ◌⊎◌, ℕ, nat_abs, nat_le, ◌<◌, ◌≤◌, ◌+◌, ℤ, pos, ◌+ℤ◌, ◌-ℤ◌, ◌&&◌, find, slice_get, Some, if◌then◌else◌}
use Rattle.std.specs.Option.{option_map, unwrap_or}
use Rattle.eon_model.specs.Grid.{Units, Band, units_of, lies_in}
use Rattle.eon_model.specs.Route.{share_fibre}
use Rattle.eon_model.specs.Services.{Path, Service, State}
use Rattle.make_room.specs.declared.heights.Side.{Side}
use Rattle.make_room.specs.declared.heights.Side.TheVariants.{Floor, Ceiling}

-- how many units of the grid come before these
abbrev pub begin_of : Side → Units → ℕ
begin_of Floor u = nat_abs (u.lo +ℤ pos 4096)
begin_of Ceiling u = nat_abs (pos 4095 -ℤ u.hi)

-- before the first one behind them
abbrev pub end_of : Side → Units → ℕ
end_of Floor u = nat_abs (u.hi +ℤ pos 4097)
end_of Ceiling u = nat_abs (pos 4096 -ℤ u.lo)

-- before the part of the band that holds the path, or before the path
abbrev pub base_of : Side → Band → Path → ℕ
base_of from band p =
    unwrap_or (option_map (begin_of from) (find (λ part. lies_in part (units_of p.slot)) band))
    (begin_of from (units_of p.slot))

-- where a backup ends, if it comes before the path on a common fibre; else 0
abbrev pub end_before_of : Side → Path → Path → ℕ
end_before_of from p back =
    if share_fibre back.route p.route && nat_le (end_of from (units_of back.slot)) (begin_of from (units_of p.slot))
    then end_of from (units_of back.slot) else 0

-- the backup of a service
abbrev pub backup_end_of : Side → Path → Service → ℕ
backup_end_of from p o = unwrap_or (option_map (end_before_of from p) o.leg.back) 0

-- The greatest of the number and of those of the first n services.
pub record IsMaxTo (f : Service → ℕ) (state : State) (base n top : ℕ) : Type 0 where
  pub base_is : base ≤ top
  pub over : (j : ℕ) (o : Service) → j < n → slice_get state j ≡ Some o → f o ≤ top
  pub from : (top ≡ base) ⊎ ((j : ℕ) × ((o : Service) × (j < n) × (slice_get state j ≡ Some o) × (f o ≡ top)))

-- the centre of a channel that is m times 12.5 GHz wide and begins at this height
abbrev pub centre_from : Side → ℕ → ℕ → ℤ
centre_from Floor m at = pos (at + m) -ℤ pos 4096
centre_from Ceiling m at = pos 4096 -ℤ pos (at + m)
