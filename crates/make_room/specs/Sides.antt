-- To which side of a block a channel goes, told by where it begins at its lowest and its highest place.
use Rattle.std.specs.Prelude.{ℕ, nat_le, ◌+◌, int_lt, Bool, ◌&&◌, ◌||◌, not, List, slice_index_or}
use Rattle.eon_model.specs.Grid.{units_of}
use Rattle.eon_model.specs.Route.{share_fibre}
use Rattle.eon_model.specs.Services.{Path, Service}
use Rattle.make_room.specs.declared.heights.Side.{Side}
use Rattle.make_room.specs.declared.heights.Side.TheVariants.{Floor, Ceiling}
use Rattle.make_room.specs.Heights.{begin_of}

-- it ends before the block, from this side
abbrev pub ends_so : Side → Path → Path → ℕ → Bool
ends_so from block path at =
    share_fibre path.route block.route
    && nat_le (at + (path.slot.m + path.slot.m)) (begin_of from (units_of block.slot))

-- it goes below the block
abbrev pub down_so : Path → Path → ℕ → ℕ → Bool
down_so block path low high =
    ends_so Floor block path low && (int_lt path.slot.n block.slot.n || not (ends_so Ceiling block path high))

-- or above it
abbrev pub up_so : Path → Path → ℕ → ℕ → Bool
up_so block path low high = ends_so Ceiling block path high && not (down_so block path low high)

-- beyond it, from the side of the sweep
abbrev pub beyond_so : Side → Path → Path → ℕ → ℕ → Bool
beyond_so Ceiling block path low high = down_so block path low high
beyond_so Floor block path low high = up_so block path low high

-- so does the channel of each service
abbrev pub goes_so : Side → Path → List ℕ → List ℕ → ℕ → Service → Bool
goes_so from block lows highs j s =
    beyond_so from block s.leg.work (slice_index_or lows j 0) (slice_index_or highs j 0)
