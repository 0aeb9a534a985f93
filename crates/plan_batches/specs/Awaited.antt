-- What a mover waits for: of the moves that it meets the first in the list of those with the latest batch.
use Rattle.std.specs.Prelude.{Bool, ◌&&◌, ◌||◌, ◌==◌, nat_le, nat_lt, Option, Some, None, if◌then◌else◌}
use Rattle.plan_batches.specs.declared.mover.Mover.{Mover}
use Rattle.plan_batches.specs.declared.turn.Turn.{Turn}

-- whether the channel stands below the mover, which drifts into its place
abbrev pub is_met : Mover → Turn → Bool
is_met mover t = nat_le t.end mover.low && nat_lt mover.reach t.end

-- whether it has a later batch, or the same one and stands before it in the list
abbrev pub is_sooner : Turn → Turn → Bool
is_sooner t other = nat_lt other.batch t.batch || (t.batch == other.batch && nat_lt t.place other.place)

-- the one of the two that has the later batch, or else stands first in the list
abbrev pub sooner : Turn → Option Turn → Turn
sooner t None = t
sooner t (Some other) = if is_sooner t other then t else other

-- what the mover waits for, where it waited for the first one before
abbrev pub awaited : Mover → Option Turn → Turn → Option Turn
awaited mover first t = if is_met mover t then Some (sooner t first) else first
