-- The moves of the services so far are told.
use Rattle.std.proofs.Common.{◌≡◌, ◌++◌, map, drop}
use Rattle.compact_plan.specs.Told.{move_told, channels, all_moves}
use Rattle.std.specs.List.{flat_map}
use Rattle.compact_plan.specs.Told.{moves_of}
use Rattle.compact_plan.proofs.telling.tell.Given as goal

abbrev pub invariant-loop-i : goal.invariant-loop-i
invariant-loop-i l =
    map move_told l.moves.items ++ flat_map (moves_of l.band (channels l.services.list l.lows)) (drop l.i (channels l.services.list l.lows))
    ≡ all_moves l.band (channels l.services.list l.lows)
