use Rattle.eon_model.specs.Grid.{units_of}
use Rattle.make_room.specs.Sweeps.{IsEach, BeginsClear}
use Rattle.make_room.specs.Sides.{goes_so}
use Rattle.make_room.proofs.targets.clear_begins.Given as goal

-- those so far
abbrev pub invariant-loop-i : goal.invariant-loop-i
invariant-loop-i l = IsEach (BeginsClear l.from (units_of l.block.slot) (goes_so l.from l.block l.lows l.highs)) l.services.list l.i l.begins.items
