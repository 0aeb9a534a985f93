-- No service before this one moves.
use Rattle.std.proofs.Common.{◌≡◌, drop, find}
use Rattle.eon_model.specs.Services.{is_moving}
use Rattle.make_room.proofs.standing.first_moving.Given as goal

abbrev pub invariant-loop-i : goal.invariant-loop-i
invariant-loop-i l = find is_moving (drop l.i l.services.list) ≡ find is_moving l.services.list
