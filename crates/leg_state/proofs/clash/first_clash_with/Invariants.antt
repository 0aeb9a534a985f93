use Rattle.std.proofs.Common.{◌≡◌, drop, find}
use Rattle.std.specs.Option.{option_copied}
use Rattle.leg_state.specs.Clashes.{clashes_of}
use Rattle.leg_state.proofs.clash.first_clash_with.Given as goal

-- no service before this one clashes
abbrev pub invariant-loop-i : goal.invariant-loop-i
invariant-loop-i l =
    find (clashes_of l.class l.leg (option_copied l.owner)) (drop l.i l.services.list)
    ≡ find (clashes_of l.class l.leg (option_copied l.owner)) l.services.list
