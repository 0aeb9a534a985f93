-- None of the services so far crosses it, so that what is left decides.
use Rattle.std.proofs.Common.{◌≡◌, ◌&&◌, drop}
use Rattle.std.specs.List.{list_any}
use Rattle.live_failure.specs.Parts.{has_switched, is_rival, is_crossed}
use Rattle.live_failure.proofs.dark.is_crossed.Given as goal

abbrev pub invariant-loop-i : goal.invariant-loop-i
invariant-loop-i l =
    list_any (λ t. has_switched l.failed t && is_rival l.own t) (drop l.i l.services.list)
    ≡ is_crossed l.services.list l.failed l.own
