-- The weak services so far and those of the rest are all.
use Rattle.std.proofs.Common.{◌≡◌, ◌++◌, map, drop}
use Rattle.std.specs.List.{flat_map}
use Rattle.std.specs.Option.{option_to_list}
use Rattle.live_failure.specs.Replied.{weak_told}
use Rattle.live_failure.specs.Rivals.{weak_by}
use Rattle.live_failure.proofs.exposing.exposed.Given as goal

abbrev pub invariant-loop-place : goal.invariant-loop-place
invariant-loop-place l =
    map weak_told l.weak.items ++ flat_map (weak_by l.order l.services.list (option_to_list l.failed)) (drop l.place l.services.list)
    ≡ flat_map (weak_by l.order l.services.list (option_to_list l.failed)) l.services.list
