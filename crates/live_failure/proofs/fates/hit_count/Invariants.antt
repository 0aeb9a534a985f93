-- The hits so far and those of the rest are all.
use Rattle.std.proofs.Common.{◌≡◌, ◌+◌, ◌≤◌, length, drop}
use Rattle.std.specs.List.{flat_map}
use Rattle.live_failure.specs.Parts.{fates_by}
use Rattle.live_failure.proofs.fates.hit_count.Given as goal

abbrev pub invariant-loop-i : goal.invariant-loop-i
invariant-loop-i l = record {
  all : l.count + length (flat_map (fates_by l.group) (drop l.i l.services.list)) ≡ length (flat_map (fates_by l.group) l.services.list);
  few : l.count ≤ l.i;
}
