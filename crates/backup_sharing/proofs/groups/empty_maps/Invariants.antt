use Rattle.std.proofs.Common.{◌≡◌, length}
use Rattle.std.specs.List.{AllByRecursion}
use Rattle.spectrum_map.specs.Kept.{IsEmpty}
use Rattle.backup_sharing.proofs.groups.empty_maps.Given as goal

-- so many maps are there, with nothing in them
abbrev pub invariant-loop-group : goal.invariant-loop-group
invariant-loop-group l = record {
  count : length l.maps.items ≡ l._group;
  empty : AllByRecursion (IsEmpty l.band l.fibres) l.maps.items;
}
