use Rattle.std.proofs.Common.{◌≡◌, length}
use Rattle.eon_model.specs.Rows.{with_held}
use Rattle.spectrum_map.specs.Kept.{taken}
use Rattle.backup_sharing.specs.Shared.{GoTo}
use Rattle.backup_sharing.proofs.groups.add_to_groups.Given as goal

-- the maps of the groups so far are changed
abbrev pub invariant-loop-group : goal.invariant-loop-group
invariant-loop-group l = record {
  len : length l.maps ≡ length l.initial.maps;
  maps : GoTo l.group l.risk (with_held (taken l.fibres l.units)) l.initial.maps l.maps;
}
