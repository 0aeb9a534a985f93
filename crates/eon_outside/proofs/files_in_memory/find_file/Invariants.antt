-- No entry before this one has the name.
use Rattle.std.proofs.Common.{◌≡◌, map, drop, string_bytes}
use Rattle.std.specs.Ordering.{nat_cmp}
use Rattle.std.specs.Cmp.Lexicographic.{slice_cmp}
use Rattle.std.specs.FinMap.{find}
use Rattle.eon_outside.proofs.files_in_memory.find_file.Given as goal

abbrev pub invariant-loop-i : goal.invariant-loop-i
invariant-loop-i l =
    let entries = map (λ file. (string_bytes file.0, file.1.items)) l.files in
    find (slice_cmp nat_cmp) l.name (drop l.i entries) ≡ find (slice_cmp nat_cmp) l.name entries
