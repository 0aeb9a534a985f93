use Rattle.std.proofs.Common.{◌<◌, ◌≤◌}
use Rattle.load_rows.proofs.print_lines.Given as goal

abbrev pub invariant-loop-i : goal.invariant-loop-i
invariant-loop-i l = 0 < l.before → 2 ≤ l.i
