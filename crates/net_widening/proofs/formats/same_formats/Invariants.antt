use Rattle.std.proofs.Common.{◌≡◌, drop}
use Rattle.eon_model.specs.Wider.{all_same, same_format}
use Rattle.net_widening.proofs.formats.same_formats.Given as goal

abbrev pub invariant-loop-i : goal.invariant-loop-i
invariant-loop-i l =
    all_same same_format l.table.rows l.other.rows ≡ all_same same_format (drop l.i l.table.rows) (drop l.i l.other.rows)
