-- The reach table of a network.
use Rattle.std.specs.Prelude.{ℕ, nat_le, Bool, ◌&&◌, List, length, map}
use Rattle.std.specs.List.{list_all}
use Rattle.eon_model.specs.Names.{Name, differ}
use Rattle.eon_model.specs.Formats.{Format}
use Rattle.eon_model.specs.NetworkText.{is_format}

-- Its rows in order, and the guard that each slot width has above what the rate needs.
pub record FormatTable : Type 0 where
  pub rows : List Format
  pub guard : ℕ

abbrev pub format_names : List Format → List Name
format_names rows = map (λ f. f.name) rows

-- at most 64 formats, each in range, of which no two have one name
abbrev pub are_rows : List Format → Bool
are_rows rows = nat_le (length rows) 64 && list_all is_format rows && differ (format_names rows)

-- such rows, and a guard of at most 64
abbrev pub is_format_table : FormatTable → Bool
is_format_table t = are_rows t.rows && nat_le t.guard 64
