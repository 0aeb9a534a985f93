-- What would stand if some units were lit and others dark.
use Rattle.std.specs.Prelude.{[], ◌∷◌}
use Rattle.eon_model.specs.Rows.{Rows, with_lit, without_lit}
use Rattle.spectrum_map.specs.Kept.{taken}
use Rattle.spectrum_rows.specs.declared.sheet.Wish.{Wish}

-- the rows with what would be lit, and without what would then be dark
abbrev pub as_wished : Wish → Rows → Rows
as_wished wish rows =
    without_lit (taken (wish.fibre ∷ []) wish.dark) (with_lit (taken (wish.fibre ∷ []) wish.lit) rows)
