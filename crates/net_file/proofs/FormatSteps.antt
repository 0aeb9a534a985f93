-- A format that the table takes.
use Rattle.std.proofs.Common.{◌≡◌, ◌∙◌, ap, ◌<◌, ◌≤◌, true, cond, List, [], ◌∷◌, ◌++◌, length, Some, None, Ok, Err, arith}
use Rattle.std.proofs.lemmas.Bool.{lt-leb, false_from_ne_true}
use Rattle.eon_model.specs.Names.{has_name}
use Rattle.eon_model.specs.Formats.{Format}
use Rattle.eon_model.specs.NetworkFault.{Fields}
use Rattle.reach_table.specs.Tables.{format_names}
use Rattle.net_file.specs.declared.fault.Why.TheVariants.{Range, Many, Twice}
use Rattle.net_file.specs.declared.line_words.FormatWords.{FormatWords}
use Rattle.net_file.specs.LineWords.{ranged, format_words}
use Rattle.net_file.specs.Steps.{on_ok, unless_fault, format_why, format_of, has_format_ranges, format_step}

pub format-taken : (rows : List Format) (fields : Fields) (f : FormatWords) →
    format_words fields ≡ Some f → has_format_ranges f ≡ true → length rows ≤ 64 → (length rows ≡ 64 → ⊥) →
    ((length rows < 64) × (has_name (format_names rows) f.name ≡ true) → ⊥) →
    format_step rows fields ≡ Ok (rows ++ format_of f ∷ [])
unfolding format_step
format-taken rows fields f e r most full twice =
    let few : length rows < 64 = omega arith in
    let not_many = lt-leb 64 (length rows) few in
    let new = false_from_ne_true (has_name (format_names rows) f.name) λ h. twice (few, h) in
    let go = λ (f : FormatWords). unless_fault (format_why rows f.name) (rows ++ format_of f ∷ []) in
    ap (λ o. on_ok go (ranged has_format_ranges o)) e
    ∙ (λ i. on_ok go (cond (r i) (Ok f) (Err Range)))
    ∙ (λ i. unless_fault (cond (not_many i) (Some Many) (cond (new i) (Some Twice) None)) (rows ++ format_of f ∷ []))
