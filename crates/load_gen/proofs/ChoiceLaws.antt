-- The line that a choice stands for.
use Rattle.std.proofs.Common.{◌≡◌, sym, ◌∙◌, ap, inl, inr, ℕ, ◌<◌, ◌≤◌, List, arith}
use Rattle.std.proofs.lemmas.Bool.{cases_eq}
use Rattle.eon_model.specs.Legal.{Setup}
use Rattle.eon_model.specs.CommandText.{command_text}
use Rattle.eon_model.specs.LoadGenerator.{command_chosen}

module _ (setup : Setup) (word i : ℕ) where
  abbrev pub line_of : ℕ → List ℕ
  line_of choice = command_text (command_chosen setup word i choice)

  -- the choice is this number, and the line is the one of the number
  pub chosen : (made choice n : ℕ) (line : List ℕ) → made ≡ choice → made ≡ n → line ≡ line_of n → line ≡ line_of choice
  chosen made choice n line value is written = written ∙ ap line_of (sym is ∙ value)

  -- 8 and 9 stand for one line
  pub either-choice : (made choice : ℕ) (line : List ℕ) → made ≡ choice → 8 ≤ made → made < 10 → line ≡ line_of 8 →
      line ≡ line_of choice
  either-choice made choice line value least few written = elim (cases_eq made 8) [
    | inl is ↦ chosen made choice 8 line value is written
    | inr other ↦ chosen made choice 9 line value (omega (arith, least, few, other)) written
  ]

  -- no choice but the last one is above 14
  pub last-choice : (made choice : ℕ) (line : List ℕ) → made ≡ choice → made < 16 → 15 ≤ made → line ≡ line_of 15 →
      line ≡ line_of choice
  last-choice made choice line value few past written = chosen made choice 15 line value (omega (arith, few, past)) written
