-- How the parts of a band lie in a place for eight.
use Rattle.std.specs.Prelude.{◌≡◌, ℕ, ◌-◌, ◌≤◌, pos, IsTrue, List, ◌++◌, length, take, drop, replicate}
use Rattle.std.proofs.Common.{ap, sym, ◌∙◌, arith}
use Rattle.std.proofs.lemmas.List.{take-append-drop, length-take-le}
use Rattle.eon_model.specs.Grid.{Units, is_band}

-- what stands where there is no part
abbrev pub blank : Units
blank = record { lo = pos 0; hi = pos 0 }

-- the first ranges are the parts of a band, and the others are blank
pub record IsPadded (parts : List Units) (count : ℕ) : Type 0 where
  pub whole : length parts ≡ 8
  pub within : count ≤ 8
  pub band : IsTrue (is_band (take count parts))
  pub blanks : drop count parts ≡ replicate (8 - count) blank

-- the band alone gives the place back
pub padded_back : (parts : List Units) (count : ℕ) → IsPadded parts count →
    (take count parts ++ replicate (8 - length (take count parts)) blank ≡ parts)
    × (length (take count parts) ≡ count)
padded_back parts count h =
    let fits : count ≤ length parts = omega (arith, h.whole, h.within) in
    let same = length-take-le count parts fits in (
      ap (λ n. take count parts ++ replicate (8 - n) blank) same
          ∙ ap (λ zs. take count parts ++ zs) (sym h.blanks) ∙ take-append-drop count parts,
      same,
    )
