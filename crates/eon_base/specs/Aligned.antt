-- How the spelling of a number lies at the end of a place of 20 bytes.
use Rattle.std.specs.Prelude.{◌≡◌, ℕ, ◌-◌, ◌≤◌, List, ◌++◌, length, take, drop, replicate}
use Rattle.std.proofs.Common.{ap, sym, ◌∙◌, arith}
use Rattle.std.proofs.lemmas.List.{take-append-drop, length-drop}

-- zeros, and then the spelling
pub record IsAligned (bytes : List ℕ) (start : ℕ) : Type 0 where
  pub whole : length bytes ≡ 20
  pub within : start ≤ 20
  pub zeros : take start bytes ≡ replicate start 0

-- the spelling alone gives the place back
pub aligned_back : (bytes : List ℕ) (start : ℕ) → IsAligned bytes start →
    (replicate (20 - length (drop start bytes)) 0 ++ drop start bytes ≡ bytes)
    × (20 - length (drop start bytes) ≡ start)
aligned_back bytes start h =
    let same : 20 - length (drop start bytes) ≡ start =
    omega (arith, h.whole, h.within, length-drop start bytes) in (
      ap (λ n. replicate n 0 ++ drop start bytes) same ∙ ap (λ zs. zs ++ drop start bytes) (sym h.zeros)
          ∙ take-append-drop start bytes,
      same,
    )
