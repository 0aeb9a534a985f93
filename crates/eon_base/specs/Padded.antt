-- How a name lies in a place of 32 bytes.
use Rattle.std.specs.Prelude.{◌≡◌, ℕ, ◌-◌, ◌≤◌, IsTrue, List, ◌++◌, length, take, drop, replicate}
use Rattle.std.proofs.Common.{ap, sym, ◌∙◌, arith}
use Rattle.std.proofs.lemmas.List.{take-append-drop, length-take-le}
use Rattle.eon_model.specs.Names.{is_name}

-- the first bytes are a name, and the others are zeros
pub record IsPadded (bytes : List ℕ) (len : ℕ) : Type 0 where
  pub whole : length bytes ≡ 32
  pub within : len ≤ 32
  pub name : IsTrue (is_name (take len bytes))
  pub zeros : drop len bytes ≡ replicate (32 - len) 0

-- the name alone gives the place back
pub padded_back : (bytes : List ℕ) (len : ℕ) → IsPadded bytes len →
    (take len bytes ++ replicate (32 - length (take len bytes)) 0 ≡ bytes) × (length (take len bytes) ≡ len)
padded_back bytes len h =
    let fits : len ≤ length bytes = omega (arith, h.whole, h.within) in
    let same = length-take-le len bytes fits in (
      ap (λ n. take len bytes ++ replicate (32 - n) 0) same ∙ ap (λ zs. take len bytes ++ zs) (sym h.zeros)
          ∙ take-append-drop len bytes,
      same,
    )
