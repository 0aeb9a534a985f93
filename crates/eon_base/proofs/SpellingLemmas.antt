-- How a spelling lies in its place.
use Rattle.std.proofs.Common.{◌≡◌, sym, ◌∙◌, ap, ℕ, ◌+◌, ◌<◌, ◌≤◌, ◌^◌, List, ◌∷◌, length, take, drop, set, arith}
use Rattle.std.specs.Prelude.{replicate}
use Rattle.std.specs.Fmt.{decimal}
use Rattle.std.proofs.lemmas.Fmt.{length-decimal-le}
use Rattle.std.proofs.lemmas.List.{take-replicate, take-take, take-set, drop-set, length-set}
use Rattle.eon_base.specs.Aligned.{IsAligned}

pub small_digits_fit : (n : ℕ) → n < 2 ^ 63 → length (decimal n) ≤ 19
small_digits_fit n h = length-decimal-le 19 n (omega arith) (omega (arith, h)) (omega (arith, h))

-- a place of zeros, at whose end something was written
pub written_is_aligned : (bytes : List ℕ) (start : ℕ) → length bytes ≡ 20 → start ≤ 20 →
    take start bytes ≡ take start (replicate 20 0) → IsAligned bytes start
written_is_aligned bytes start whole within front =
    record { whole = whole; within = within; zeros = front ∙ take-replicate start 20 0 within }

-- one more byte before it
pub minus_is_aligned : (bytes : List ℕ) (start at : ℕ) → start ≡ at + 1 → length bytes ≡ 20 → start ≤ 20 →
    take start bytes ≡ take start (replicate 20 0) → IsAligned (set bytes at 45) at
minus_is_aligned bytes start at is whole within front =
    let before : at ≤ start = omega (arith, is) in
    record {
      whole = length-set bytes at 45 ∙ whole;
      within = omega (arith, is, within);
      zeros = take-set bytes at 45 ∙ sym (take-take at start bytes before) ∙ ap (take at) front
          ∙ take-take at start (replicate 20 0) before ∙ take-replicate at 20 0 (omega (arith, before, within));
    }

pub minus_written : (bytes ds : List ℕ) (start at : ℕ) → start ≡ at + 1 → length bytes ≡ 20 → start ≤ 20 →
    drop start bytes ≡ ds → drop at (set bytes at 45) ≡ 45 ∷ ds
minus_written bytes ds start at is whole within end =
    drop-set bytes at 45 (omega (arith, is, whole, within))
    ∙ ap (λ k. 45 ∷ drop k bytes) (sym is) ∙ ap (λ xs. 45 ∷ xs) end
