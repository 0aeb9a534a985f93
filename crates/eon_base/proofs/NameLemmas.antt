-- Why bytes are read as a name, or are not.
use Rattle.std.proofs.Common.{◌≡◌, refl, sym, ◌∙◌, ap, ℕ, ◌+◌, ◌-◌, ◌<◌, ◌≤◌, Bool, true, false, cond, ◌&&◌, List, [], ◌∷◌, ◌++◌, length, take, drop, nat_eq, Option, Some, None, arith}
use Rattle.std.specs.Prelude.{nat_le, not, is_none, position, replicate}
use Rattle.std.specs.List.{list_all, position_from}
use Rattle.std.proofs.Math.Seq.{take-append_seam, drop-append_seam}
use Rattle.std.proofs.lemmas.Bool.{le-leb, eqb-false}
use Rattle.std.proofs.lemmas.List.{length-append, length-replicate}
use Rattle.std.proofs.lemmas.Iterator.Adapters.{position_from-zero}
use Rattle.eon_model.specs.Names.{is_name, is_name_byte}
use Rattle.eon_base.specs.Names.{name_of}
use Rattle.eon_base.specs.Padded.{IsPadded}

head_from : (b : Bool) (i : ℕ) (rest : Option ℕ) (all : Bool) → is_none rest ≡ all →
    is_none (cond (not b) (Some i) rest) ≡ (b && all)
head_from true i rest all h = h
head_from false i rest all h = refl

none_from : (p : ℕ → Bool) (i : ℕ) (xs : List ℕ) →
    is_none (position_from (λ b. not (p b)) i xs) ≡ list_all p xs
none_from p i [] = refl
none_from p i (x ∷ xs) = head_from (p x) i _ (list_all p xs) (none_from p (i + 1) xs)

-- no byte fails exactly where each passes
pub none_fails : (p : ℕ → Bool) (xs : List ℕ) → is_none (position (λ b. not (p b)) xs) ≡ list_all p xs
none_fails p xs = ap is_none (position_from-zero (λ b. not (p b)) xs) ∙ none_from p 0 xs

-- bytes of a length in range are a name exactly where no byte fails
pub passing_is_name : (bytes : List ℕ) (r : Option ℕ) → 0 < length bytes → length bytes ≤ 32 →
    r ≡ position (λ b. not (is_name_byte b)) bytes → is_name bytes ≡ is_none r
passing_is_name bytes r low high e =
    ap (λ b. b && nat_le (length bytes) 32 && list_all is_name_byte bytes) (le-leb 1 (length bytes) low)
    ∙ ap (λ b. b && list_all is_name_byte bytes) (le-leb (length bytes) 32 high)
    ∙ sym (none_fails is_name_byte bytes) ∙ ap is_none (sym e)

-- what is read where no byte fails
pub name_read : (bytes place : List ℕ) → 0 < length bytes → length bytes ≤ 32 →
    None ≡ position (λ b. not (is_name_byte b)) bytes → place ≡ bytes ++ replicate (32 - length bytes) 0 →
    IsPadded place (length bytes) × (Some (take (length bytes) place) ≡ name_of bytes) × (take (length bytes) place ≡ bytes)
name_read bytes place low high e is =
    let named = passing_is_name bytes None low high e in
    let front = ap (take (length bytes)) is ∙ take-append_seam bytes (replicate (32 - length bytes) 0) in (
      record {
        whole = ap length is ∙ length-append bytes (replicate (32 - length bytes) 0)
            ∙ ap (λ n. length bytes + n) (length-replicate (32 - length bytes) 0) ∙ (let e : length bytes + (32 - length bytes) ≡ 32 = omega arith in e);
        within = high;
        name = ap is_name front ∙ named;
        zeros = ap (drop (length bytes)) is ∙ drop-append_seam bytes (replicate (32 - length bytes) 0);
      },
      ap Some front ∙ sym (ap (λ b. cond b (Some bytes) None) named),
      front,
    )

-- nothing is read where one fails
pub none_read : (bytes : List ℕ) (at : ℕ) → 0 < length bytes → length bytes ≤ 32 →
    Some at ≡ position (λ b. not (is_name_byte b)) bytes → None ≡ name_of bytes
none_read bytes at low high e =
    sym (ap (λ b. cond b (Some bytes) None) (passing_is_name bytes (Some at) low high e))

pub not_zero : (n : ℕ) → false ≡ nat_eq n 0 → 0 < n
not_zero n h = omega (arith, eqb-false n 0 (sym h))
