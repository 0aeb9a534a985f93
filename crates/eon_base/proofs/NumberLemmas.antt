-- Which bytes are read as a number.
use Rattle.std.proofs.Common.{◌≡◌, refl, sym, ◌∙◌, ap, ℕ, zero, suc, ◌+◌, ◌-◌, ◌*◌, ◌<◌, ◌≤◌, ◌^◌, ℤ, pos, Bool, true, false, cond, ◌&&◌, ◌||◌, List, [], ◌∷◌, length, get_or, drop, nat_eq, Some, None, Result, Ok, arith}
use Rattle.std.specs.Prelude.{nat_le, nat_lt, nat_abs, neg_ℤ, not, bytes_eq, codes}
use Rattle.std.specs.List.{list_all, fold}
use Rattle.std.specs.Result.{result_ok}
use Rattle.std.proofs.lemmas.Bool.{and_parts, leb-true, false_from_ne_true, eqb-true}
use Rattle.std.proofs.lemmas.Slice.Eq.{bytes_eq-Decides}
use Rattle.eon_model.specs.Numerals.{is_within, is_digit, is_number, number_value, is_signed, signed_value}
use Rattle.eon_base.specs.declared.number.NumFault.{NumFault}
use Rattle.eon_base.specs.Numbers.{bounded, read_number, read_integer, integer_of}

-- ---- what an answer says

module _ {X : Type 0} where
  -- a value is given where it is formed and fits
  pub bounded-ok : (formed fits : Bool) (x y : X) → Ok y ≡ bounded formed fits x →
      (formed ≡ true) × (fits ≡ true) × (y ≡ x)
  bounded-ok true true x y h = (refl, refl, cc)
  bounded-ok true false x y h = cc
  bounded-ok false fits x y h = cc

  pub bounded-value : (formed fits : Bool) (x : X) →
      result_ok (bounded formed fits x) ≡ cond (formed && fits) (Some x) None
  bounded-value true true x = refl
  bounded-value true false x = refl
  bounded-value false fits x = refl

-- ---- zero

fold_grows : (n : ℕ) (ds : List ℕ) → n ≤ fold (λ n b. 10 * n + (b - 48)) n ds
fold_grows n [] = omega arith
fold_grows n (d ∷ ds) = omega (arith, fold_grows (10 * n + (d - 48)) ds)

zero_from : (d : ℕ) (ds : List ℕ) (b : Bool) → bytes_eq (d ∷ ds) (codes "0") ≡ b →
    (b || is_within 49 57 d && list_all is_digit ds) ≡ true → b ≡ nat_eq (number_value (d ∷ ds)) 0
zero_from d ds true e h =
    sym (ap (λ xs. nat_eq (number_value xs) 0) ((bytes_eq-Decides (d ∷ ds) (codes "0")).0 e))
zero_from d ds false e h =
    let first = (and_parts (is_within 49 57 d) (list_all is_digit ds) h).0 in
    let low : 49 ≤ d = leb-true 49 d (and_parts (nat_le 49 d) (nat_le d 57) first).0 in
    let grows = fold_grows (10 * 0 + (d - 48)) ds in
    sym (false_from_ne_true (nat_eq (number_value (d ∷ ds)) 0)
    λ k. absurd (omega (arith, grows, low, eqb-true (number_value (d ∷ ds)) 0 k)))

-- of the bytes that are a number, `0` alone is zero
pub zero_is : (ds : List ℕ) → is_number ds ≡ true → bytes_eq ds (codes "0") ≡ nat_eq (number_value ds) 0
zero_is [] h = cc
zero_is (d ∷ ds) h = zero_from d ds (bytes_eq (d ∷ ds) (codes "0")) refl h

abs_neg : (n : ℕ) → nat_abs (neg_ℤ (pos n)) ≡ n
abs_neg zero = refl
abs_neg (suc n) = refl

-- ---- after a minus

pub minus_is : (ds : List ℕ) → is_number ds ≡ true → read_integer (45 ∷ ds)
    ≡ bounded (not (nat_eq (number_value ds) 0)) (nat_lt (number_value ds) (2 ^ 63)) (neg_ℤ (pos (number_value ds)))
minus_is ds h =
    ap (λ b. bounded (b && not (bytes_eq ds (codes "0"))) (nat_lt (nat_abs (neg_ℤ (pos (number_value ds)))) (2 ^ 63))
    (neg_ℤ (pos (number_value ds)))) h
    ∙ ap (λ b. bounded (not b) (nat_lt (nat_abs (neg_ℤ (pos (number_value ds)))) (2 ^ 63))
    (neg_ℤ (pos (number_value ds)))) (zero_is ds h)
    ∙ ap (λ n. bounded (not (nat_eq (number_value ds) 0)) (nat_lt n (2 ^ 63)) (neg_ℤ (pos (number_value ds))))
    (abs_neg (number_value ds))

minus_at-ok : (ds : List ℕ) (size : ℕ) (r : Result ℤ NumFault) → Ok size ≡ read_number ds →
    r ≡ bounded (not (nat_eq size 0)) (nat_lt size (2 ^ 63)) (neg_ℤ (pos size)) → r ≡ read_integer (45 ∷ ds)
minus_at-ok ds size r h k =
    let parts = bounded-ok (is_number ds) (nat_lt (number_value ds) (2 ^ 64)) (number_value ds) size h in
    k ∙ ap (λ n. bounded (not (nat_eq n 0)) (nat_lt n (2 ^ 63)) (neg_ℤ (pos n))) parts.2
    ∙ sym (minus_is ds parts.0)

-- ---- without a minus

pub plus_is : (b : ℕ) (ds : List ℕ) → nat_eq b 45 ≡ false → read_integer (b ∷ ds)
    ≡ bounded (is_number (b ∷ ds)) (nat_lt (number_value (b ∷ ds)) (2 ^ 63)) (pos (number_value (b ∷ ds)))
plus_is b ds h =
    ap (λ t. bounded (cond t (is_number ds && not (bytes_eq ds (codes "0"))) (is_number (b ∷ ds)))
    (nat_lt (nat_abs (cond t (neg_ℤ (pos (number_value ds))) (pos (number_value (b ∷ ds))))) (2 ^ 63))
    (cond t (neg_ℤ (pos (number_value ds))) (pos (number_value (b ∷ ds))))) h

-- ---- the answer to bytes that begin with a minus

pub minus-ok : (bytes rest : List ℕ) (size : ℕ) (r : Result ℤ NumFault) → 0 < length bytes → get_or bytes 0 0 ≡ 45 →
    rest ≡ drop 1 bytes → Ok size ≡ read_number rest →
    r ≡ bounded (not (nat_eq size 0)) (nat_lt size (2 ^ 63)) (neg_ℤ (pos size)) → r ≡ read_integer bytes
minus-ok [] rest size r low e is h k = absurd (omega arith)
minus-ok (b ∷ ds) rest size r low e is h k =
    minus_at-ok ds size r (h ∙ ap read_number is) k ∙ ap (λ c. read_integer (c ∷ ds)) (sym e)

-- the number of the answer
pub integer_value : (bytes : List ℕ) (r : Result ℤ NumFault) → r ≡ read_integer bytes → result_ok r ≡ integer_of bytes
integer_value bytes r h =
    ap result_ok h ∙ bounded-value (is_signed bytes) (nat_lt (nat_abs (signed_value bytes)) (2 ^ 63)) (signed_value bytes)
