-- Each number has one spelling.
use Rattle.std.proofs.Common.{◌≡◌, refl, sym, ◌∙◌, ap, ℕ, zero, suc, ◌+◌, ◌-◌, ◌*◌, ◌<◌, ◌≤◌, ◌^◌, ℤ, pos, negsuc, Bool, true, false, cond, ◌&&◌, ◌||◌, List, [], ◌∷◌, length, get_or, nat_eq, Some, None, arith, rules}
use Rattle.std.specs.Prelude.{nat_le, nat_lt, nat_abs, neg_ℤ, not, bytes_eq, codes}
use Rattle.std.specs.List.{list_all, fold}
use Rattle.std.specs.Result.{result_ok}
use Rattle.std.specs.Fmt.{decimal, signed_decimal}
use Rattle.std.proofs.lemmas.Fmt.{decimal-digits_value}
use Rattle.std.proofs.lemmas.Str.Parse.{IsNumeralModel, numerals_by_fold}
use Rattle.std.proofs.lemmas.Bool.{and_parts, and_from, leb-true, le-leb, false_from_ne_true, lt-ltb, ltb-true, eqb-true}
use Rattle.std.proofs.lemmas.Slice.Eq.{bytes_eq-Decides}
use Rattle.eon_model.specs.Numerals.{is_within, is_digit, is_number, number_value, is_signed, signed_value}
use Rattle.eon_model.proofs.SpellingLaws.{decimal-Spells, number_value-decimal, not_minus}
use Rattle.eon_base.specs.Numbers.{number_of, integer_of}
use Rattle.eon_base.specs.Laws.{OneSpelling, OneSignedSpelling}
use Rattle.eon_base.proofs.NumberLemmas.{bounded-value, zero_is, plus_is}
use Rattle.eon_model.proofs.TextNumbers.{decimal_formed}

module _ {X : Type 0} where
  chosen_parts : (f g : Bool) (x y : X) → cond (f && g) (Some x) None ≡ Some y →
      (f ≡ true) × (g ≡ true) × (x ≡ y)
  chosen_parts true true x y h = (refl, refl, cc)
  chosen_parts true false x y h = cc
  chosen_parts false g x y h = cc

  chosen_from : (f g : Bool) (x y : X) → f ≡ true → g ≡ true → x ≡ y → cond (f && g) (Some x) None ≡ Some y
  chosen_from f g x y p q e = ap (λ b. cond (b && g) (Some x) None) p ∙ ap (λ b. cond b (Some x) None) q ∙ ap Some e

-- ---- bytes that are a number

-- std's words for digits and their value
own : IsNumeralModel (λ ds. list_all is_digit ds ≡ true) number_value
own = numerals_by_fold _ (search rules) (λ n ds. fold (λ n b. 10 * n + (b - 48)) n ds) (search rules)

record Formed (ds : List ℕ) : Type 0 where
  digits : list_all is_digit ds ≡ true
  some : 0 < length ds
  lead : get_or ds 0 0 ≡ 48 → length ds ≡ 1

formed_from : (d : ℕ) (ds : List ℕ) (b : Bool) → bytes_eq (d ∷ ds) (codes "0") ≡ b →
    (b || is_within 49 57 d && list_all is_digit ds) ≡ true → Formed (d ∷ ds)
formed_from d ds true e h =
    let is = (bytes_eq-Decides (d ∷ ds) (codes "0")).0 e in
    record { digits = ap (list_all is_digit) is; some = omega arith; lead = λ _. ap length is }
formed_from d ds false e h =
    let parts = and_parts (is_within 49 57 d) (list_all is_digit ds) h in
    let ends = and_parts (nat_le 49 d) (nat_le d 57) parts.0 in
    let low : 49 ≤ d = leb-true 49 d ends.0 in
    record {
      digits = and_from _ _ (and_from _ _ (le-leb 48 d (omega (arith, low))) ends.1) parts.1;
      some = omega arith;
      lead = λ k. absurd (omega (arith, low, k));
    }

formed : (ds : List ℕ) → is_number ds ≡ true → Formed ds
formed [] h = cc
formed (d ∷ ds) h = formed_from d ds (bytes_eq (d ∷ ds) (codes "0")) refl h

-- it is the spelling of its value
respelled : (ds : List ℕ) → is_number ds ≡ true → number_value ds < 2 ^ 64 → decimal (number_value ds) ≡ ds
respelled ds h small = let f = formed ds h in decimal-digits_value own ds f.digits f.some f.lead small

-- ---- spellings

pub one_spelling : OneSpelling
one_spelling v bytes small = (
  λ h. let parts = chosen_parts (is_number bytes) (nat_lt (number_value bytes) (2 ^ 64)) (number_value bytes) v h in
      sym (respelled bytes parts.0 (ltb-true (number_value bytes) (2 ^ 64) parts.1)) ∙ ap decimal parts.2,
  λ e. ap number_of e ∙ chosen_from (is_number (decimal v)) (nat_lt (number_value (decimal v)) (2 ^ 64))
      (number_value (decimal v)) v (decimal_formed v small)
      (ap (λ n. nat_lt n (2 ^ 64)) (number_value-decimal v small) ∙ lt-ltb v (2 ^ 64) small)
      (number_value-decimal v small),
)

-- ---- signed numbers

signed_minus : (n : ℕ) → 0 < n → signed_decimal (neg_ℤ (pos n)) ≡ 45 ∷ decimal n
signed_minus zero h = absurd (omega arith)
signed_minus (suc n) h = refl

nonzero : (n : ℕ) → not (nat_eq n 0) ≡ true → 0 < n
nonzero zero h = cc
nonzero (suc n) h = omega arith

abs_neg : (n : ℕ) → nat_abs (neg_ℤ (pos n)) ≡ n
abs_neg zero = refl
abs_neg (suc n) = refl

-- bytes after a minus
minus_spelled : (ds : List ℕ) (z : ℤ) → integer_of (45 ∷ ds) ≡ Some z → 45 ∷ ds ≡ signed_decimal z
minus_spelled ds z h =
    let parts = chosen_parts (is_number ds && not (bytes_eq ds (codes "0")))
    (nat_lt (nat_abs (neg_ℤ (pos (number_value ds)))) (2 ^ 63)) (neg_ℤ (pos (number_value ds))) z h in
    let both = and_parts (is_number ds) (not (bytes_eq ds (codes "0"))) parts.0 in
    let small = ltb-true _ _ (sym (ap (λ n. nat_lt n (2 ^ 63)) (abs_neg (number_value ds))) ∙ parts.1) in
    let above = nonzero (number_value ds) (sym (ap not (zero_is ds both.0)) ∙ both.1) in
    ap (λ xs. 45 ∷ xs) (sym (respelled ds both.0 (omega (arith, small))))
    ∙ sym (signed_minus (number_value ds) above) ∙ ap signed_decimal parts.2

-- bytes without one
plus_spelled : (b : ℕ) (ds : List ℕ) (z : ℤ) → nat_eq b 45 ≡ false → integer_of (b ∷ ds) ≡ Some z →
    b ∷ ds ≡ signed_decimal z
plus_spelled b ds z e h =
    let here : cond (is_number (b ∷ ds) && nat_lt (number_value (b ∷ ds)) (2 ^ 63)) (Some (pos (number_value (b ∷ ds)))) None ≡ Some z =
    sym (bounded-value (is_number (b ∷ ds)) (nat_lt (number_value (b ∷ ds)) (2 ^ 63)) (pos (number_value (b ∷ ds))))
    ∙ sym (ap result_ok (plus_is b ds e)) ∙ bounded-value (is_signed (b ∷ ds)) (nat_lt (nat_abs (signed_value (b ∷ ds))) (2 ^ 63))
    (signed_value (b ∷ ds)) ∙ h in
    let parts = chosen_parts (is_number (b ∷ ds)) (nat_lt (number_value (b ∷ ds)) (2 ^ 63)) (pos (number_value (b ∷ ds))) z here in
    let small = ltb-true (number_value (b ∷ ds)) (2 ^ 63) parts.1 in
    sym (respelled (b ∷ ds) parts.0 (omega (arith, small))) ∙ ap signed_decimal parts.2

signed_spelled_from : (b : ℕ) (ds : List ℕ) (z : ℤ) (t : Bool) → nat_eq b 45 ≡ t → integer_of (b ∷ ds) ≡ Some z →
    b ∷ ds ≡ signed_decimal z
signed_spelled_from b ds z true e h =
    let is : b ≡ 45 = eqb-true b 45 e in
    ap (λ c. c ∷ ds) is ∙ minus_spelled ds z (sym (ap (λ c. integer_of (c ∷ ds)) is) ∙ h)
signed_spelled_from b ds z false e h = plus_spelled b ds z e h

signed_spelled : (bytes : List ℕ) (z : ℤ) → integer_of bytes ≡ Some z → bytes ≡ signed_decimal z
signed_spelled [] z h = cc
signed_spelled (b ∷ ds) z h = signed_spelled_from b ds z (nat_eq b 45) refl h

-- digits are read as a signed number too
plus_read : (b : ℕ) (ds : List ℕ) (n : ℕ) → is_digit b ≡ true → is_number (b ∷ ds) ≡ true →
    number_value (b ∷ ds) ≡ n → n < 2 ^ 63 → integer_of (b ∷ ds) ≡ Some (pos n)
plus_read b ds n d h v small =
    sym (bounded-value (is_signed (b ∷ ds)) (nat_lt (nat_abs (signed_value (b ∷ ds))) (2 ^ 63)) (signed_value (b ∷ ds)))
    ∙ ap result_ok (plus_is b ds (not_minus b d))
    ∙ bounded-value (is_number (b ∷ ds)) (nat_lt (number_value (b ∷ ds)) (2 ^ 63)) (pos (number_value (b ∷ ds)))
    ∙ chosen_from (is_number (b ∷ ds)) (nat_lt (number_value (b ∷ ds)) (2 ^ 63)) (pos (number_value (b ∷ ds))) (pos n) h
    (ap (λ k. nat_lt k (2 ^ 63)) v ∙ lt-ltb n (2 ^ 63) small) (ap pos v)

suc_not_zero : (n : ℕ) → nat_eq (suc n) 0 ≡ false
suc_not_zero n = false_from_ne_true (nat_eq (suc n) 0) λ e. absurd (omega (arith, eqb-true (suc n) 0 e))

minus_read : (ds : List ℕ) (n : ℕ) → is_number ds ≡ true → number_value ds ≡ suc n → suc n < 2 ^ 63 →
    integer_of (45 ∷ ds) ≡ Some (negsuc n)
minus_read ds n h v small =
    chosen_from (is_number ds && not (bytes_eq ds (codes "0"))) (nat_lt (nat_abs (neg_ℤ (pos (number_value ds)))) (2 ^ 63))
    (neg_ℤ (pos (number_value ds))) (negsuc n)
    (and_from _ _ h (ap not (zero_is ds h ∙ ap (λ k. nat_eq k 0) v ∙ suc_not_zero n)))
    (ap (λ k. nat_lt (nat_abs (neg_ℤ (pos k))) (2 ^ 63)) v ∙ lt-ltb (suc n) (2 ^ 63) small)
    (ap (λ k. neg_ℤ (pos k)) v)

signed_read : (z : ℤ) → nat_abs z < 2 ^ 63 → integer_of (signed_decimal z) ≡ Some z
signed_read (pos n) small =
    let s = decimal-Spells n (omega (arith, small)) in
    let head = (and_parts (is_digit s.first) (list_all is_digit s.rest) (sym (ap (list_all is_digit) s.is) ∙ s.digits)).0 in
    ap integer_of s.is ∙ plus_read s.first s.rest n head
    (sym (ap is_number s.is) ∙ decimal_formed n (omega (arith, small))) (sym (ap number_value s.is) ∙ s.value) small
signed_read (negsuc n) small =
    minus_read (decimal (suc n)) n (decimal_formed (suc n) (omega (arith, small)))
    (number_value-decimal (suc n) (omega (arith, small))) small

pub one_signed_spelling : OneSignedSpelling
one_signed_spelling z bytes small =
    (λ h. signed_spelled bytes z h, λ e. ap integer_of e ∙ signed_read z small)
