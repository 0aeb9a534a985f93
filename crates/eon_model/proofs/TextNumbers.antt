-- Numbers of a setup are spelled well, their spelling is in their range, and the units of its band are read back.
use Rattle.std.proofs.Common.{◌≡◌, sym, ◌∙◌, ap, ℕ, zero, suc, ◌<◌, ◌^◌, ℤ, pos, negsuc, true, false, cond, Some, ◌&&◌, not, List, ◌∷◌, arith}
use Rattle.std.specs.Prelude.{bytes_eq, codes}
use Rattle.std.specs.List.{list_all}
use Rattle.std.specs.Fmt.{decimal, signed_decimal}
use Rattle.std.proofs.lemmas.Fmt.{decimal_digit}
use Rattle.std.proofs.lemmas.Bool.{and_parts, and_from, or_right, not_from_false, false_from_ne_true}
use Rattle.std.proofs.lemmas.Slice.Eq.{bytes_eq-Decides}
use Rattle.eon_model.specs.Grid.{Units, is_units}
use Rattle.eon_model.specs.Numerals.{is_within, is_digit, is_number, number_value, is_signed}
use Rattle.eon_model.specs.NetworkFault.{least_unit, greatest_unit}
use Rattle.eon_model.proofs.SpellingLaws.{IsSmall, Spells, decimal-Spells, number_value-decimal, signed_value-signed_decimal, not_minus}
use Rattle.eon_model.proofs.NetworkTextLaws.{band_words}
use Rattle.eon_model.proofs.NetworkReadLaws.{within_small}
use Rattle.eon_model.proofs.CleanLines.{small_units}

pub some_is : {A : Type 0} (x y : A) → Some x ≡ Some y → x ≡ y
some_is x y e = cc

-- ---- numbers

pub positive_formed : (n : ℕ) (ds : List ℕ) → 0 < n → Spells n ds → is_number ds ≡ true
positive_formed n ds h s =
    let tail = (and_parts (is_digit s.first) (list_all is_digit s.rest) (sym (ap (list_all is_digit) s.is) ∙ s.digits)).1 in
    ap is_number s.is ∙ or_right (bytes_eq (s.first ∷ s.rest) (codes "0")) _ (and_from _ _ (s.lead h) tail)

pub decimal_formed : (n : ℕ) → n < 2 ^ 64 → is_number (decimal n) ≡ true
decimal_formed zero h = ap is_number (decimal_digit 0 (omega arith))
decimal_formed (suc n) h = positive_formed (suc n) (decimal (suc n)) (omega arith) (decimal-Spells (suc n) h)

-- a number in its range is spelled well, and the spelling is in the range
pub record Spelled (least most n : ℕ) : Type 0 where
  pub spelled : is_number (decimal n) ≡ true
  pub ranged : is_within least most (number_value (decimal n)) ≡ true

pub number-spelled : (least most n : ℕ) → most < 2 ^ 64 → is_within least most n ≡ true → Spelled least most n
number-spelled least most n l h =
    let small = within_small least most n h l in
    record {
      spelled = decimal_formed n small;
      ranged = ap (is_within least most) (number_value-decimal n small) ∙ h;
    }

-- ---- signed numbers

not_zero : (n : ℕ) → suc n < 2 ^ 64 → bytes_eq (decimal (suc n)) (codes "0") ≡ false
not_zero n l = false_from_ne_true (bytes_eq (decimal (suc n)) (codes "0")) λ e.
    let value : suc n ≡ 0 = sym (number_value-decimal (suc n) l)
    ∙ ap number_value ((bytes_eq-Decides (decimal (suc n)) (codes "0")).0 e) in
    absurd (omega arith)

-- a centre, or an end of the band
pub signed-spelled : (z : ℤ) → IsSmall z → is_signed (signed_decimal z) ≡ true
signed-spelled (pos n) l =
    let s = decimal-Spells n (omega arith) in
    let first = (and_parts (is_digit s.first) (list_all is_digit s.rest) (sym (ap (list_all is_digit) s.is) ∙ s.digits)).0 in
    ap is_signed s.is
    ∙ (λ i. cond (not_minus s.first first i) (is_number s.rest && not (bytes_eq s.rest (codes "0")))
    (is_number (s.first ∷ s.rest)))
    ∙ sym (ap is_number s.is) ∙ decimal_formed n (omega arith)
signed-spelled (negsuc n) l =
    and_from _ _ (decimal_formed (suc n) (omega arith)) (not_from_false _ (not_zero n (omega arith)))

-- ---- the units of a part

pub least-read : (part : Units) → is_units part ≡ true → least_unit (band_words part) ≡ part.lo
least-read part h = signed_value-signed_decimal part.lo (small_units part h).lo

pub greatest-read : (part : Units) → is_units part ≡ true → greatest_unit (band_words part) ≡ part.hi
greatest-read part h = signed_value-signed_decimal part.hi (small_units part h).hi
