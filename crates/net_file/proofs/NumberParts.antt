-- Lines of a word and a number, and the line of the band.
use Rattle.std.proofs.Common.{◌≡◌, refl, sym, ◌∙◌, ap, ℕ, ◌-◌, ◌<◌, ◌≤◌, ◌^◌, Bool, true, false, cond, ◌&&◌, List, [], ◌∷◌, length, Some, None, arith}
use Rattle.std.specs.Prelude.{nat_le, nat_lt, option_and_then}
use Rattle.std.specs.Bool.{then_some}
use Rattle.std.specs.Fmt.{decimal}
use Rattle.std.proofs.lemmas.Bool.{and_parts, leb-true, lt-leb, ltb-false, lt-ltb}
use Rattle.eon_model.specs.Numerals.{is_within, is_number, number_value}
use Rattle.eon_model.specs.NetworkFault.{Word, Fields, ANumber, fields_after, units_in_range}
use Rattle.eon_base.specs.Numbers.{number_of}
use Rattle.eon_base.proofs.OneSpellingLaws.{one_spelling}
use Rattle.net_file.specs.LineWords.{capped, one_number}
use Rattle.net_file.proofs.FrontParts.{form_of, ranges_of, and_more, through, ReadsAs}
use Rattle.eon_model.proofs.TextNumbers.{some_is}

-- ---- a capped number

abbrev pub cap : ℕ → ℕ
cap v = cond (nat_lt v (2 ^ 64)) v (2 ^ 64 - 1)

cap_range : (least most v : ℕ) (b : Bool) → most < 2 ^ 64 - 1 → nat_lt v (2 ^ 64) ≡ b →
    is_within least most v ≡ is_within least most (cond b v (2 ^ 64 - 1))
cap_range least most v true small e = refl
cap_range least most v false small e =
    let big : most < v = let k = false_is v e in omega arith in
    let one = lt-leb v most big in
    let two = lt-leb (2 ^ 64 - 1) most small in
    (λ i. nat_le least v && one i) ∙ none (nat_le least v) ∙ sym (none (nat_le least (2 ^ 64 - 1)))
    ∙ sym (λ i. nat_le least (2 ^ 64 - 1) && two i)
  where
    none : (b : Bool) → (b && false) ≡ false
    none true = refl
    none false = refl

    false_is : (v : ℕ) → nat_lt v (2 ^ 64) ≡ false → 2 ^ 64 ≤ v
    false_is v e = ltb-false v (2 ^ 64) e

-- whether the number is in a range, of the number and of the capped one
pub capped_range : (least most v : ℕ) → most < 2 ^ 64 - 1 →
    is_within least most v ≡ is_within least most (cap v)
capped_range least most v small = cap_range least most v (nat_lt v (2 ^ 64)) small refl

-- a capped number in range is the number, and its bytes are the number's spelling
pub capped_spelled : (least most : ℕ) (bytes : List ℕ) → most < 2 ^ 64 - 1 → is_number bytes ≡ true →
    is_within least most (cap (number_value bytes)) ≡ true → bytes ≡ decimal (cap (number_value bytes))
capped_spelled least most bytes small formed within =
    let v = number_value bytes in
    let low : is_within least most v ≡ true = capped_range least most v small ∙ within in
    let le = leb-true v most (and_parts (nat_le least v) (nat_le v most) low).1 in
    let lt : v < 2 ^ 64 = omega arith in
    let here = lt-ltb v (2 ^ 64) lt in
    let read : number_of bytes ≡ Some v = (λ i. cond (formed i && here i) (Some v) None) in
    (one_spelling v bytes lt).0 read ∙ ap decimal (sym (λ i. cond (here i) v (2 ^ 64 - 1)))

-- ---- a word and a number

abbrev pub one : ℕ → Fields
one n = decimal n ∷ []

module _ (w : Word) (least most : ℕ) (after : (n : ℕ) → fields_after w n ≡ ANumber least most ∷ [])
    (free : (earlier : List Fields) (fields : Fields) → units_in_range earlier w fields ≡ true) (small : most < 2 ^ 64 - 1) where
  and_true : (b : Bool) → ((b && true) && true) ≡ b
  and_true true = refl
  and_true false = refl

  value_of : (x : List ℕ) (n : ℕ) → option_and_then (λ n. then_some true n) (capped x) ≡ Some n →
      (is_number x ≡ true) × (cap (number_value x) ≡ n)
  value_of x n e =
      let p = through (is_number x) (cap (number_value x)) (λ n. then_some true n) n e in
      (p.0, some_is (cap (number_value x)) n p.1)

  pub number_reads : (earlier : List Fields) (word : List ℕ) (rest : Fields) →
      ReadsAs earlier w word rest (one_number rest) (is_within least most) one
  unfolding one_number
  number_reads earlier word [] = record {
    form = form_of w (ANumber least most ∷ []) word [] (after 0);
    ranges = λ a e. cc;
    spelled = λ a e t. cc;
  }
  number_reads earlier word (x ∷ []) = record {
    form = form_of w (ANumber least most ∷ []) word (x ∷ []) (after 1)
        ∙ and_more (is_number x) (cap (number_value x)) (λ n. then_some true n) true refl;
    ranges = λ a e. let v = value_of x a e in
        ranges_of earlier w (ANumber least most ∷ []) word (x ∷ []) (after 1)
        ∙ (λ i. (is_within least most (number_value x) && true) && free earlier (word ∷ x ∷ []) i)
        ∙ and_true (is_within least most (number_value x))
        ∙ capped_range least most (number_value x) small ∙ ap (is_within least most) v.1;
    spelled = λ a e t. let v = value_of x a e in
        ap (λ (b : List ℕ). b ∷ []) (capped_spelled least most x small v.0 (ap (is_within least most) v.1 ∙ t)
        ∙ ap decimal v.1);
  }
  number_reads earlier word (x ∷ y ∷ rest) = record {
    form = form_of w (ANumber least most ∷ []) word (x ∷ y ∷ rest) (after (length (x ∷ y ∷ rest)))
        ∙ and_more (is_number x) (cap (number_value x)) (λ n. then_some false n) false refl;
    ranges = λ a e. let p = through (is_number x) (cap (number_value x)) (λ n. then_some false n) a e in cc;
    spelled = λ a e t. let p = through (is_number x) (cap (number_value x)) (λ n. then_some false n) a e in cc;
  }
