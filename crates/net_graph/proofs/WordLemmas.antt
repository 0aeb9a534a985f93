-- Bits of words as members of sets.
use Rattle.std.proofs.Common.{◌≡◌, refl, sym, ◌∙◌, ap, inl, inr, ℕ, zero, suc, ◌+◌, ◌*◌, ◌/◌, ◌%◌, ◌^◌, ◌<◌, ◌≤◌, nat_eq, ◌==◌, Bool, true, false, ◌&&◌, ◌||◌, not, List, [], ◌∷◌, ◌++◌, length, filter, get_or, arith, get_or-set_other, get_or-set_same, length-set, min, max, bit_and, bit_or}
use Rattle.std.specs.Int.{bit_at, w64, trailing_zeros}
use Rattle.std.specs.List.{list_any, range_with_len}
use Rattle.std.specs.Ordering.{nat_cmp, eq_by_cmp}
use Rattle.std.specs.Cmp.{unsigned_tied, nat_cmp_total, eq_by_cmp_equiv}
use Rattle.std.specs.FinSet.{contains, items, insert, contains-items, contains-insert, contains-from_list_nat, contains-union, union, from_list, same_set, nat_cmp-IsAntisymmetric}
use Rattle.std.proofs.lemmas.List.{get_or_past}
use Rattle.std.proofs.lemmas.Bool.{cases_lt, cases_eq, and_left, eqb-true, eq-eqb, ne_eqb, or_cases, or_from, or_left, or_right, not-true, eqb-false, false≢true}
use Rattle.std.proofs.lemmas.List.Folds.{list_any-append}
use Rattle.std.proofs.lemmas.Map.Views.{any-filter_same}
use Rattle.std.proofs.lemmas.Nat.{and_le_l}
use Rattle.std.proofs.lemmas.Nat.Bits.{bit_at-zero, bit_at-lt, bit_at_or, bit_at_and, bit_at-pow_same, bit_at-pow_other, bit_at-trailing_zeros}
use Rattle.eon_model.specs.Sets.{meets}
use Rattle.eon_model.proofs.ListLaws.{in_range}
use Rattle.eon_model.proofs.Members.{any-member, any-by}
use Rattle.eon_model.proofs.SetLaws.{common-meets}
use Rattle.eon_model.proofs.SetLists.{same_test}
use Rattle.net_graph.specs.Words.{has_bit, with_bit, words_meet, bits_in}

-- two tests that imply one another
abbrev pub same_bool : (a b : Bool) → (a ≡ true → b ≡ true) → (b ≡ true → a ≡ true) → a ≡ b
same_bool = same_test

-- beyond the words no bit is 1
pub has_bit-outside : (words : List ℕ) (q : ℕ) → 64 * length words ≤ q → has_bit words q ≡ false
has_bit-outside words q far =
    let past : length words ≤ q / 64 = omega arith in
    ap (λ w. bit_at w (q % 64) == 1) (get_or_past words (q / 64) 0 past)
    ∙ ap (λ b. b == 1) (bit_at-zero (q % 64))

and-true : (b : Bool) → (b && true) ≡ b
and-true true = refl
and-true false = refl

-- the set has the numbers whose bit is 1
pub contains-bits : (n : ℕ) (words : List ℕ) (q : ℕ) → n ≡ 64 * length words →
    contains (bits_in n words) q ≡ has_bit words q
contains-bits n words q size =
    contains-from_list_nat (filter (has_bit words) (range_with_len 0 n)) q
    ∙ any-filter_same (λ y. nat_eq y q) (has_bit words) (has_bit words q)
    (λ k t. ap (has_bit words) (eqb-true k q t)) (range_with_len 0 n)
    ∙ elim (cases_lt q n) [
      | inl near ↦
          ap (λ b. has_bit words q && b)
          (any-by (λ y. nat_eq y q) (range_with_len 0 n) q (in_range 0 n q (omega arith) (omega arith))
          (eq-eqb q q refl))
          ∙ and-true (has_bit words q)
      | inr far ↦
          let out : has_bit words q ≡ false = has_bit-outside words q (omega arith) in
          and_left (has_bit words q) (list_any (λ y. nat_eq y q) (range_with_len 0 n)) out ∙ sym out
    ]

-- ---- one more bit

other_word : (words : List ℕ) (i q : ℕ) → (q / 64 ≡ i / 64 → ⊥) →
    has_bit (with_bit words i) q ≡ (nat_eq q i || has_bit words q)
other_word words i q apart =
    ap (λ w. bit_at w (q % 64) == 1)
    (get_or-set_other words (i / 64) (q / 64) (bit_or (get_or words (i / 64) 0) (2 ^ (i % 64))) 0 apart)
    ∙ ap (λ b. b || has_bit words q) (sym (ne_eqb q i (λ e. apart (ap (λ n. n / 64) e))))

same_bit : (w k : ℕ) → (bit_at (bit_or w (2 ^ k)) k == 1) ≡ true
same_bit w k =
    eq-eqb _ _ (bit_at_or w (2 ^ k) k
    ∙ (let one : bit_at (2 ^ k) k ≡ 1 = bit_at-pow_same k in
    let low : bit_at w k < 2 = bit_at-lt w k in
    let e : max (bit_at w k) (bit_at (2 ^ k) k) ≡ 1 = omega arith in e))

other_bit : (w k r : ℕ) → (r ≡ k → ⊥) → bit_at (bit_or w (2 ^ k)) r ≡ bit_at w r
other_bit w k r apart =
    bit_at_or w (2 ^ k) r
    ∙ (let none : bit_at (2 ^ k) r ≡ 0 = bit_at-pow_other k r apart in
    let e : max (bit_at w r) (bit_at (2 ^ k) r) ≡ bit_at w r = omega arith in e)

same_word : (words : List ℕ) (i q : ℕ) → i / 64 < length words → q / 64 ≡ i / 64 →
    bit_at (get_or (with_bit words i) (q / 64) 0) (q % 64)
    ≡ bit_at (bit_or (get_or words (q / 64) 0) (2 ^ (i % 64))) (q % 64)
same_word words i q within same =
    ap (λ j. bit_at (get_or (with_bit words i) j 0) (q % 64)) same
    ∙ ap (λ w. bit_at w (q % 64))
    (get_or-set_same words (i / 64) (bit_or (get_or words (i / 64) 0) (2 ^ (i % 64))) 0 within)
    ∙ ap (λ j. bit_at (bit_or (get_or words j 0) (2 ^ (i % 64))) (q % 64)) (sym same)

pub has_bit-with_bit : (words : List ℕ) (i q : ℕ) → i / 64 < length words →
    has_bit (with_bit words i) q ≡ (nat_eq q i || has_bit words q)
has_bit-with_bit words i q within =
    elim (cases_eq (q / 64) (i / 64)) [
      | inr apart ↦ other_word words i q apart
      | inl same ↦
          ap (λ b. b == 1) (same_word words i q within same)
          ∙ elim (cases_eq q i) [
            | inl e ↦
                ap (λ r. bit_at (bit_or (get_or words (q / 64) 0) (2 ^ (i % 64))) r == 1)
                (ap (λ n. n % 64) e)
                ∙ same_bit (get_or words (q / 64) 0) (i % 64)
                ∙ sym (or_left (nat_eq q i) (has_bit words q) (eq-eqb q i e))
            | inr apart ↦
                let rest : q % 64 ≡ i % 64 → ⊥ = λ r. apart (omega arith) in
                ap (λ b. b == 1) (other_bit (get_or words (q / 64) 0) (i % 64) (q % 64) rest)
                ∙ ap (λ b. b || has_bit words q) (sym (ne_eqb q i apart))
          ]
    ]

-- a bit more is a member more
pub bits_in-with_bit : (n : ℕ) (words : List ℕ) (i : ℕ) → n ≡ 64 * length words → i < n →
    bits_in n (with_bit words i) ≡ insert (bits_in n words) i
bits_in-with_bit n words i size within =
    let grown : length (with_bit words i) ≡ length words = length-set words (i / 64) _ in
    same_set nat_cmp_total nat_cmp-IsAntisymmetric _ _ (λ q.
    contains-bits n (with_bit words i) q (omega arith)
    ∙ has_bit-with_bit words i q (omega arith)
    ∙ sym (contains-insert nat_cmp_total (bits_in n words) i q
    ∙ (λ k. unsigned_tied q i k || contains-bits n words q size k)))

-- ---- common bits

meet-at : (a b : List ℕ) (j : ℕ) → j < length a → j < length b →
    (bit_and (get_or a j 0) (get_or b j 0) ≡ 0 → ⊥) → words_meet a b ≡ true
meet-at [] b j la lb some = absurd (omega arith)
meet-at (x ∷ a) [] j la lb some = absurd (omega arith)
meet-at (x ∷ a) (y ∷ b) zero la lb some =
    or_left _ (words_meet a b) (ap not (ne_eqb (bit_and x y) 0 some))
meet-at (x ∷ a) (y ∷ b) (suc j) la lb some =
    or_right (not (nat_eq (bit_and x y) 0)) _ (meet-at a b j (omega arith) (omega arith) some)

meet-found : (a b : List ℕ) → words_meet a b ≡ true →
    (j : ℕ) × ((j < length a) × (bit_and (get_or a j 0) (get_or b j 0) ≡ 0 → ⊥))
meet-found [] b h = absurd (false≢true h)
meet-found (x ∷ a) [] h = absurd (false≢true h)
meet-found (x ∷ a) (y ∷ b) h =
    elim (or_cases (not (nat_eq (bit_and x y) 0)) (words_meet a b) h) [
      | inl here ↦ (0, (omega arith, eqb-false (bit_and x y) 0 (not-true _ here)))
      | inr later ↦
          let rest = meet-found a b later in
          (suc rest.0, (omega (arith, rest.1.0), rest.1.1))
    ]

bit_of_both : (x y r : ℕ) → bit_at x r ≡ 1 → bit_at y r ≡ 1 → bit_and x y ≡ 0 → ⊥
bit_of_both x y r in_x in_y none =
    let both : bit_at (bit_and x y) r ≡ min (bit_at x r) (bit_at y r) = bit_at_and x y r in
    let zeros : bit_at (bit_and x y) r ≡ 0 = ap (λ w. bit_at w r) none ∙ bit_at-zero r in
    omega arith

-- a member of both sets is a bit of a common word
words_meet-at : (a b : List ℕ) (g : ℕ) → has_bit a g ≡ true → has_bit b g ≡ true → words_meet a b ≡ true
words_meet-at a b g in_a in_b =
    elim (cases_lt (g / 64) (length a)) [
      | inr far ↦ absurd (false≢true (sym (has_bit-outside a g (omega arith)) ∙ in_a))
      | inl near_a ↦ elim (cases_lt (g / 64) (length b)) [
        | inr far ↦ absurd (false≢true (sym (has_bit-outside b g (omega arith)) ∙ in_b))
        | inl near_b ↦
            meet-at a b (g / 64) near_a near_b
            (bit_of_both (get_or a (g / 64) 0) (get_or b (g / 64) 0) (g % 64) (eqb-true _ 1 in_a)
            (eqb-true _ 1 in_b))
      ]
    ]

-- a bit that both words have
common_bit : (x y : ℕ) → x < 2 ^ 64 → (bit_and x y ≡ 0 → ⊥) →
    (r : ℕ) × ((r < 64) × ((bit_at x r ≡ 1) × (bit_at y r ≡ 1)))
common_bit x y small some =
    let below : bit_and x y ≤ x = and_le_l x y in
    let low = bit_at-trailing_zeros w64 (bit_and x y) (omega arith) (omega arith) in
    let r = trailing_zeros w64 (bit_and x y) in
    let one : bit_at (bit_and x y) r ≡ 1 = low.1 in
    let both : bit_at (bit_and x y) r ≡ min (bit_at x r) (bit_at y r) = bit_at_and x y r in
    let lx : bit_at x r < 2 = bit_at-lt x r in
    let ly : bit_at y r < 2 = bit_at-lt y r in
    (r, (low.0, (omega arith, omega arith)))

bit_at_place : (words : List ℕ) (j r : ℕ) → r < 64 → bit_at (get_or words j 0) r ≡ 1 →
    has_bit words (64 * j + r) ≡ true
bit_at_place words j r small one =
    let word : (64 * j + r) / 64 ≡ j = omega arith in
    let rest : (64 * j + r) % 64 ≡ r = omega arith in
    (λ k. bit_at (get_or words (word k) 0) (rest k) == 1) ∙ eq-eqb _ 1 one

-- sets meet where their words do
pub meets-bits : (n : ℕ) (a b : List ℕ) → n ≡ 64 * length a → n ≡ 64 * length b →
    ((j : ℕ) → get_or a j 0 < 2 ^ 64) → meets (bits_in n a) (bits_in n b) ≡ words_meet a b
meets-bits n a b size_a size_b fits =
    same_test _ _
    (λ h.
    let found = any-member (contains (bits_in n b)) (items (bits_in n a)) h in
    let g = found.0 in
    let in_a = contains-items (bits_in n a) g
    ∙ any-by (eq_by_cmp nat_cmp g) (items (bits_in n a)) g found.1.0
    ((eq_by_cmp_equiv nat_cmp_total).refl g) in
    words_meet-at a b g (sym (contains-bits n a g size_a) ∙ in_a)
    (sym (contains-bits n b g size_b) ∙ found.1.1))
    (λ h.
    let at = meet-found a b h in
    let bit = common_bit (get_or a at.0 0) (get_or b at.0 0) (fits at.0) at.1.1 in
    let g = 64 * at.0 + bit.0 in
    common-meets (bits_in n a) (bits_in n b) g
    (contains-bits n a g size_a ∙ bit_at_place a at.0 bit.0 bit.1.0 bit.1.1.0)
    (contains-bits n b g size_b ∙ bit_at_place b at.0 bit.0 bit.1.0 bit.1.1.1))

-- ---- both sets together

bit_of_either : (x y : ℕ) → x < 2 → y < 2 → (max x y == 1) ≡ ((x == 1) || (y == 1))
bit_of_either x y lx ly =
    same_test _ _
    (λ h.
    let one : max x y ≡ 1 = eqb-true (max x y) 1 h in
    elim (cases_eq x 1) [
      | inl e ↦ or_left (x == 1) (y == 1) (eq-eqb x 1 e)
      | inr apart ↦
          let low : x ≡ 0 = omega arith in
          let e : y ≡ 1 = omega arith in
          or_right (x == 1) (y == 1) (eq-eqb y 1 e)
    ])
    (λ h. elim (or_cases (x == 1) (y == 1) h) [
      | inl l ↦ let e = eqb-true x 1 l in eq-eqb (max x y) 1 (omega arith)
      | inr r ↦ let e = eqb-true y 1 r in eq-eqb (max x y) 1 (omega arith)
    ])

has_bit-joined : (a b w : List ℕ) (q : ℕ) → length b ≡ length a → length w ≡ length a →
    ((j : ℕ) → j < length a → get_or w j 0 ≡ bit_or (get_or a j 0) (get_or b j 0)) →
    has_bit w q ≡ (has_bit a q || has_bit b q)
has_bit-joined a b w q lb lw joined =
    elim (cases_lt (q / 64) (length a)) [
      | inl near ↦
          let x = get_or a (q / 64) 0 in
          let y = get_or b (q / 64) 0 in
          ap (λ v. bit_at v (q % 64) == 1) (joined (q / 64) near)
          ∙ ap (λ v. v == 1) (bit_at_or x y (q % 64))
          ∙ bit_of_either (bit_at x (q % 64)) (bit_at y (q % 64)) (bit_at-lt x (q % 64)) (bit_at-lt y (q % 64))
      | inr far ↦
          has_bit-outside w q (omega arith)
          ∙ sym (or_from (has_bit a q) (has_bit b q) (has_bit-outside a q (omega arith))
          (has_bit-outside b q (omega arith)))
    ]

-- words joined bit by bit are the union
pub bits_in-joined : (n : ℕ) (a b w : List ℕ) → n ≡ 64 * length a → length b ≡ length a →
    length w ≡ length a →
    ((j : ℕ) → j < length a → get_or w j 0 ≡ bit_or (get_or a j 0) (get_or b j 0)) →
    bits_in n w ≡ union (bits_in n a) (bits_in n b)
bits_in-joined n a b w size lb lw joined =
    same_set nat_cmp_total nat_cmp-IsAntisymmetric _ _ (λ q.
    contains-bits n w q (omega arith)
    ∙ has_bit-joined a b w q lb lw joined
    ∙ sym (contains-union nat_cmp_total (bits_in n a) (bits_in n b) q
    ∙ (λ k. contains-bits n a q size k || contains-bits n b q (omega arith) k)))

-- the sets of two lists together
pub union-lists : (xs ys : List ℕ) →
    union (from_list {R = nat_cmp} xs) (from_list ys) ≡ from_list (xs ++ ys)
union-lists xs ys =
    same_set nat_cmp_total nat_cmp-IsAntisymmetric _ _ (λ q.
    contains-union nat_cmp_total (from_list xs) (from_list ys) q
    ∙ (λ k. contains-from_list_nat xs q k || contains-from_list_nat ys q k)
    ∙ sym (contains-from_list_nat (xs ++ ys) q ∙ list_any-append (λ y. nat_eq y q) xs ys))
