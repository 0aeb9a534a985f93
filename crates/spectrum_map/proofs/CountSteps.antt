-- Counts that change place by place, and the bits of the places that are counted.
use Rattle.std.proofs.Common.{◌≡◌, refl, sym, ◌∙◌, ap, subst, ℕ, ◌+◌, ◌-◌, ◌<◌, ◌≤◌, arith, inl, inr, Bool, true, false, cond, ◌&&◌, ◌||◌, not, nat_eq, List, length, get_or, set}
use Rattle.std.proofs.lemmas.Bool.{cases_lt, cases_eq, false_from_ne_true, eqb-true}
use Rattle.std.proofs.lemmas.List.{get_or-set_same, get_or-set_other}
use Rattle.eon_model.proofs.SetLists.{same_test}
use Rattle.spectrum_map.specs.Bits.{is_between}
use Rattle.spectrum_map.proofs.BitLaws.{between-facts, facts-between, not_between}

-- the range of one place
pub at_place : (i : ℕ) → is_between i (i + 1) i ≡ true
at_place i = facts-between i (i + 1) i (omega arith) (omega arith)

pub elsewhere : (i k : ℕ) → (k ≡ i → ⊥) → is_between i (i + 1) k ≡ false
elsewhere i k other = not_between i (i + 1) k (λ p q. other (omega (arith, p, q)))

pub set_change : (change : ℕ → ℕ) (xs : List ℕ) (i k : ℕ) → i < length xs →
    get_or (set xs i (change (get_or xs i 0))) k 0 ≡ cond (is_between i (i + 1) k) (change (get_or xs k 0)) (get_or xs k 0)
set_change change xs i k l = elim (cases_eq k i) [
  | inl here ↦ subst (λ (n : ℕ). get_or (set xs i (change (get_or xs i 0))) n 0
      ≡ cond (is_between i (i + 1) n) (change (get_or xs n 0)) (get_or xs n 0)) (sym here)
      (get_or-set_same xs i (change (get_or xs i 0)) 0 l
      ∙ ap (λ b. cond b (change (get_or xs i 0)) (get_or xs i 0)) (sym (at_place i)))
  | inr other ↦ get_or-set_other xs i k (change (get_or xs i 0)) 0 other
      ∙ ap (λ b. cond b (change (get_or xs k 0)) (get_or xs k 0)) (sym (elsewhere i k other))
]

-- the places of the range before this one were changed once
abbrev pub Changed : (ℕ → ℕ) → (ℕ → ℕ) → (ℕ → ℕ) → ℕ → ℕ → Type 0
Changed change before now first i = (k : ℕ) → now k ≡ cond (is_between first i k) (change (before k)) (before k)

pub changed_none : (change before : ℕ → ℕ) (first : ℕ) → Changed change before before first first
changed_none change before first k =
    ap (λ b. cond b (change (before k)) (before k)) (sym (not_between first first k (λ p q. absurd (omega (arith, p, q)))))

module _ (change before now : ℕ → ℕ) (first i : ℕ) (from : first ≤ i) (s : Changed change before now first i) where
  pub unchanged_here : now i ≡ before i
  unchanged_here = s i
      ∙ ap (λ b. cond b (change (before i)) (before i)) (not_between first i i (λ p q. absurd (omega (arith, q))))

  pub changed_more : (new : ℕ → ℕ) →
      ((k : ℕ) → new k ≡ cond (is_between i (i + 1) k) (change (now k)) (now k)) →
      Changed change before new first (i + 1)
  changed_more new e k = elim (cases_eq k i) [
    | inl here ↦ subst (λ (n : ℕ). new n ≡ cond (is_between first (i + 1) n) (change (before n)) (before n)) (sym here)
        (e i ∙ (λ j. cond (at_place i j) (change (unchanged_here j)) (now i))
        ∙ ap (λ b. cond b (change (before i)) (before i))
        (sym (facts-between first (i + 1) i from (omega arith))))
    | inr other ↦ e k ∙ ap (λ b. cond b (change (now k)) (now k)) (elsewhere i k other) ∙ s k
        ∙ ap (λ b. cond b (change (before k)) (before k)) (same_test _ _
        (λ h. let p = between-facts first i k h in let q = p.1 in
        facts-between first (i + 1) k p.0 (omega (arith, q)))
        (λ h. let p = between-facts first (i + 1) k h in
        facts-between first i k p.0 (below k p.1 other)))
  ]
    where
      below : (k : ℕ) → k < i + 1 → (k ≡ i → ⊥) → k < i
      below k h other = elim (cases_lt k i) [
        | inl less ↦ less
        | inr more ↦ absurd (other (omega (arith, h, more)))
      ]

-- ---- bits

-- whether a count is not 0
abbrev pub is_some_count : ℕ → Bool
is_some_count n = not (nat_eq n 0)

pub more_is_some : (n : ℕ) → is_some_count (n + 1) ≡ true
more_is_some n = ap not (false_from_ne_true (nat_eq (n + 1) 0) (λ h. absurd (not_zero n (eqb-true (n + 1) 0 h))))
  where
    not_zero : (n : ℕ) → n + 1 ≡ 0 → ⊥
    not_zero n e = absurd (omega (arith, e))

some_count : (n : ℕ) → 1 ≤ n → is_some_count n ≡ true
some_count n h = ap not (false_from_ne_true (nat_eq n 0) (λ k. not_zero (eqb-true n 0 k)))
  where
    not_zero : n ≡ 0 → ⊥
    not_zero e = absurd (omega (arith, e, h))

-- raised where the test passes
pub held_more : (h : ℕ → Bool) (c new : ℕ → ℕ) (test : ℕ → Bool) → ((k : ℕ) → h k ≡ is_some_count (c k)) →
    ((k : ℕ) → new k ≡ cond (test k) (c k + 1) (c k)) → (k : ℕ) → (h k || test k) ≡ is_some_count (new k)
held_more h c new test are e k = by (test k) ∙ ap is_some_count (sym (e k))
  where
    always : (a : Bool) → (a || true) ≡ true
    always true = refl
    always false = refl

    same : (a : Bool) → (a || false) ≡ a
    same true = refl
    same false = refl

    by : (b : Bool) → (h k || b) ≡ is_some_count (cond b (c k + 1) (c k))
    by true = always (h k) ∙ sym (more_is_some (c k))
    by false = same (h k) ∙ are k

-- lowered at one place
module _ (h : ℕ → Bool) (c new : ℕ → ℕ) (i : ℕ) (some : 1 ≤ c i) (are : (k : ℕ) → h k ≡ is_some_count (c k))
    (e : (k : ℕ) → new k ≡ cond (is_between i (i + 1) k) (c k - 1) (c k)) where
  pub held_less : new i ≡ 0 → (k : ℕ) → (h k && not (is_between i (i + 1) k)) ≡ is_some_count (new k)
  held_less none k = elim (cases_eq k i) [
    | inl here ↦ subst (λ (n : ℕ). (h n && not (is_between i (i + 1) n)) ≡ is_some_count (new n)) (sym here)
        (ap (λ b. h i && not b) (at_place i) ∙ never (h i) ∙ ap is_some_count (sym none))
    | inr other ↦ ap (λ b. h k && not b) (elsewhere i k other) ∙ same (h k) ∙ are k
        ∙ ap is_some_count (sym (e k ∙ ap (λ b. cond b (c k - 1) (c k)) (elsewhere i k other)))
  ]
    where
      never : (a : Bool) → (a && false) ≡ false
      never true = refl
      never false = refl

      same : (a : Bool) → (a && true) ≡ a
      same true = refl
      same false = refl

  pub held_still : (new i ≡ 0 → ⊥) → (k : ℕ) → h k ≡ is_some_count (new k)
  held_still left k = elim (cases_eq k i) [
    | inl here ↦ subst (λ (n : ℕ). h n ≡ is_some_count (new n)) (sym here)
        (are i ∙ some_count (c i) some
        ∙ sym (ap not (false_from_ne_true (nat_eq (new i) 0) (λ h. left (eqb-true (new i) 0 h)))))
    | inr other ↦ are k
        ∙ ap is_some_count (sym (e k ∙ ap (λ b. cond b (c k - 1) (c k)) (elsewhere i k other)))
  ]
