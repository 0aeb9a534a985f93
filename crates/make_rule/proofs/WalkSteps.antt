-- A walk over whole numbers, upwards, for the first that passes a test.
use Rattle.std.specs.Prelude.{nat_abs}
use Rattle.std.proofs.Common.{◌≡◌, ◌∙◌, ap, ℕ, suc, ◌+◌, ◌-◌, ◌<◌, ◌≤◌, ℤ, pos, ◌+ℤ◌, ◌-ℤ◌, ◌≤ℤ◌, Bool, true, false, cond, find, Option, Some, None, arith}
use Rattle.std.proofs.lemmas.Int.{ints}
use Rattle.eon_model.specs.Lists.{integers_from}

module _ (test : ℤ → Bool) (a : ℤ) (n : ℕ) where
  -- the first of the numbers from this place on
  abbrev pub from_place : ℕ → Option ℤ
  from_place i = find test (integers_from (a +ℤ pos i) (n - i))

  one_more : (b : ℤ) (k m : ℕ) → k ≡ suc m → find test (integers_from b k)
      ≡ cond (test b) (Some b) (find test (integers_from (b +ℤ pos 1) m))
  one_more b k m e = ap (λ (j : ℕ). find test (integers_from b j)) e

  unroll : (i : ℕ) → i < n → find test (integers_from (a +ℤ pos i) (n - i))
      ≡ cond (test (a +ℤ pos i)) (Some (a +ℤ pos i)) (find test (integers_from (a +ℤ pos (i + 1)) (n - (i + 1))))
  unroll i h =
      let left : n - i ≡ suc (n - (i + 1)) = omega arith in
      let next : ((a +ℤ pos i) +ℤ pos 1) ≡ (a +ℤ pos (i + 1)) = omega (arith, ints) in
      one_more (a +ℤ pos i) (n - i) (n - (i + 1)) left
      ∙ ap (λ (b : ℤ). cond (test (a +ℤ pos i)) (Some (a +ℤ pos i)) (find test (integers_from b (n - (i + 1))))) next

  pub walk_here : (i : ℕ) → i < n → test (a +ℤ pos i) ≡ true →
      find test (integers_from (a +ℤ pos i) (n - i)) ≡ Some (a +ℤ pos i)
  walk_here i h t = unroll i h
      ∙ ap (λ b. cond b (Some (a +ℤ pos i)) (find test (integers_from (a +ℤ pos (i + 1)) (n - (i + 1))))) t

  pub walk_past : (i : ℕ) → i < n → test (a +ℤ pos i) ≡ false →
      find test (integers_from (a +ℤ pos i) (n - i)) ≡ find test (integers_from (a +ℤ pos (i + 1)) (n - (i + 1)))
  walk_past i h t = unroll i h
      ∙ ap (λ b. cond b (Some (a +ℤ pos i)) (find test (integers_from (a +ℤ pos (i + 1)) (n - (i + 1))))) t

  pub walk_end : (i : ℕ) → n ≤ i → find test (integers_from (a +ℤ pos i) (n - i)) ≡ None
  walk_end i h =
      let left : n - i ≡ 0 = omega arith in ap (λ (j : ℕ). find test (integers_from (a +ℤ pos i) j)) left

  pub walk_begin : find test (integers_from (a +ℤ pos 0) (n - 0)) ≡ find test (integers_from a n)
  walk_begin =
      let here : (a +ℤ pos 0) ≡ a = omega (arith, ints) in
      let all : n - 0 ≡ n = omega arith in
      λ i. find test (integers_from (here i) (all i))

-- a place below the number of units lies in the span
pub within : (lo hi : ℤ) (place : ℕ) → lo ≤ℤ hi → place < nat_abs ((hi -ℤ lo) +ℤ pos 1) → (lo +ℤ pos place) ≤ℤ hi
within lo hi place order h = omega (arith, ints)
