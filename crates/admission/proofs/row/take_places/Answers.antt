use Rattle.std.proofs.Common.{◌≡◌, refl, sym, ◌∙◌, ℕ, ◌+◌, ◌-◌, ◌<◌, ◌≤◌, arith, rules, inl, inr, Bool, true, false, ◌&&◌, ◌||◌, leb, ltb, List, ◌++◌, length, get_or, take, drop}
use Rattle.std.proofs.lemmas.Bool.{cases_lt, and_from, and_left, and_right, or_right, le-leb, lt-leb, lt-ltb, le-ltb}
use Rattle.std.proofs.lemmas.List.{places}
use Rattle.std.proofs.lemmas.List.Edits.{length-between}
use Rattle.admission.proofs.row.take_places.Goals as goal

-- the list with this in place of k of its elements from the place a on
abbrev with_part : ℕ → ℕ → List Bool → List Bool → List Bool
with_part a k xs ys = take a xs ++ (ys ++ drop k (drop a xs))

or_false : (a b : Bool) → b ≡ false → a ≡ (a || b)
or_false true b e = refl
or_false false b e = sym e

module _ (xs ys : List Bool) (a k i : ℕ) where
  below : i < a → a ≤ length xs → get_or (with_part a k xs ys) i false ≡ get_or xs i false
  below h w = search (rules, places)

  inside : a ≤ i → i < a + length ys → a ≤ length xs → get_or (with_part a k xs ys) i false ≡ get_or ys (i - a) false
  inside h l w = search (rules, places)

  above : a + k ≤ i → length ys ≡ k → a ≤ length xs → get_or (with_part a k xs ys) i false ≡ get_or xs i false
  above h l w = search (rules, places)

marked : (xs ys : List Bool) (a e i : ℕ) → a ≤ e → e ≤ length xs → length ys ≡ e - a →
    ((k : ℕ) → k < e - a → get_or ys k false ≡ true) →
    get_or (with_part a (e - a) xs ys) i false ≡ (get_or xs i false || (leb a i && ltb i e))
marked xs ys a e i order within long all =
    elim (cases_lt i a) [
      | inl less ↦ below xs ys a (e - a) i less (omega arith) ∙ or_false _ _ (and_left _ _ (lt-leb a i less))
      | inr least ↦ elim (cases_lt i e) [
        | inl most ↦ inside xs ys a (e - a) i least (omega arith) (omega arith) ∙ all (i - a) (omega arith)
            ∙ sym (or_right (get_or xs i false) _ (and_from _ _ (le-leb a i least) (lt-ltb i e most)))
        | inr more ↦ above xs ys a (e - a) i (omega arith) long (omega arith)
            ∙ or_false _ _ (and_right _ _ (le-ltb i e more))
      ]
    ]

pub returns : goal.returns
returns c i h =
    let long = length-between c.args.taken.now c.args.first c.args.end c.requires.within in
    marked c.args.taken.now c.fill.new.self c.args.first c.args.end i c.requires.order c.requires.within
    (c.fill.ensures.len ∙ long) (λ k l. c.fill.ensures.clones k false (omega arith) refl)
