-- Lists around one of their elements, and the lines of one kind.
use Rattle.std.proofs.Common.{◌≡◌, refl, ◌∙◌, ap, ℕ, ◌+◌, ◌≤◌, Bool, true, false, cond, inl, inr, List, [], ◌∷◌, ◌++◌, length, map, filter, count_by, arith}
use Rattle.std.specs.List.{list_all, list_any}
use Rattle.std.proofs.lemmas.Bool.{and_parts, and_from, or_from}
use Rattle.std.proofs.lemmas.List.Elements.{filter-append}
use Rattle.std.proofs.lemmas.List.Sums.{sum_by-append}
use Rattle.eon_model.specs.Lists.{all_pairs}
use Rattle.eon_model.specs.NetworkFault.{Fields, has_word, lines_with}
use Rattle.eon_model.proofs.OrderLaws.{IsIn}

-- ---- around one element

module _ {X : Type 0} where
  pub all-at : (p : X → Bool) (before : List X) (x : X) (after : List X) →
      list_all p (before ++ x ∷ after) ≡ true → p x ≡ true
  all-at p [] x after h = (and_parts (p x) (list_all p after) h).0
  all-at p (y ∷ ys) x after h = all-at p ys x after (and_parts (p y) (list_all p (ys ++ x ∷ after)) h).1

  pub pairs-before : (R : X → X → Bool) (before : List X) (x : X) (after : List X) →
      all_pairs R (before ++ x ∷ after) ≡ true → list_all (λ y. R y x) before ≡ true
  pairs-before R [] x after h = refl
  pairs-before R (y ∷ ys) x after h =
      let p = and_parts (list_all (R y) (ys ++ x ∷ after)) (all_pairs R (ys ++ x ∷ after)) h in
      and_from (R y x) (list_all (λ z. R z x) ys) (all-at (R y) ys x after p.0) (pairs-before R ys x after p.1)

  pub in-after : (before : List X) (x : X) (after : List X) → IsIn x (before ++ x ∷ after)
  in-after [] x after = inl refl
  in-after (y ∷ ys) x after = inr (in-after ys x after)

  pub shorter : (before : List X) (x : X) (after : List X) → length before + 1 ≤ length (before ++ x ∷ after)
  shorter [] x after = omega arith
  shorter (y ∷ ys) x after = let more = shorter ys x after in omega arith

  pub count-cons : (p : X → Bool) (x : X) (xs : List X) → count_by p (x ∷ xs) ≡ cond (p x) 1 0 + count_by p xs
  count-cons p x xs = let e = sum_by-append (λ y. cond (p y) 1 0) (x ∷ []) xs in omega arith

  -- an element that passes counts
  pub count-before : (p : X → Bool) (before : List X) (x : X) (after : List X) → p x ≡ true →
      count_by p before + 1 ≤ count_by p (before ++ x ∷ after)
  count-before p before x after h =
      let both = sum_by-append (λ y. cond (p y) 1 0) before (x ∷ after) in
      let step = count-cons p x after in
      let one : cond {A = ℕ} (p x) 1 0 ≡ 1 = ap (λ (b : Bool). cond {A = ℕ} b 1 0) h in
      omega arith

module _ {X Y : Type 0} where
  pub none-any : (p : Y → Bool) (f : X → Y) (xs : List X) → ((x : X) → IsIn x xs → p (f x) ≡ false) →
      list_any p (map f xs) ≡ false
  none-any p f [] h = refl
  none-any p f (x ∷ xs) h =
      or_from (p (f x)) (list_any p (map f xs)) (h x (inl refl)) (none-any p f xs (λ y i. h y (inr i)))

-- ---- the lines of one kind

module _ {X : Type 0} (word : List ℕ) (words : X → Fields) where
  pub all-with : ((x : X) → has_word word (words x) ≡ true) → (xs : List X) →
      lines_with (map words xs) word ≡ map words xs
  all-with h [] = refl
  all-with h (x ∷ xs) = (λ i. cond (h x i) (words x ∷ filter (has_word word) (map words xs))
      (filter (has_word word) (map words xs))) ∙ ap (λ v. words x ∷ v) (all-with h xs)

  pub none-with : ((x : X) → has_word word (words x) ≡ false) → (xs : List X) →
      lines_with (map words xs) word ≡ []
  none-with h [] = refl
  none-with h (x ∷ xs) = (λ i. cond (h x i) (words x ∷ filter (has_word word) (map words xs))
      (filter (has_word word) (map words xs))) ∙ none-with h xs

module _ (word : List ℕ) (a b : List Fields) where
  pub with-both : (x y : List Fields) → lines_with a word ≡ x → lines_with b word ≡ y →
      lines_with (a ++ b) word ≡ x ++ y
  with-both x y e f = filter-append (has_word word) a b ∙ (λ i. e i ++ f i)

  pub with-neither : lines_with a word ≡ [] → lines_with b word ≡ [] → lines_with (a ++ b) word ≡ []
  with-neither e f = with-both [] [] e f

  pub with-right : (y : List Fields) → lines_with a word ≡ [] → lines_with b word ≡ y →
      lines_with (a ++ b) word ≡ y
  with-right y e f = with-both [] y e f
