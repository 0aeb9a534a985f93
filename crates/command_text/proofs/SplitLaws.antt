-- Bytes cut at the first that a test finds.
use Rattle.std.proofs.Common.{◌≡◌, ℕ, ◌+◌, ◌<◌, Bool, true, false, List, [], ◌∷◌, ◌++◌, length, get_or, take, drop, All, sym, ap, ◌∙◌, subst, take-append-drop, refl}
use Rattle.std.specs.List.{slice_split, onto_first}
use Rattle.std.proofs.lemmas.Bool.{cond-true, cond-false}
use Rattle.std.proofs.lemmas.List.{drop_more, take_more}
use Rattle.std.proofs.lemmas.List.Elements.{All-head, All-tail, All-push}

module _ {X : Type 0} (p : X → Bool) where
  pub split_nowhere : (xs : List X) → All (λ x. p x ≡ false) xs → slice_split p xs ≡ xs ∷ []
  split_nowhere [] h = refl
  split_nowhere (x ∷ xs) h =
      cond-false (p x) _ _ (All-head (λ y. p y ≡ false) x xs h)
      ∙ ap (onto_first x) (split_nowhere xs (All-tail (λ y. p y ≡ false) x xs h))

  split_behind : (xs : List X) (y : X) (ys : List X) → All (λ x. p x ≡ false) xs → p y ≡ true →
      slice_split p (xs ++ y ∷ ys) ≡ xs ∷ slice_split p ys
  split_behind [] y ys h e = cond-true (p y) _ _ e
  split_behind (x ∷ xs) y ys h e =
      cond-false (p x) _ _ (All-head (λ z. p z ≡ false) x xs h)
      ∙ ap (onto_first x) (split_behind xs y ys (All-tail (λ z. p z ≡ false) x xs h) e)

  -- the first piece ends where the test first holds
  pub split_there : (xs : List X) (i : ℕ) (d : X) → i < length xs → p (get_or xs i d) ≡ true →
      All (λ x. p x ≡ false) (take i xs) → slice_split p xs ≡ take i xs ∷ slice_split p (drop (i + 1) xs)
  split_there xs i d inside e h =
      ap (slice_split p) (sym (take-append-drop i xs) ∙ ap (λ zs. take i xs ++ zs) (drop_more xs i d inside))
      ∙ split_behind (take i xs) (get_or xs i d) (drop (i + 1) xs) h e

  pub none_so_far : (xs : List X) (i : ℕ) (d : X) → i < length xs → p (get_or xs i d) ≡ false →
      All (λ x. p x ≡ false) (take i xs) → All (λ x. p x ≡ false) (take (i + 1) xs)
  none_so_far xs i d inside e h =
      subst (All (λ x. p x ≡ false)) (sym (take_more xs i d inside))
      (All-push (λ x. p x ≡ false) (take i xs) (get_or xs i d) h e)
