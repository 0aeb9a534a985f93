-- What a row is left with where one after the other takes its units.
use Rattle.std.proofs.Common.{◌≡◌, refl, sym, ◌∙◌, ap, ℕ, Bool, true, false, ◌&&◌, List, [], ◌∷◌, drop}
use Rattle.std.specs.List.{list_all}
use Rattle.eon_model.specs.Grid.{Units, Band}
use Rattle.admission.specs.declared.row.Row.{Row}
use Rattle.admission.specs.Free.{are_free, are_within, IsFreeWhere, Takes}

pub takes_as : (a b : Row) (f g : Units → Bool) → ((s : Units) → f s ≡ g s) → Takes a b f → Takes a b g
takes_as a b f g e t = record { same_band = t.same_band; free = λ s h. t.free s h ∙ ap (λ x. are_free a s && x) (e s) }

and_true : (a : Bool) → (a && true) ≡ a
and_true true = refl
and_true false = refl

and_assoc : (a b c : Bool) → ((a && b) && c) ≡ (a && (b && c))
and_assoc true b c = refl
and_assoc false b c = refl

pub takes_both : (a b c : Row) (f g : Units → Bool) → Takes a b f → Takes b c g → Takes a c (λ s. f s && g s)
takes_both a b c f g t u = record {
  same_band = u.same_band ∙ t.same_band;
  free = λ s h.
      u.free s (ap (λ (v : Band). are_within v s) t.same_band ∙ h) ∙ ap (λ x. x && g s) (t.free s h)
      ∙ and_assoc (are_free a s) (f s) (g s);
}

-- ---- a pass over a list

module _ {X : Type 0} (band : Band) (from : Units → Bool) (test : Units → X → Bool) (xs : List X) where
  -- from a row that was free where units pass the first test, what stands before this place is taken
  pub record TakenTo (row : Row) (i : ℕ) : Type 0 where
    pub of_band : row.band ≡ band
    pub free : (s : Units) → are_within band s ≡ true →
        (are_free row s && list_all (test s) (drop i xs)) ≡ (from s && list_all (test s) xs)

  pub taken-none : (row : Row) → IsFreeWhere row band from → TakenTo row 0
  taken-none row f = record { of_band = f.of_band; free = λ s h. ap (λ b. b && list_all (test s) xs) (f.free s h) }

  pub taken-more : (a b : Row) (i j : ℕ) (x : X) → drop i xs ≡ x ∷ drop j xs → TakenTo a i →
      Takes a b (λ s. test s x) → TakenTo b j
  taken-more a b i j x e k t = record {
    of_band = t.same_band ∙ k.of_band;
    free = λ s h.
        ap (λ f. f && list_all (test s) (drop j xs)) (t.free s (ap (λ (v : Band). are_within v s) k.of_band ∙ h))
        ∙ and_assoc (are_free a s) (test s x) (list_all (test s) (drop j xs))
        ∙ ap (λ (ys : List X). are_free a s && list_all (test s) ys) (sym e) ∙ k.free s h;
  }

  pub taken-all : (row : Row) (i : ℕ) → drop i xs ≡ [] → TakenTo row i →
      IsFreeWhere row band (λ s. from s && list_all (test s) xs)
  taken-all row i e k = record {
    of_band = k.of_band;
    free = λ s h.
        sym (and_true (are_free row s)) ∙ ap (λ (ys : List X). are_free row s && list_all (test s) ys) (sym e)
        ∙ k.free s h;
  }
