-- The first service that clashes, as a search from the left.
use Rattle.std.proofs.Common.{◌≡◌, refl, sym, ◌∙◌, ap, ℕ, zero, suc, ◌≤◌, arith, Bool, true, false, cond, not, ◌&&◌, ◌||◌, List, [], ◌∷◌, length, drop, find, slice_get, map, Option, Some, None}
use Rattle.std.specs.Option.{option_map}
use Rattle.std.specs.List.{list_all}
use Rattle.eon_model.specs.declared.Class.{Class}
use Rattle.eon_model.specs.Names.{Name, same_name}
use Rattle.eon_model.specs.Route.{share_group}
use Rattle.eon_model.specs.Services.{Leg, Service, State, legs_of, owned, owned_legs}
use Rattle.eon_model.specs.Legal.{is_clear, is_dual, work_is_clear, backups_collide}
use Rattle.eon_model.specs.Step.{clashes_with}
use Rattle.eon_model.proofs.NameLaws.{names_equal}
use Rattle.leg_state.specs.Clashes.{is_clear_apart, clashes_apart, clashes_of, first_clash_of}

-- ---- a search

module _ {X : Type 0} (p : X → Bool) where
  pub find_here : (xs : List X) (i : ℕ) (x : X) → slice_get xs i ≡ Some x → p x ≡ true →
      find p (drop i xs) ≡ Some x
  find_here [] i x e h = cc
  find_here (y ∷ ys) zero x e h =
      let same : y ≡ x = cc in ap (λ b. cond b (Some y) (find p ys)) (ap p same ∙ h) ∙ e
  find_here (y ∷ ys) (suc i) x e h = find_here ys i x e h

  pub find_past : (xs : List X) (i : ℕ) (x : X) → slice_get xs i ≡ Some x → p x ≡ false →
      find p (drop i xs) ≡ find p (drop (suc i) xs)
  find_past [] i x e h = cc
  find_past (y ∷ ys) zero x e h =
      let same : y ≡ x = cc in ap (λ b. cond b (Some y) (find p ys)) (ap p same ∙ h)
  find_past (y ∷ ys) (suc i) x e h = find_past ys i x e h

  pub find_end : (xs : List X) (i : ℕ) → length xs ≤ i → find p (drop i xs) ≡ None
  find_end [] zero h = refl
  find_end [] (suc i) h = refl
  find_end (y ∷ ys) zero h = absurd (omega arith)
  find_end (y ∷ ys) (suc i) h = find_end ys i (omega arith)

-- ---- clear, for two services

or_without : (a b : Bool) → a ≡ false → (a || b) ≡ b
or_without a b e = λ i. e i || b

-- between the legs of two names, clear does not ask for the names
is_clear-apart : (owner name : Name) (class other : Class) (p q : Leg) → same_name name owner ≡ false →
    is_clear (owned owner class p) (owned name other q) ≡ is_clear_apart class p other q
is_clear-apart owner name class other p q e =
    ap (λ b. work_is_clear p q && work_is_clear q p
    && (not (backups_collide p q) || (not (is_dual class) && not (is_dual other) && b)))
    (or_without (same_name owner name) (not (share_group p.work.route q.work.route))
    (names_equal.symm owner name ∙ e))

pub clashes-apart : (class : Class) (l : Leg) (owner : Name) (s : Service) → same_name s.name owner ≡ false →
    clashes_with (owned owner class l) s ≡ clashes_apart class l s
clashes-apart class l owner s e =
    (λ i. not (e i) && not (list_all (is_clear (owned owner class l)) (owned_legs s))) ∙ ap not (row (legs_of s))
  where
    row : (ls : List Leg) →
        list_all (is_clear (owned owner class l)) (map (owned s.name s.class) ls)
        ≡ list_all (is_clear_apart class l s.class) ls
    row [] = refl
    row (k ∷ ls) = λ i. is_clear-apart owner s.name class s.class l k e i && row ls i

pub clashes-own : (class : Class) (l : Leg) (owner : Name) (s : Service) → same_name s.name owner ≡ true →
    clashes_with (owned owner class l) s ≡ false
clashes-own class l owner s e = λ i. not (e i) && not (list_all (is_clear (owned owner class l)) (owned_legs s))

pub first_clash-find : (state : State) (class : Class) (l : Leg) (owner : Option Name) →
    first_clash_of state class l owner ≡ option_map (λ s. s.name) (find (clashes_of class l owner) state)
first_clash-find state class l None = refl
first_clash-find state class l (Some owner) = refl

module _ (state : State) (class : Class) (l : Leg) (owner : Option Name) (i : ℕ)
    (none_before : find (clashes_of class l owner) (drop i state) ≡ find (clashes_of class l owner) state) where
  -- where no service before this one clashes, and it does, it is the first
  pub first_found : (s : Service) → slice_get state i ≡ Some s → clashes_of class l owner s ≡ true →
      first_clash_of state class l owner ≡ Some s.name
  first_found s e h =
      first_clash-find state class l owner
      ∙ ap (option_map (λ (x : Service). x.name)) (sym none_before ∙ find_here (clashes_of class l owner) state i s e h)

  -- where no service clashes, there is no first one
  pub first_none : length state ≤ i → first_clash_of state class l owner ≡ None
  first_none h =
      first_clash-find state class l owner
      ∙ ap (option_map (λ (x : Service). x.name)) (sym none_before ∙ find_end (clashes_of class l owner) state i h)
