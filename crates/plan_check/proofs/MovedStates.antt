-- States with some moves landed and others under way.
use Rattle.std.proofs.Common.{◌≡◌, refl, sym, ◌∙◌, ap, subst, ℕ, ℤ, Bool, true, false, cond, ◌||◌, List, [], ◌∷◌, ◌++◌, map, Option, Some, None, inl, inr}
use Rattle.std.specs.Prelude.{nat_lt}
use Rattle.std.specs.Option.{option_map, option_or}
use Rattle.std.specs.List.{list_any}
use Rattle.std.proofs.lemmas.Bool.{both_ways, or_parts}
use Rattle.std.proofs.lemmas.List.Folds.{find-append, list_any-append}
use Rattle.eon_model.specs.Names.{Name, same_name}
use Rattle.eon_model.specs.Services.{Leg, Service, State, service_of}
use Rattle.eon_model.specs.Changes.{change_service, with_leg, drifting_to, standing_at, finished}
use Rattle.eon_model.specs.Plan.{Move}
use Rattle.eon_model.specs.Places.{AtRest}
use Rattle.eon_model.specs.PlanCheck.{move_of, moved_before, state_before}
use Rattle.eon_model.proofs.OrderLaws.{IsIn}
use Rattle.eon_model.proofs.Members.{map-same, map-map}
use Rattle.eon_model.proofs.FoundLaws.{found}
use Rattle.eon_model.proofs.FirstRows.{find_map, find_same}
use Rattle.eon_model.proofs.NameLaws.{names_equal}
use Rattle.eon_model.proofs.NumberLaws.{same-name}
use Rattle.eon_model.proofs.PlacedLaws.{Rests, Rests-of}
use Rattle.plan_check.specs.Judged.{after_move, state_with}

-- whether one of the moves is of the service of this name
abbrev pub is_named : List Move → Name → Bool
is_named moves name = list_any (λ o. same_name o.name name) moves

-- no move is of a name that none has
pub unnamed-none : (moves : List Move) (name : Name) → is_named moves name ≡ false → move_of moves name ≡ None
unnamed-none [] name h = refl
unnamed-none (o ∷ moves) name h = by (same_name o.name name) (unnamed-none moves name) h
  where
    by : (b : Bool) → (is_named moves name ≡ false → move_of moves name ≡ None) → (b || is_named moves name) ≡ false →
        cond b (Some o) (move_of moves name) ≡ None
    by true more k = absurd (both_ways true k refl)
    by false more k = more k

-- what no move of both lists has, none of either has
pub named_parts : (past drifting : List Move) (name : Name) → is_named (past ++ drifting) name ≡ false →
    (is_named past name ≡ false) × (is_named drifting name ≡ false)
named_parts past drifting name h =
    or_parts (is_named past name) (is_named drifting name) (sym (list_any-append (λ (o : Move). same_name o.name name) past drifting) ∙ h)

-- spelled alike, names are the same to every test
pub alike : (a b : Name) (moves : List Move) → same_name a b ≡ true → move_of moves a ≡ move_of moves b
alike a b moves h = ap (move_of moves) (same-name a b h)

after_name : (a b : Option Move) (s : Service) → (after_move a b s).name ≡ s.name
after_name (Some m) b s = refl
after_name None (Some m) s = refl
after_name None None s = refl

-- ---- the service of a name

pub service-with : (landed drifting : List Move) (state : State) (name : Name) →
    service_of (state_with landed drifting state) name
    ≡ option_map (λ s. after_move (move_of landed s.name) (move_of drifting s.name) s) (service_of state name)
service-with landed drifting state name =
    let moved = λ (s : Service). after_move (move_of landed s.name) (move_of drifting s.name) s in
    find_map (λ (s : Service). same_name s.name name) moved state
    ∙ ap (option_map moved) (find_same (λ (s : Service). same_name (moved s).name name) (λ (s : Service). same_name s.name name)
    (λ s. ap (λ n. same_name n name) (after_name (move_of landed s.name) (move_of drifting s.name) s)) state)

-- ---- a change of one service

-- a list in which the service of a name is changed, told for each service
changed_as : (f g : Service → Service) (change : Service → Service) (name : Name) (state : State) →
    ((s : Service) → (f s).name ≡ s.name) →
    ((s : Service) → IsIn s state → same_name s.name name ≡ true → change (f s) ≡ g s) →
    ((s : Service) → IsIn s state → same_name s.name name ≡ false → f s ≡ g s) →
    change_service name change (map f state) ≡ map g state
changed_as f g change name state named of_name others =
    map-map f (λ (s : Service). cond (same_name s.name name) (change s) s) state
    ∙ map-same (λ (s : Service). cond (same_name (f s).name name) (change (f s)) (f s)) g state
    (λ s i. ap (λ n. cond (same_name n name) (change (f s)) (f s)) (named s) ∙ by s i (same_name s.name name) refl)
  where
    by : (s : Service) → IsIn s state → (b : Bool) → same_name s.name name ≡ b → cond b (change (f s)) (f s) ≡ g s
    by s i true e = of_name s i e
    by s i false e = others s i e

-- the move that comes last
found_last : (moves : List Move) (m : Move) (name : Name) →
    move_of (moves ++ m ∷ []) name ≡ option_or (move_of moves name) (cond (same_name m.name name) (Some m) None)
found_last moves m name = find-append (λ (o : Move). same_name o.name name) moves (m ∷ [])

none_or : {X : Type 0} (o : Option X) → option_or o None ≡ o
none_or None = refl
none_or (Some x) = refl

module _ (state : State) (landed : List Move) where
  -- a move begins
  pub begins : (drifting : List Move) (m : Move) → is_named landed m.name ≡ false → is_named drifting m.name ≡ false →
      change_service m.name (with_leg (drifting_to m.to)) (state_with landed drifting state)
      ≡ state_with landed (drifting ++ m ∷ []) state
  begins drifting m past new = changed_as
      (λ (s : Service). after_move (move_of landed s.name) (move_of drifting s.name) s)
      (λ (s : Service). after_move (move_of landed s.name) (move_of (drifting ++ m ∷ []) s.name) s)
      (with_leg (drifting_to m.to)) m.name state
      (λ s. after_name (move_of landed s.name) (move_of drifting s.name) s)
      (λ s i e.
      let none = alike s.name m.name landed e ∙ unnamed-none landed m.name past in
      let rest = alike s.name m.name drifting e ∙ unnamed-none drifting m.name new in
      let own : same_name m.name s.name ≡ true = names_equal.symm m.name s.name ∙ e in
      let last : move_of (drifting ++ m ∷ []) s.name ≡ Some m = found_last drifting m s.name
      ∙ (λ k. option_or (rest k) (cond (own k) (Some m) None)) in
      (λ k. with_leg (drifting_to m.to) (after_move (none k) (rest k) s))
      ∙ sym (λ k. after_move (none k) (last k) s))
      (λ s i e.
      let own : same_name m.name s.name ≡ false = names_equal.symm m.name s.name ∙ e in
      let same : move_of (drifting ++ m ∷ []) s.name ≡ move_of drifting s.name = found_last drifting m s.name
      ∙ ap (λ b. option_or (move_of drifting s.name) (cond b (Some m) None)) own ∙ none_or (move_of drifting s.name) in
      ap (λ (o : Option Move). after_move (move_of landed s.name) o s) (sym same))

  land_one : (s : Service) (n : ℤ) → Rests s → finished (with_leg (drifting_to n) s) ≡ with_leg (standing_at n) s
  land_one s n r = ap (λ (o : Option Leg). finished (with_leg (drifting_to n) (record s { next = o }))) r.alone
      ∙ ap (λ (o : Option Leg). with_leg (standing_at n) (record s { next = o })) (sym r.alone)

  -- a move lands
  pub lands : (drifting : List Move) (m : Move) → AtRest state → is_named landed m.name ≡ false →
      change_service m.name finished (state_with landed (m ∷ drifting) state)
      ≡ state_with (landed ++ m ∷ []) drifting state
  lands drifting m at_rest past = changed_as
      (λ (s : Service). after_move (move_of landed s.name) (move_of (m ∷ drifting) s.name) s)
      (λ (s : Service). after_move (move_of (landed ++ m ∷ []) s.name) (move_of drifting s.name) s)
      finished m.name state
      (λ s. after_name (move_of landed s.name) (move_of (m ∷ drifting) s.name) s)
      (λ s i e.
      let none = alike s.name m.name landed e ∙ unnamed-none landed m.name past in
      let own : same_name m.name s.name ≡ true = names_equal.symm m.name s.name ∙ e in
      let last : move_of (landed ++ m ∷ []) s.name ≡ Some m = found_last landed m s.name
      ∙ (λ k. option_or (none k) (cond (own k) (Some m) None)) in
      (λ k. finished (after_move (none k) (cond (own k) (Some m) (move_of drifting s.name)) s))
      ∙ land_one s m.to (Rests-of state at_rest s i)
      ∙ sym (ap (λ (o : Option Move). after_move o (move_of drifting s.name) s) last))
      (λ s i e.
      let own : same_name m.name s.name ≡ false = names_equal.symm m.name s.name ∙ e in
      let same : move_of (landed ++ m ∷ []) s.name ≡ move_of landed s.name = found_last landed m s.name
      ∙ ap (λ b. option_or (move_of landed s.name) (cond b (Some m) None)) own ∙ none_or (move_of landed s.name) in
      (λ k. after_move (sym same k) (cond (own k) (Some m) (move_of drifting s.name)) s))

-- ---- the state that a move is judged in

found_in : (moves : List Move) (name : Name) (o : Move) → move_of moves name ≡ Some o → IsIn o moves
found_in moves name o h = elim (found (λ (m : Move). same_name m.name name) moves) [
  | inl none ↦ (let no : None ≡ Some o = sym none.0 ∙ h in absurd (cc))
  | inr some ↦ (let same : some.0 ≡ o = (let e : Some some.0 ≡ Some o = sym some.1 ∙ h in cc) in
      subst (λ (m : Move). IsIn m moves) same some.2)
]

as_before : (batch : ℕ) (landed drifting : Option Move) (s : Service) →
    ((o : Move) → landed ≡ Some o → nat_lt o.batch batch ≡ true) →
    ((o : Move) → drifting ≡ Some o → nat_lt o.batch batch ≡ false) →
    after_move landed drifting s ≡ moved_before batch (option_or landed drifting) s
as_before batch (Some o) drifting s low high =
    λ i. cond (sym (low o refl) i) (with_leg (standing_at o.to) s) (with_leg (drifting_to o.to) s)
as_before batch None (Some o) s low high =
    λ i. cond (sym (high o refl) i) (with_leg (standing_at o.to) s) (with_leg (drifting_to o.to) s)
as_before batch None None s low high = refl

pub with-before : (batch : ℕ) (landed drifting : List Move) (state : State) →
    ((o : Move) → IsIn o landed → nat_lt o.batch batch ≡ true) →
    ((o : Move) → IsIn o drifting → nat_lt o.batch batch ≡ false) →
    state_with landed drifting state ≡ state_before batch (landed ++ drifting) state
with-before batch landed drifting state low high =
    map-same (λ (s : Service). after_move (move_of landed s.name) (move_of drifting s.name) s)
    (λ (s : Service). moved_before batch (move_of (landed ++ drifting) s.name) s) state
    (λ s i. as_before batch (move_of landed s.name) (move_of drifting s.name) s
    (λ o h. low o (found_in landed s.name o h)) (λ o h. high o (found_in drifting s.name o h))
    ∙ ap (λ (o : Option Move). moved_before batch o s) (sym (find-append (λ (m : Move). same_name m.name s.name) landed drifting)))
