-- Channels that settled at their least heights: none goes past its own, and each is held there.
use Rattle.std.proofs.Common.{◌≡◌, refl, sym, ◌∙◌, ap, subst, ℕ, zero, suc, ◌+◌, ◌<◌, ◌≤◌, ◌≢◌, ℤ, ◌⊎◌, inl, inr, true, false, not, List, [], ◌∷◌, get_or, Option, Some, arith}
use Rattle.std.specs.Prelude.{slice_get}
use Rattle.std.proofs.Math.Nat.{min-eq_left}
use Rattle.std.proofs.lemmas.Bool.{and_parts, not-true}
use Rattle.eon_model.specs.Grid.{units_of, is_band}
use Rattle.eon_model.specs.Names.{same_name}
use Rattle.eon_model.specs.Route.{share_fibre}
use Rattle.eon_model.specs.Services.{Service, State}
use Rattle.eon_model.specs.Legal.{Setup, Legal}
use Rattle.eon_model.specs.Places.{target_in, AtRest, Places, own_places, units_at}
use Rattle.eon_model.proofs.OrderLaws.{IsIn}
use Rattle.eon_model.proofs.ListLaws.{slice_get_in}
use Rattle.eon_model.proofs.Members.{list_all-at}
use Rattle.eon_model.proofs.NameLaws.{names_equal}
use Rattle.eon_model.specs.Lists.{all_pairs}
use Rattle.std.specs.List.{list_all}
use Rattle.eon_model.proofs.PlacedLaws.{names_differ}
use Rattle.make_room.specs.declared.heights.Side.{Side}
use Rattle.make_room.specs.Heights.{begin_of, end_of, centre_from}
use Rattle.make_room.specs.Settling.{EndsAt, SettlesAt, HasSettled}
use Rattle.make_room.specs.Sweeps.{centres_from}
use Rattle.make_room.proofs.SideLaws.{OnGrid, Before, begin-at, end-at, grid-at, place-at}
use Rattle.make_room.proofs.StandFacts.{wide, own_width, comes_before, ends_before_it}

pub index_in : (xs : State) (x : Service) → IsIn x xs → (i : ℕ) × (slice_get xs i ≡ Some x)
index_in [] x i = absurd i
index_in (y ∷ xs) x i = elim i [
  | inl e ↦ (0, ap Some (sym e))
  | inr more ↦ let r = index_in xs x more in (suc r.0, r.1)
]

one_value : {o : Option Service} {x y : Service} → o ≡ Some x → o ≡ Some y → x ≡ y
one_value e f = cc

-- different places of the list have different names
names_apart : (state : State) (i j : ℕ) (a b : Service) → all_pairs (λ s t. not (same_name s.name t.name)) state ≡ true →
    slice_get state i ≡ Some a → slice_get state j ≡ Some b → i ≢ j → same_name a.name b.name ≡ false
names_apart [] i j a b differ e f other = absurd cc
names_apart (s ∷ state) zero zero a b differ e f other = absurd (other refl)
names_apart (s ∷ state) zero (suc j) a b differ e f other =
    let is : s ≡ a = cc in
    let parts = and_parts (list_all (λ t. not (same_name s.name t.name)) state) _ differ in
    ap (λ (x : Service). same_name x.name b.name) (sym is)
    ∙ not-true _ (list_all-at (λ (t : Service). not (same_name s.name t.name)) state b parts.0 (slice_get_in state j b f).1)
names_apart (s ∷ state) (suc i) zero a b differ e f other =
    let is : s ≡ b = cc in
    let parts = and_parts (list_all (λ t. not (same_name s.name t.name)) state) _ differ in
    ap (λ (x : Service). same_name a.name x.name) (sym is)
    ∙ names_equal.symm a.name s.name
    ∙ not-true _ (list_all-at (λ (t : Service). not (same_name s.name t.name)) state a parts.0 (slice_get_in state i a e).1)
names_apart (s ∷ state) (suc i) (suc j) a b differ e f other =
    names_apart state i j a b (and_parts (list_all (λ t. not (same_name s.name t.name)) state) _ differ).1 e f
    (λ same. other (ap suc same))

-- a channel ends before the other one, or a backup does
pub record HeldByChannel (from : Side) (state : State) (p : Places) (s o : Service) : Type 0 where
  pub there : IsIn o state
  pub other : same_name o.name s.name ≡ false
  pub common : share_fibre o.leg.work.route s.leg.work.route ≡ true
  pub before : Before from (units_at own_places o) (units_at own_places s)
  pub ends : end_of from (units_at p o) ≡ begin_of from (units_at p s)

-- What is told of places in order: each is on the grid, and what came before on a common fibre still does.
pub record InOrder (from : Side) (state : State) (p : Places) : Type 0 where
  pub grid : (s : Service) → IsIn s state → OnGrid (units_at p s)
  pub before : (o s : Service) → IsIn o state → IsIn s state → same_name o.name s.name ≡ false →
      share_fibre o.leg.work.route s.leg.work.route ≡ true →
      Before from (units_at own_places o) (units_at own_places s) → end_of from (units_at p o) ≤ begin_of from (units_at p s)

module _ (setup : Setup) (state : State) (rest : AtRest state) (legal : Legal setup state)
    (banded : is_band setup.band ≡ true) (from : Side) (starts limits caps settled : List ℕ)
    (h : HasSettled state starts limits caps settled)
    (starts_are : (i : ℕ) (s : Service) → slice_get state i ≡ Some s → get_or starts i 0 ≡ begin_of from (units_at own_places s))
    (limits_in : (i : ℕ) (s : Service) → slice_get state i ≡ Some s → get_or limits i 0 ≤ get_or caps i 0)
    (caps_in : (i j : ℕ) (s o : Service) → slice_get state i ≡ Some s → slice_get state j ≡ Some o →
    share_fibre o.leg.work.route s.leg.work.route ≡ true → same_name o.name s.name ≡ false →
    Before from (units_at own_places o) (units_at own_places s) →
    get_or caps j 0 + (o.leg.work.slot.m + o.leg.work.slot.m) ≤ get_or caps i 0)
    (caps_grid : (i : ℕ) (s : Service) → slice_get state i ≡ Some s →
    get_or caps i 0 + (s.leg.work.slot.m + s.leg.work.slot.m) ≤ 8192) where
  p : Places
  p = target_in state (centres_from from state settled)

  member : (i : ℕ) (s : Service) → slice_get state i ≡ Some s → IsIn s state
  member i s e = (slice_get_in state i s e).1

  place : (i : ℕ) (s : Service) → slice_get state i ≡ Some s →
      target_in state (centres_from from state settled) s ≡ centre_from from s.leg.work.slot.m (get_or settled i 0)
  place i s e = place-at from setup state settled legal h.places i s e

  pub begin_is : (i : ℕ) (s : Service) → slice_get state i ≡ Some s →
      begin_of from (units_at (target_in state (centres_from from state settled)) s) ≡ get_or settled i 0
  begin_is i s e =
      ap (λ (n : ℤ). begin_of from (units_of (record { n = n; m = s.leg.work.slot.m }))) (place i s e)
      ∙ begin-at from (get_or settled i 0) s.leg.work.slot.m

  pub end_is : (i : ℕ) (s : Service) → slice_get state i ≡ Some s →
      end_of from (units_at (target_in state (centres_from from state settled)) s)
      ≡ get_or settled i 0 + (s.leg.work.slot.m + s.leg.work.slot.m)
  end_is i s e =
      ap (λ (n : ℤ). end_of from (units_of (record { n = n; m = s.leg.work.slot.m }))) (place i s e)
      ∙ end-at from (get_or settled i 0) s.leg.work.slot.m (wide setup state rest legal banded s (member i s e))

  pub at_most : (i : ℕ) (s : Service) → slice_get state i ≡ Some s → get_or settled i 0 ≤ get_or caps i 0
  at_most i s e = let at = h.at i s e in let is = at.is in omega arith

  -- one that ends at the top of another one comes before it
  before_ends : (i : ℕ) (s : Service) → slice_get state i ≡ Some s → (top : ℕ) →
      (c : EndsAt state starts h.done settled i s top) →
      (same_name c.service.name s.name ≡ false)
      × Before from (units_at own_places c.service) (units_at own_places s)
  before_ends i s e top c =
      let apart = names_apart state c.number i c.service s (names_differ setup state legal) c.there e c.other in
      let low : begin_of from (units_at own_places c.service) ≤ begin_of from (units_at own_places s) =
      subst (λ (n : ℕ). n ≤ begin_of from (units_at own_places s)) (starts_are c.number c.service c.there)
      (subst (λ (n : ℕ). get_or starts c.number 0 ≤ n) (starts_are i s e) c.before) in (
        apart,
        comes_before setup state rest legal banded from c.service s (member c.number c.service c.there) (member i s e)
            apart c.common low,
      )

  capped : (i : ℕ) (s : Service) (e : slice_get state i ≡ Some s) (at : SettlesAt state starts limits caps h.done settled i s) →
      at.top ≤ get_or caps i 0
  capped i s e at = elim at.from [
    | inl first ↦ subst (λ (n : ℕ). n ≤ get_or caps i 0) (sym first) (limits_in i s e)
    | inr c ↦
        let b = before_ends i s e at.top c in
        let low = at_most c.number c.service c.there in
        let room = caps_in i c.number s c.service e c.there c.common b.0 b.1 in
        let ends = c.ends in
        through (get_or settled c.number 0) (get_or caps c.number 0) (c.service.leg.work.slot.m + c.service.leg.work.slot.m)
        at.top (get_or caps i 0) ends low room
  ]
    where
      through : (a b w t c : ℕ) → a + w ≡ t → a ≤ b → b + w ≤ c → t ≤ c
      through a b w t c e h k = omega (arith, e, h, k)

  -- it settled at its top
  at_top : (i : ℕ) (s : Service) (e : slice_get state i ≡ Some s) (at : SettlesAt state starts limits caps h.done settled i s) →
      get_or settled i 0 ≡ at.top
  at_top i s e at = at.is ∙ min-eq_left (capped i s e at)

  pub over_limit : (i : ℕ) (s : Service) → slice_get state i ≡ Some s → get_or limits i 0 ≤ get_or settled i 0
  over_limit i s e =
      let at = h.at i s e in
      subst (λ (n : ℕ). get_or limits i 0 ≤ n) (sym (at_top i s e at)) at.limit_is

  later : (a b c d : ℕ) (m : ℕ) → 1 ≤ m → c ≡ a + (m + m) → c ≤ b → a < b
  later a b c d m w e l = omega (arith, w, e, l)

  pub in_order : InOrder from state (target_in state (centres_from from state settled))
  in_order = record {
    grid = λ s i.
        let at = index_in state s i in
        let low = at_most at.0 s at.1 in
        let room = caps_grid at.0 s at.1 in
        subst (λ (n : ℤ). OnGrid (units_of (record { n = n; m = s.leg.work.slot.m }))) (sym (place at.0 s at.1))
        (grid-at from (get_or settled at.0 0) s.leg.work.slot.m
        (within (get_or settled at.0 0) (get_or caps at.0 0) (s.leg.work.slot.m + s.leg.work.slot.m) low room));
    before = λ o s j i other common before.
        let a = index_in state o j in
        let b = index_in state s i in
        let at = h.at b.0 s b.1 in
        let ends = ends_before_it setup state rest legal banded from o s j i before in
        let less : get_or starts a.0 0 < get_or starts b.0 0 =
        subst (λ (n : ℕ). n < get_or starts b.0 0) (sym (starts_are a.0 o a.1))
        (subst (λ (n : ℕ). begin_of from (units_at own_places o) < n) (sym (starts_are b.0 s b.1))
        (later (begin_of from (units_at own_places o)) (begin_of from (units_at own_places s))
        (end_of from (units_at own_places o)) 0 o.leg.work.slot.m (wide setup state rest legal banded o j)
        (own_width setup state rest legal banded from o j) ends)) in
        subst (λ (n : ℕ). n ≤ begin_of from (units_at (target_in state (centres_from from state settled)) s))
        (sym (end_is a.0 o a.1))
        (subst (λ (n : ℕ). get_or settled a.0 0 + (o.leg.work.slot.m + o.leg.work.slot.m) ≤ n)
        (sym (begin_is b.0 s b.1 ∙ at_top b.0 s b.1 at)) (at.over a.0 o a.1 common less));
  }
    where
      within : (a b w : ℕ) → a ≤ b → b + w ≤ 8192 → a + w ≤ 8192
      within a b w h k = omega (arith, h, k)

  -- at its limit, or right behind another one
  pub held : (i : ℕ) (s : Service) → slice_get state i ≡ Some s →
      (get_or settled i 0 ≡ get_or limits i 0)
      ⊎ ((o : Service) × HeldByChannel from state (target_in state (centres_from from state settled)) s o)
  held i s e =
      let at = h.at i s e in
      elim at.from [
        | inl first ↦ inl (at_top i s e at ∙ first)
        | inr c ↦
            let b = before_ends i s e at.top c in
            inr (
              c.service,
              record {
                there = member c.number c.service c.there;
                other = b.0;
                common = c.common;
                before = b.1;
                ends = end_is c.number c.service c.there ∙ c.ends ∙ sym (at_top i s e at) ∙ sym (begin_is i s e);
              },
            )
      ]
