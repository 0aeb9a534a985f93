-- Units that are lit or made dark, one holding after the other.
use Rattle.std.proofs.Common.{◌≡◌, refl, sym, ◌∙◌, ap, subst, ℕ, zero, suc, ◌+◌, ◌<◌, ◌≤◌, arith, ℤ, Bool, true, false, cond, ◌&&◌, ◌||◌, not, List, [], ◌∷◌, map, nat_eq}
use Rattle.std.specs.List.{AllByRecursion}
use Rattle.std.proofs.lemmas.Bool.{false≢true, not_from_false, or_left, or_right}
use Rattle.eon_model.specs.declared.Class.{Class}
use Rattle.eon_model.specs.declared.Class.TheVariants.{Bare, Shared, Dual}
use Rattle.eon_model.specs.Grid.{Band, lies_in, span_of}
use Rattle.eon_model.specs.Services.{Leg, Holding, working_holding}
use Rattle.eon_model.specs.Listings.{holds, lit_by}
use Rattle.eon_model.specs.Rows.{Taken, Rows, Holders, takes, at_each, is_dark, changed_by, with_lit, without_lit, rows_with}
use Rattle.eon_model.specs.Occupied.{is_taken, takers_of, taken_of}
use Rattle.eon_model.proofs.BandLaws.{some_unit}
use Rattle.eon_model.proofs.FreeLaws.{count-cons}
use Rattle.eon_model.proofs.RowsLaws.{any_counted}
use Rattle.spectrum_map.specs.Kept.{Kept, Becomes, lit_in, holders_in, rows_in}
use Rattle.backup_sharing.proofs.CountedLaws.{each_of, takes_at}
use Rattle.kept_rows.specs.Standing.{IsPlace, CanBeLit, CanGoDark, IsLitBy, IsDarkBy, lit_backup, holdings_of, of_class}

-- ---- a change keeps the band and the fibres

pub place_after : (before after : Kept) (t : Taken) → after.band ≡ before.band → after.fibres ≡ before.fibres →
    IsPlace before t → IsPlace after t
place_after before after t band fibres p = record {
  there = record {
    fibres = subst (λ (n : ℕ). AllByRecursion (λ f. f < n) t.fibres) (sym fibres) p.there.fibres;
    once = p.there.once;
    units = subst (λ (b : Band). lies_in (span_of b) t.units ≡ true) (sym band) p.there.units;
  };
  grid = p.grid;
}

pub places_after : {X : Type 0} (at : X → Taken) (before after : Kept) (xs : List X) → after.band ≡ before.band →
    after.fibres ≡ before.fibres → AllByRecursion (λ x. IsPlace before (at x)) xs →
    AllByRecursion (λ x. IsPlace after (at x)) xs
places_after at before after [] band fibres a = tt
places_after at before after (x ∷ xs) band fibres a =
    (place_after before after (at x) band fibres a.0, places_after at before after xs band fibres a.1)

pub rows_become : (before after : Kept) (lit : ℕ → ℤ → Bool) (holders : Holders) → Becomes before after lit holders →
    rows_in after ≡ rows_with lit holders
rows_become before after lit holders b = λ i. rows_with (b.lit_is i) (b.holders_are i)

-- ---- no unit is taken twice

once_first : (a : Bool) (n : ℕ) → cond a 1 0 + n ≤ 1 → not (nat_eq n 0) ≡ true → a ≡ false
once_first true zero h k = absurd (false≢true k)
once_first true (suc n) h k = absurd (omega (arith, h))
once_first false n h k = refl

fewer : (a : Bool) (n : ℕ) → cond a 1 0 + n ≤ 1 → n ≤ 1
fewer true n h = omega (arith, h)
fewer false n h = omega (arith, h)

module _ (h : Holding) (hs : List Holding) (once : (fibre : ℕ) (u : ℤ) → takers_of (h ∷ hs) fibre u ≤ 1) where
  counted : (fibre : ℕ) (u : ℤ) → cond (holds fibre u h) 1 0 + takers_of hs fibre u ≤ 1
  counted fibre u = subst (λ (n : ℕ). n ≤ 1) (count-cons (holds fibre u) h hs) (once fibre u)

  pub once_rest : (fibre : ℕ) (u : ℤ) → takers_of hs fibre u ≤ 1
  once_rest fibre u = fewer (holds fibre u h) (takers_of hs fibre u) (counted fibre u)

  pub not_first : (fibre : ℕ) (u : ℤ) → is_taken hs fibre u ≡ true → takes fibre u (taken_of h) ≡ false
  not_first fibre u t =
      once_first (holds fibre u h) (takers_of hs fibre u) (counted fibre u) (sym (any_counted (holds fibre u) hs) ∙ t)

-- ---- light

pub first_dark : (k : Kept) (h : Holding) (hs : List Holding) → CanBeLit k (h ∷ hs) →
    is_dark (rows_in k) (taken_of h) ≡ true
first_dark k h hs can =
    each_of (λ fibre u. not (lit_in k fibre u)) (taken_of h) (some_unit _ can.places.0.grid) (λ fibre u i p q.
    not_from_false (lit_in k fibre u)
    (can.dark fibre u (or_left (holds fibre u h) (is_taken hs fibre u) (takes_at (taken_of h) fibre u i p q))))

pub rest_dark : (k after : Kept) (h : Holding) (hs : List Holding) → CanBeLit k (h ∷ hs) →
    Becomes k after (with_lit (taken_of h) (rows_in k)).lit (holders_in k) → CanBeLit after hs
rest_dark k after h hs can b = record {
  places = places_after taken_of k after hs b.band b.fibres can.places.1;
  dark = λ fibre u t. (λ i. b.lit_is i fibre u)
      ∙ (λ i. can.dark fibre u (or_right (holds fibre u h) (is_taken hs fibre u) t) i
      || not_first h hs can.once fibre u t i);
  once = once_rest h hs can.once;
}

pub lit_more : (k mid after : Kept) (h : Holding) (hs : List Holding) →
    Becomes k mid (with_lit (taken_of h) (rows_in k)).lit (holders_in k) → IsLitBy mid after hs → IsLitBy k after (h ∷ hs)
lit_more k mid after h hs a b = record {
  band = b.band ∙ a.band;
  fibres = b.fibres ∙ a.fibres;
  lit_is = b.lit_is ∙ ap (λ (r : Rows). (changed_by with_lit (map taken_of hs) r).lit) (rows_become k mid _ _ a);
  holders_are = b.holders_are ∙ a.holders_are;
}

pub lit_none : (k : Kept) → IsLitBy k k []
lit_none k = record { band = refl; fibres = refl; lit_is = refl; holders_are = refl }

-- ---- dark

pub first_lit : (k : Kept) (h : Holding) (hs : List Holding) → CanGoDark k (h ∷ hs) →
    at_each (lit_in k) (taken_of h) ≡ true
first_lit k h hs can =
    each_of (lit_in k) (taken_of h) (some_unit _ can.places.0.grid) (λ fibre u i p q.
    can.lit fibre u (or_left (holds fibre u h) (is_taken hs fibre u) (takes_at (taken_of h) fibre u i p q)))

pub rest_lit : (k after : Kept) (h : Holding) (hs : List Holding) → CanGoDark k (h ∷ hs) →
    Becomes k after (without_lit (taken_of h) (rows_in k)).lit (holders_in k) → CanGoDark after hs
rest_lit k after h hs can b = record {
  places = places_after taken_of k after hs b.band b.fibres can.places.1;
  lit = λ fibre u t. (λ i. b.lit_is i fibre u)
      ∙ (λ i. can.lit fibre u (or_right (holds fibre u h) (is_taken hs fibre u) t) i
      && not (not_first h hs can.once fibre u t i));
  once = once_rest h hs can.once;
}

pub dark_more : (k mid after : Kept) (h : Holding) (hs : List Holding) →
    Becomes k mid (without_lit (taken_of h) (rows_in k)).lit (holders_in k) → IsDarkBy mid after hs →
    IsDarkBy k after (h ∷ hs)
dark_more k mid after h hs a b = record {
  band = b.band ∙ a.band;
  fibres = b.fibres ∙ a.fibres;
  lit_is = b.lit_is ∙ ap (λ (r : Rows). (changed_by without_lit (map taken_of hs) r).lit) (rows_become k mid _ _ a);
  holders_are = b.holders_are ∙ a.holders_are;
}

pub dark_none : (k : Kept) → IsDarkBy k k []
dark_none k = record { band = refl; fibres = refl; lit_is = refl; holders_are = refl }

-- ---- what a leg has lit

pub lit_by_is : (class : Class) (l : Leg) →
    lit_by (of_class class l) ≡ working_holding l ∷ holdings_of (lit_backup class l)
lit_by_is Bare l = refl
lit_by_is Shared l = refl
lit_by_is Dual l = refl
