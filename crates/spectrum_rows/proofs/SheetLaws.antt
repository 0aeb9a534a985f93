-- What calls on one fibre ask for, and what a sheet keeps through them.
use Rattle.std.proofs.Common.{◌≡◌, refl, sym, ◌∙◌, ap, subst, ℕ, zero, suc, nat_eq, Option, Some, None, inl, inr, negsuc, ◌||◌, ◌+◌, ◌-◌, ◌<◌, ◌≤◌, arith, ℤ, pos, ◌+ℤ◌, ◌-ℤ◌, ◌≤ℤ◌, ◌<ℤ◌, Bool, true, false, cond, ◌&&◌, not, List, [], ◌∷◌}
use Rattle.std.specs.Prelude.{nat_lt, nat_le, nat_abs, int_le, IfSome}
use Rattle.std.specs.List.{list_any}
use Rattle.std.proofs.lemmas.Int.{ints}
use Rattle.std.proofs.lemmas.Bool.{lt-ltb, le-leb, cases_lt, and_parts, both_ways}
use Rattle.eon_model.specs.Grid.{Band, Units, lies_in, span_of, unit_count, is_units}
use Rattle.eon_model.specs.Lists.{integers_from}
use Rattle.flex_grid.specs.Makes.{units_from}
use Rattle.eon_model.proofs.GridLaws.{int_le-le, lies_in-facts, facts-lies_in}
use Rattle.eon_model.specs.Rows.{Rows, Holders, takes, at_each, is_dark, units_in, with_held, without_held}
use Rattle.eon_model.proofs.UnitLaws.{all-from, not_any}
use Rattle.spectrum_map.specs.Kept.{Kept, Becomes, IsKeptThere, IsEmpty, taken}
use Rattle.spectrum_rows.specs.Sheets.{IsSheet, IsUnitOf, PassTo}

one_fibre : (b : Bool) → b ≡ true → (b && true) ≡ true
one_fibre true e = refl
one_fibre false e = e

-- one fibre that is there, and units of the span
pub there_one : (maps : Kept) (band : Band) (fibres holds f : ℕ) (units : Units) → IsSheet maps band fibres holds →
    f < fibres → lies_in (span_of band) units ≡ true → IsKeptThere maps (taken (f ∷ []) units)
there_one maps band fibres holds f units s l inside = record {
  fibres = let e = s.fibres_are in (omega (arith, l, e), tt);
  once = refl;
  units = ap (λ (b : Band). lies_in (span_of b) units) s.band_is ∙ inside;
}

pub dark_one : (rows : Rows) (f : ℕ) (units : Units) → list_any (rows.lit f) (units_in units) ≡ false →
    is_dark rows (taken (f ∷ []) units) ≡ true
dark_one rows f units h = one_fibre _ (sym (not_any (rows.lit f) (units_in units)) ∙ ap not h)

-- each unit passes where those of all places do
pub each_one : (test : ℕ → ℤ → Bool) (f : ℕ) (units : Units) → PassTo (test f) units (unit_count units) →
    at_each test (taken (f ∷ []) units) ≡ true
each_one test f units each = one_fibre _ (all-from (test f) units.lo (unit_count units) (λ u low high.
    let i = nat_abs (u -ℤ units.lo) in
    let at : units.lo +ℤ pos (nat_abs (u -ℤ units.lo)) ≡ u = omega (arith, ints) in
    ap (test f) (sym at) ∙ each (nat_abs (u -ℤ units.lo)) (near u low high)))
  where
    near : (u : ℤ) → units.lo ≤ℤ u → u <ℤ (units.lo +ℤ pos (unit_count units)) → nat_abs (u -ℤ units.lo) < unit_count units
    near u low high = below units.lo u (unit_count units) low high
      where
        below : (a u : ℤ) (n : ℕ) → a ≤ℤ u → u <ℤ (a +ℤ pos n) → nat_abs (u -ℤ a) < n
        below a u n low high = omega (arith, ints)

pub room_one : (holders : Holders) (holds f : ℕ) (units : Units) → ((g : ℕ) (u : ℤ) → holders g u ≤ holds) →
    holds < 8192 → at_each (λ g u. nat_lt (holders g u) 8192) (taken (f ∷ []) units) ≡ true
room_one holders holds f units few room = each_one (λ g u. nat_lt (holders g u) 8192) f units
    (λ i l. let least = few f (units.lo +ℤ pos i) in
    lt-ltb (holders f (units.lo +ℤ pos i)) 8192 (omega (arith, least, room)))

-- ---- what a sheet keeps

pub new_sheet : (maps : Kept) (band : Band) (fibres : ℕ) → IsEmpty band fibres maps → IsSheet maps band fibres 0
new_sheet maps band fibres e = record {
  band_is = e.band_is;
  fibres_are = e.fibres_are;
  few = λ f u. let none = ap (λ (h : Holders). h f u) e.free in omega (arith, none);
}

module _ (before after : Kept) (band : Band) (fibres holds : ℕ) (s : IsSheet before band fibres holds)
    (lit : ℕ → ℤ → Bool) (holders : Holders) (b : Becomes before after lit holders) where
  pub sheet-kept : ((f : ℕ) (u : ℤ) → holders f u ≤ holds) → IsSheet after band fibres holds
  sheet-kept few = record {
    band_is = b.band ∙ s.band_is;
    fibres_are = b.fibres ∙ s.fibres_are;
    few = λ f u. let same = ap (λ (h : Holders). h f u) b.holders_are in let least = few f u in omega (arith, same, least);
  }

  pub sheet-more : ((f : ℕ) (u : ℤ) → holders f u ≤ holds + 1) → IsSheet after band fibres (holds + 1)
  sheet-more few = record {
    band_is = b.band ∙ s.band_is;
    fibres_are = b.fibres ∙ s.fibres_are;
    few = λ f u. let same = ap (λ (h : Holders). h f u) b.holders_are in let least = few f u in omega (arith, same, least);
  }

pub held_few : (t : Units) (fs : List ℕ) (holders : Holders) (holds : ℕ) → ((f : ℕ) (u : ℤ) → holders f u ≤ holds) →
    (f : ℕ) (u : ℤ) → with_held (taken fs t) holders f u ≤ holds + 1
held_few t fs holders holds few f u = by (takes f u (taken fs t)) (few f u)
  where
    by : (b : Bool) → holders f u ≤ holds → cond b (holders f u + 1) (holders f u) ≤ holds + 1
    by true h = omega (arith, h)
    by false h = omega (arith, h)

pub let_go_few : (t : Units) (fs : List ℕ) (holders : Holders) (holds : ℕ) → ((f : ℕ) (u : ℤ) → holders f u ≤ holds) →
    (f : ℕ) (u : ℤ) → without_held (taken fs t) holders f u ≤ holds
let_go_few t fs holders holds few f u = by (takes f u (taken fs t)) (few f u)
  where
    by : (b : Bool) → holders f u ≤ holds → cond b (holders f u - 1) (holders f u) ≤ holds
    by true h = omega (arith, h)
    by false h = omega (arith, h)

-- ---- one unit

pub units_bounds : (u : Units) → is_units u ≡ true → (negsuc 4095 ≤ℤ u.lo) × (u.lo ≤ℤ u.hi) × (u.hi ≤ℤ pos 4095)
units_bounds u h =
    let a = and_parts (int_le (negsuc 4095) u.lo && int_le u.lo u.hi) (int_le u.hi (pos 4095)) h in
    let b = and_parts (int_le (negsuc 4095) u.lo) (int_le u.lo u.hi) a.0 in
    (int_le-le _ _ b.0, int_le-le _ _ b.1, int_le-le _ _ a.1)

pub unit_made : (units : Units) (i : ℕ) (x : ℤ) (o : Option Units) → o ≡ units_from x x → x ≡ (units.lo +ℤ pos i) →
    x ≤ℤ units.hi → IfSome o (IsUnitOf units i)
unit_made units i x o e same within =
    subst (λ (p : Option Units). IfSome p (IsUnitOf units i)) (sym e) (by (is_units (record { lo = x; hi = x })))
  where
    by : (b : Bool) → IfSome (cond b (Some (record { lo = x; hi = x })) None) (IsUnitOf units i)
    by true = record { lo_is = same; hi_is = same; within = within }
    by false = tt

pub unit_inside : (maps : Kept) (band : Band) (fibres holds : ℕ) (units unit : Units) (i : ℕ) →
    IsSheet maps band fibres holds → lies_in (span_of band) units ≡ true → IsUnitOf units i unit →
    lies_in (span_of maps.band) unit ≡ true
unit_inside maps band fibres holds units unit i s inside u =
    let w = lies_in-facts (span_of band) units inside in
    let low = w.0 in
    let high = w.1 in
    let lo = u.lo_is in
    let top = u.within in
    ap (λ (b : Band). lies_in (span_of b) unit) s.band_is
    ∙ facts-lies_in (span_of band) unit (omega (arith, ints)) (omega (arith, ints))

pub one_passes : (test : ℤ → Bool) (units unit : Units) (i : ℕ) → IsUnitOf units i unit →
    list_any test (units_in unit) ≡ true → test (units.lo +ℤ pos i) ≡ true
one_passes test units unit i u h =
    let lo = u.lo_is in
    let hi = u.hi_is in
    let one : unit_count unit ≡ 1 = omega (arith, ints) in
    alone (test (units.lo +ℤ pos i)) (sym (λ k. list_any test (integers_from (lo k) (one k))) ∙ h)
  where
    alone : (b : Bool) → (b || false) ≡ true → b ≡ true
    alone true e = refl
    alone false e = e

pub pass_more : (test : ℤ → Bool) (units : Units) (n : ℕ) → PassTo test units n → test (units.lo +ℤ pos n) ≡ true →
    PassTo test units (n + 1)
pass_more test units n before here i l = elim (cases_lt i n) [
  | inl less ↦ before i less
  | inr more ↦ let same : i ≡ n = omega (arith, l, more) in ap (λ k. test (units.lo +ℤ pos k)) same ∙ here
]

-- what some backup holds can be let go
pub some_one : (holders : Holders) (f : ℕ) (units : Units) →
    PassTo (λ u. not (nat_eq (holders f u) 0)) units (unit_count units) →
    at_each (λ g u. nat_le 1 (holders g u)) (taken (f ∷ []) units) ≡ true
some_one holders f units each = each_one (λ g u. nat_le 1 (holders g u)) f units
    (λ i l. by (holders f (units.lo +ℤ pos i)) (each i l))
  where
    by : (n : ℕ) → not (nat_eq n 0) ≡ true → nat_le 1 n ≡ true
    by zero h = absurd (both_ways false refl h)
    by (suc n) h = le-leb 1 (suc n) (omega arith)
