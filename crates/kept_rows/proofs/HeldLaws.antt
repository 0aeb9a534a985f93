-- Shared backups that are added and taken.
use Rattle.std.proofs.Common.{◌≡◌, refl, sym, subst, ℕ, ◌+◌, ◌<◌, ◌≤◌, arith, inl, inr, ℤ, Bool, true, false, cond, ◌&&◌, List, [], ◌∷◌, length}
use Rattle.std.specs.Prelude.{count_by, nat_le, nat_lt}
use Rattle.std.specs.Ordering.{int_eq, is_eq, nat_cmp}
use Rattle.std.specs.Cmp.Lexicographic.{slice_cmp}
use Rattle.std.proofs.lemmas.Bool.{and_parts, and_from, lt-ltb, le-leb}
use Rattle.eon_model.specs.declared.Class.{Class}
use Rattle.eon_model.specs.declared.Class.TheVariants.{Bare, Shared, Dual}
use Rattle.eon_model.specs.Lists.{IsAmong}
use Rattle.eon_model.specs.Sets.{same_members}
use Rattle.eon_model.specs.Services.{Leg}
use Rattle.eon_model.specs.Listings.{holds}
use Rattle.eon_model.specs.Rows.{Reserved, at_each}
use Rattle.eon_model.specs.Occupied.{Reserve, holders_among, reserves_by, taken_of, reserved_of}
use Rattle.eon_model.specs.Turnover.{Turns}
use Rattle.eon_model.proofs.BandLaws.{some_unit}
use Rattle.eon_model.proofs.FreeLaws.{count-cons}
use Rattle.eon_model.proofs.SetLaws.{same-members, same_itself}
use Rattle.eon_model.proofs.NameLaws.{names_equal}
use Rattle.eon_model.proofs.NumberLaws.{same-name}
use Rattle.eon_model.proofs.SlotSteps.{int_eq-same, int_eq-of}
use Rattle.spectrum_map.specs.Kept.{holders_in}
use Rattle.backup_sharing.specs.Shared.{Sharers, Becomes, same_reserved, without_one}
use Rattle.backup_sharing.proofs.CountedLaws.{each_of, takes_at}
use Rattle.kept_rows.specs.declared.rows.KeptRows.{KeptRows}
use Rattle.kept_rows.specs.Standing.{CanBeHeld, CanGoFree, IsHeldBy, IsFreeBy, HasTurned, Reserves, shared_backup, reserves_on, of_class}

pub reserves_by_is : (class : Class) (l : Leg) → reserves_by (of_class class l) ≡ reserves_on l (shared_backup class l)
reserves_by_is Bare l = refl
reserves_by_is Shared l = refl
reserves_by_is Dual l = refl

-- ---- a backup that is among those that are counted

same-reserved : (r s : Reserved) → same_reserved r s ≡ true → r ≡ s
same-reserved r s h =
    let a = and_parts (same_members r.risk s.risk) (is_eq (slice_cmp nat_cmp r.taken.fibres s.taken.fibres)
    && (int_eq r.taken.units.lo s.taken.units.lo && int_eq r.taken.units.hi s.taken.units.hi)) h in
    let b = and_parts (is_eq (slice_cmp nat_cmp r.taken.fibres s.taken.fibres))
    (int_eq r.taken.units.lo s.taken.units.lo && int_eq r.taken.units.hi s.taken.units.hi) a.1 in
    let c = and_parts (int_eq r.taken.units.lo s.taken.units.lo) (int_eq r.taken.units.hi s.taken.units.hi) b.1 in
    let risk = same-members r.risk s.risk a.0 in
    let fibres = same-name r.taken.fibres s.taken.fibres b.0 in
    let lo = int_eq-same r.taken.units.lo s.taken.units.lo c.0 in
    let hi = int_eq-same r.taken.units.hi s.taken.units.hi c.1 in
    λ i. record {
      risk = risk i;
      taken = record { fibres = fibres i; units = record { lo = lo i; hi = hi i } };
    }

reserved-itself : (r : Reserved) → same_reserved r r ≡ true
reserved-itself r =
    and_from _ _ (same_itself r.risk) (and_from _ _ (names_equal.refl r.taken.fibres)
    (and_from _ _ (int_eq-of r.taken.units.lo r.taken.units.lo refl) (int_eq-of r.taken.units.hi r.taken.units.hi refl)))

among_counted : (r : Reserved) (rs : List Reserved) → 1 ≤ count_by (same_reserved r) rs → IsAmong r rs
among_counted r [] h = absurd (none h)
  where
    none : 1 ≤ 0 → ⊥
    none k = absurd (omega (arith, k))
among_counted r (s ∷ rs) h =
    by (same_reserved r s) refl (subst (λ (n : ℕ). 1 ≤ n) (count-cons (same_reserved r) s rs) h)
    (among_counted r rs)
  where
    by : (b : Bool) → same_reserved r s ≡ b → 1 ≤ cond b 1 0 + count_by (same_reserved r) rs →
        (1 ≤ count_by (same_reserved r) rs → IsAmong r rs) → IsAmong r (s ∷ rs)
    by true e k more = inl (same-reserved r s e)
    by false e k more = inr (more (omega (arith, k)))

-- ---- one backup

one_holds : (a : Bool) → a ≡ true → (n : ℕ) → n ≡ cond a 1 0 + 0 → n ≡ 1
one_holds true e n h = h
one_holds false e n h = cc

module _ (r : KeptRows) (x : Reserve) where
  count_one : (fibre : ℕ) (u : ℤ) → holds fibre u x.backup ≡ true → holders_among (x ∷ []) fibre u ≡ 1
  count_one fibre u h = one_holds (holds fibre u x.backup) h (holders_among (x ∷ []) fibre u)
      (count-cons (λ (y : Reserve). holds fibre u y.backup) x [])

  pub has_room : CanBeHeld r (x ∷ []) →
      at_each (λ fibre u. nat_lt (holders_in r.maps fibre u) 8192) (taken_of x.backup) ≡ true
  has_room can =
      each_of (λ fibre u. nat_lt (holders_in r.maps fibre u) 8192) (taken_of x.backup) (some_unit _ can.places.0.grid)
      (λ fibre u i p q.
      let one = count_one fibre u (takes_at (taken_of x.backup) fibre u i p q) in
      let room = can.room fibre u in
      lt-ltb (holders_in r.maps fibre u) 8192 (omega (arith, one, room)))

  pub has_some : CanGoFree r (x ∷ []) →
      at_each (λ fibre u. nat_le 1 (holders_in r.maps fibre u)) (taken_of x.backup) ≡ true
  has_some can =
      each_of (λ fibre u. nat_le 1 (holders_in r.maps fibre u)) (taken_of x.backup) (some_unit _ can.places.0.grid)
      (λ fibre u i p q.
      let one = count_one fibre u (takes_at (taken_of x.backup) fibre u i p q) in
      let some = can.some fibre u in
      le-leb 1 (holders_in r.maps fibre u) (omega (arith, one, some)))

  pub is_few : CanBeHeld r (x ∷ []) → length r.sharing.reserves < 8192
  is_few can = let few = can.few in omega (arith, few)

  pub is_among : CanGoFree r (x ∷ []) → IsAmong (reserved_of x) r.sharing.reserves
  is_among can =
      let test = same_reserved (reserved_of x) in
      let one : count_by test (reserved_of x ∷ []) ≡ 1 =
      one_holds (test (reserved_of x)) (reserved-itself (reserved_of x)) (count_by test (reserved_of x ∷ []))
      (count-cons test (reserved_of x) []) in
      let some = can.among test in
      among_counted (reserved_of x) r.sharing.reserves (omega (arith, one, some))

-- ---- the lists

pub turns_none : (rs : List Reserved) → Turns rs rs [] []
turns_none rs = record {
  rest = rs;
  before_is = λ test. let none : count_by test [] ≡ 0 = refl in omega arith;
  after_is = λ test. let none : count_by test [] ≡ 0 = refl in omega arith;
}

turns_in : (x : Reserved) (rs : List Reserved) → Turns rs (x ∷ rs) [] (x ∷ [])
turns_in x rs = record {
  rest = rs;
  before_is = λ test. let none : count_by test [] ≡ 0 = refl in omega arith;
  after_is = λ test.
      let one = count-cons test x [] in
      let more = count-cons test x rs in
      let none : count_by test [] ≡ 0 = refl in
      omega arith;
}

pub reserves_in : (before after : Sharers) (x : Reserved) → Becomes before after (x ∷ before.reserves) →
    Reserves before after [] (x ∷ [])
reserves_in before after x b = record {
  band = b.band;
  fibres = b.fibres;
  groups = b.groups;
  turns = subst (λ (rs : List Reserved). Turns before.reserves rs [] (x ∷ [])) (sym b.reserves_are)
      (turns_in x before.reserves);
}

pub reserves_out : (before after : Sharers) (x : Reserved) → Becomes before after (without_one x before.reserves) →
    Turns before.reserves after.reserves (x ∷ []) [] → Reserves before after (x ∷ []) []
reserves_out before after x b t = record { band = b.band; fibres = b.fibres; groups = b.groups; turns = t }

pub reserves_none : (s : Sharers) → Reserves s s [] []
reserves_none s = record { band = refl; fibres = refl; groups = refl; turns = turns_none s.reserves }

pub held_none : (r : KeptRows) → IsHeldBy r r []
held_none r = record {
  maps = record { band = refl; fibres = refl; lit_is = refl; holders_are = refl };
  sharing = reserves_none r.sharing;
}

pub free_none : (r : KeptRows) → IsFreeBy r r []
free_none r = record {
  maps = record { band = refl; fibres = refl; lit_is = refl; holders_are = refl };
  sharing = reserves_none r.sharing;
}

pub turned_none : (r : KeptRows) → HasTurned r r (record { lit_out = []; lit_in = []; held_out = []; held_in = [] })
turned_none r = record {
  maps = record { band = refl; fibres = refl; lit_is = refl; holders_are = refl };
  sharing = reserves_none r.sharing;
}
