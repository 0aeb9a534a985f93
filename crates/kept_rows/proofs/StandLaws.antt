-- Rows that stand for a state follow each event.
use Rattle.std.proofs.Common.{◌≡◌, refl, sym, ◌∙◌, ap, subst, ℕ, ◌+◌, ◌<◌, ◌≤◌, arith, pos, negsuc, ◌≤ℤ◌, Bool, true, false, cond, ◌&&◌, not, List, [], ◌∷◌, map, length, nat_eq, Some, None}
use Rattle.std.specs.Prelude.{count_by, int_le, nat_lt}
use Rattle.std.specs.List.{AllByRecursion, list_all}
use Rattle.std.proofs.lemmas.Bool.{and_parts, and_from, lt-ltb, ltb-true, eqb-true}
use Rattle.std.proofs.lemmas.Int.{ints}
use Rattle.eon_model.specs.Grid.{Band, Units, lies_in, span_of, lies_in_band, is_units}
use Rattle.eon_model.specs.Lists.{numbers_differ}
use Rattle.eon_model.specs.Sets.{members}
use Rattle.eon_model.specs.Services.{State, Holding}
use Rattle.eon_model.specs.Legal.{Setup, is_legal, Legal}
use Rattle.eon_model.specs.Listings.{lit_holdings}
use Rattle.eon_model.specs.Events.{Event, apply}
use Rattle.eon_model.specs.NetworkText.{is_setup}
use Rattle.eon_model.specs.Replay.{is_asked, can_follow}
use Rattle.eon_model.specs.Rows.{Taken, Reserved, Rows, Holders, changed_by, counts_among, reserves_for, rows_with, with_lit, without_lit, with_held, without_held}
use Rattle.eon_model.specs.RowLaws.{TakenInRange, ReservedInRange}
use Rattle.eon_model.specs.Occupied.{Reserve, RowsOf, is_taken, holders_among, reserves, rows_of, holders_of, taken_of, reserved_of}
use Rattle.eon_model.specs.Turnover.{Turns, turnover}
use Rattle.eon_model.proofs.BandLaws.{in_span}
use Rattle.eon_model.proofs.CountLaws.{state_counted, state_rows, lit_turned, held_turned}
use Rattle.eon_model.proofs.EventTurns.{event_turns}
use Rattle.eon_model.proofs.FreeLaws.{none_counted, count-cons}
use Rattle.eon_model.proofs.GridLaws.{int_le-le, le-int_le, lies_in-facts}
use Rattle.eon_model.proofs.LitOnce.{few_sharers}
use Rattle.eon_model.proofs.Members.{list_all-at, list_all-of, any-member}
use Rattle.eon_model.proofs.RowRanges.{lit_in_range, reserves_in_range}
use Rattle.eon_model.proofs.RowsLaws.{rows_turn, count_map, counts_out, counts_new}
use Rattle.eon_model.proofs.SetupFacts.{setup-facts}
use Rattle.eon_model.proofs.UnitLaws.{all_agree}
use Rattle.flex_grid.specs.Makes.{units_from}
use Rattle.spectrum_map.specs.Kept.{rows_in}
use Rattle.backup_sharing.specs.Shared.{IsThere}
use Rattle.backup_sharing.proofs.BarLaws.{member_of, in_members}
use Rattle.kept_rows.specs.declared.rows.KeptRows.{KeptRows}
use Rattle.kept_rows.specs.Standing.{StandsFor, MayTurn, HasTurned, IsPlace}

-- ---- what holds of all of a list holds of all of one that it counts

not_not : (b : Bool) → not (not b) ≡ b
not_not true = refl
not_not false = refl

none_more : (n m : ℕ) → n ≤ m → m ≡ 0 → n ≡ 0
none_more n m h e = omega (arith, h, e)

abbrev fails : {X : Type 0} → (X → Bool) → X → Bool
fails test x = not (test x)

pub all_counted : {X : Type 0} (test : X → Bool) (xs ys : List X) →
    ((check : X → Bool) → count_by check xs ≤ count_by check ys) → list_all test ys ≡ true → list_all test xs ≡ true
all_counted test xs ys fewer h =
    let none = none_more (count_by (fails test) xs) (count_by (fails test) ys) (fewer (fails test))
    (eqb-true (count_by (fails test) ys) 0 (none_counted (fails test) ys ∙ all_agree _ _ (λ x. not_not (test x)) ys ∙ h)) in
    sym (all_agree _ _ (λ x. not_not (test x)) xs) ∙ sym (none_counted (fails test) xs) ∙ ap (λ n. nat_eq n 0) none

all_of_recursion : {X : Type 0} (P : X → Type 0) (test : X → Bool) → ((x : X) → P x → test x ≡ true) → (xs : List X) →
    AllByRecursion P xs → list_all test xs ≡ true
all_of_recursion P test to [] a = refl
all_of_recursion P test to (x ∷ xs) a = and_from _ _ (to x a.0) (all_of_recursion P test to xs a.1)

recursion_of_all : {X : Type 0} (P : X → Type 0) (test : X → Bool) → ((x : X) → test x ≡ true → P x) → (xs : List X) →
    list_all test xs ≡ true → AllByRecursion P xs
recursion_of_all P test from [] a = tt
recursion_of_all P test from (x ∷ xs) a =
    let parts = and_parts (test x) (list_all test xs) a in
    (from x parts.0, recursion_of_all P test from xs parts.1)

pub length_counted : {X : Type 0} (xs : List X) → count_by (λ x. true) xs ≡ length xs
length_counted [] = refl
length_counted (x ∷ xs) =
    let more = length_counted xs in
    let one = count-cons (λ y. true) x xs in
    omega arith

-- ---- places, as tests

units_on_grid : (band : Band) → list_all is_units band ≡ true → (u : Units) → u.lo ≤ℤ u.hi → lies_in_band band u ≡ true →
    is_units u ≡ true
units_on_grid band parts u some h =
    let f = any-member (λ (part : Units). lies_in part u) band h in
    let part = f.0 in
    let a = and_parts (int_le (negsuc 4095) part.lo && int_le part.lo part.hi) (int_le part.hi (pos 4095))
    (list_all-at is_units band part parts f.1.0) in
    let b = and_parts (int_le (negsuc 4095) part.lo) (int_le part.lo part.hi) a.0 in
    let low = int_le-le (negsuc 4095) part.lo b.0 in
    let high = int_le-le part.hi (pos 4095) a.1 in
    let w = lies_in-facts part u f.1.1 in
    let w0 = w.0 in
    let w1 = w.1 in
    let least : negsuc 4095 ≤ℤ u.lo = omega (arith, ints) in
    let most : u.hi ≤ℤ pos 4095 = omega (arith, ints) in
    and_from _ _ (and_from _ _ (le-int_le (negsuc 4095) u.lo least) (le-int_le u.lo u.hi some)) (le-int_le u.hi (pos 4095) most)

module _ (setup : Setup) (r : KeptRows) (state : State) (s : StandsFor setup state r) where
  abbrev is_place : Taken → Bool
  is_place t =
      list_all (λ f. nat_lt f (length setup.network.fibres)) t.fibres
      && (numbers_differ t.fibres && (is_units t.units && lies_in (span_of setup.band) t.units))

  ranged_place : is_setup setup ≡ true → (t : Taken) → TakenInRange setup t → is_place t ≡ true
  ranged_place ok t a =
      and_from _ _ (all_of_recursion _ _ (λ f l. lt-ltb f (length setup.network.fibres) l) t.fibres a.fibres)
      (and_from _ _ a.once (and_from _ _ (units_on_grid setup.band (setup-facts setup ok).parts.units t.units a.some a.within)
      (in_span setup.band (setup-facts setup ok).parts t.units a.within)))

  place_of : (t : Taken) → is_place t ≡ true → IsPlace r.maps t
  place_of t h =
      let a = and_parts (list_all (λ f. nat_lt f (length setup.network.fibres)) t.fibres)
      (numbers_differ t.fibres && (is_units t.units && lies_in (span_of setup.band) t.units)) h in
      let b = and_parts (numbers_differ t.fibres) (is_units t.units && lies_in (span_of setup.band) t.units) a.1 in
      let c = and_parts (is_units t.units) (lies_in (span_of setup.band) t.units) b.1 in
      record {
        there = record {
          fibres = subst (λ (n : ℕ). AllByRecursion (λ f. f < n) t.fibres) (sym s.fibres)
              (recursion_of_all (λ f. f < length setup.network.fibres) (λ f. nat_lt f (length setup.network.fibres))
              (λ f l. ltb-true f (length setup.network.fibres) l) t.fibres a.0);
          once = b.0;
          units = subst (λ (w : Band). lies_in (span_of w) t.units ≡ true) (sym s.band) c.1;
        };
        grid = c.0;
      }

  abbrev groups_there : Reserved → Bool
  groups_there x =
      list_all (λ g. nat_lt g (length setup.network.fibres + length setup.network.groups)) (members x.risk)

  abbrev is_there : Reserved → Bool
  is_there x = is_place x.taken && groups_there x

  ranged_there : is_setup setup ≡ true → (x : Reserved) → ReservedInRange setup x → is_there x ≡ true
  ranged_there ok x a =
      and_from _ _ (ranged_place ok x.taken a.taken)
      (list_all-of (λ g. nat_lt g (length setup.network.fibres + length setup.network.groups)) (members x.risk)
      (λ g i. lt-ltb g _ (a.groups g (member_of x.risk g i))))

  there_of : (x : Reserved) → is_there x ≡ true → IsThere r.sharing x
  there_of x h =
      let a = and_parts (is_place x.taken) (groups_there x) h in
      let p = place_of x.taken a.0 in
      record {
        groups = λ g k. subst (λ (n : ℕ). g < n) (sym s.groups)
            (ltb-true g _ (list_all-at (λ g. nat_lt g (length setup.network.fibres + length setup.network.groups))
            (members x.risk) g a.1 (in_members x.risk g k)));
        fibres = subst (λ (n : ℕ). AllByRecursion (λ f. f < n) x.taken.fibres) (s.fibres ∙ sym s.sharing_fibres)
            p.there.fibres;
        once = p.there.once;
        units = subst (λ (w : Band). lies_in (span_of w) x.taken.units ≡ true) (s.band ∙ sym s.sharing_band)
            p.there.units;
      }

  module _ (ok : is_setup setup ≡ true) (near : State) (legal : Legal setup near) where
    places_among : (hs : List Holding) → ((check : Holding → Bool) → count_by check hs ≤ count_by check (lit_holdings near)) →
        AllByRecursion (λ h. IsPlace r.maps (taken_of h)) hs
    places_among hs fewer =
        recursion_of_all _ (λ h. is_place (taken_of h)) (λ h k. place_of (taken_of h) k) hs
        (all_counted (λ h. is_place (taken_of h)) hs (lit_holdings near) fewer
        (all_of_recursion _ (λ h. is_place (taken_of h)) (λ h a. ranged_place ok (taken_of h) a) (lit_holdings near)
        (lit_in_range setup ok near legal)))

    there_among : (xs : List Reserve) → ((check : Reserve → Bool) → count_by check xs ≤ count_by check (reserves near)) →
        list_all (λ x. is_there (reserved_of x)) xs ≡ true
    there_among xs fewer =
        all_counted (λ x. is_there (reserved_of x)) xs (reserves near) fewer
        (all_of_recursion _ (λ x. is_there (reserved_of x)) (λ x a. ranged_there ok (reserved_of x) a) (reserves near)
        (reserves_in_range setup ok near legal))

  held_places : (xs : List Reserve) → list_all (λ x. is_there (reserved_of x)) xs ≡ true →
      AllByRecursion (λ x. IsPlace r.maps (taken_of x.backup)) xs
  held_places xs h =
      recursion_of_all _ (λ x. is_there (reserved_of x)) (λ x k. place_of (taken_of x.backup)
      (and_parts (is_place (taken_of x.backup)) (groups_there (reserved_of x)) k).0) xs h

  held_there : (xs : List Reserve) → list_all (λ x. is_there (reserved_of x)) xs ≡ true →
      AllByRecursion (λ x. IsThere r.sharing (reserved_of x)) xs
  held_there xs h =
      recursion_of_all _ (λ x. is_there (reserved_of x)) (λ x k. there_of (reserved_of x) k) xs h

-- ---- the rows of the state

pub tells_rows : (setup : Setup) (state : State) (r : KeptRows) → StandsFor setup state r →
    RowsOf state (rows_in r.maps) (counts_among r.sharing.reserves)
tells_rows setup state r s = record {
  rows_are = (λ i. rows_with (s.lit i) (s.holders i)) ∙ sym (state_rows state);
  counts_are = (λ i fibre group u. s.reserves (reserves_for fibre group u) i) ∙ sym (state_counted state);
}

-- ---- an event

room_after : (before after out new : ℕ) → after + out ≡ before + new → after ≤ 8192 → before + new ≤ 8192 + out
room_after before after out new e few = omega (arith, e, few)

module _ (setup : Setup) (state : State) (e : Event) (legal : Legal setup state) (follows : can_follow setup state e ≡ true) where
  parts : (is_asked setup state e ≡ true) × Legal setup (apply setup.network state e)
  parts = and_parts (is_asked setup state e) (is_legal setup (apply setup.network state e)) follows

  pub may_turn : (r : KeptRows) → is_setup setup ≡ true → StandsFor setup state r →
      MayTurn r (turnover setup.network state e)
  may_turn r ok s =
      let after = apply setup.network state e in
      let t = turnover setup.network state e in
      let turn = rows_turn setup state e legal follows in
      let turns = event_turns setup state e legal parts.0 in
      let few = few_sharers setup after ok parts.1 in
      let out = there_among setup r state s ok state legal t.held_out (λ check. counts_out turns.1 check) in
      let new = there_among setup r state s ok after parts.1 t.held_in (λ check. counts_new turns.1 check) in
      record {
        lit_out = record {
          places = places_among setup r state s ok state legal t.lit_out (λ check. counts_out turns.0 check);
          lit = λ fibre u k. (λ i. s.lit i fibre u) ∙ turn.out_lit fibre u k;
          once = turn.out_once;
        };
        places = places_among setup r state s ok after parts.1 t.lit_in (λ check. counts_new turns.0 check);
        dark = λ fibre u k. (λ i. s.lit i fibre u && not (is_taken t.lit_out fibre u)) ∙ turn.in_dark fibre u k;
        once = turn.in_once;
        held_out = record {
          places = held_places setup r state s t.held_out out;
          there = held_there setup r state s t.held_out out;
          some = λ fibre u. subst (λ (h : Holders). holders_among t.held_out fibre u ≤ h fibre u) (sym s.holders)
              (turn.out_held fibre u);
          among = λ test. among r s t.held_out test (counts_out turns.1 (λ x. test (reserved_of x)));
        };
        held_places = held_places setup r state s t.held_in new;
        there = held_there setup r state s t.held_in new;
        few = lengths r s turns.1 few.0;
        room = λ fibre u. subst (λ (h : Holders). h fibre u + holders_among t.held_in fibre u
            ≤ 8192 + holders_among t.held_out fibre u) (sym s.holders)
            (room_after (holders_of state fibre u) (holders_of after fibre u) (holders_among t.held_out fibre u)
            (holders_among t.held_in fibre u) (turn.held fibre u) (few.1 fibre u));
      }
    where
      among : (r : KeptRows) → StandsFor setup state r → (xs : List Reserve) (test : Reserved → Bool) →
          count_by (λ x. test (reserved_of x)) xs ≤ count_by (λ x. test (reserved_of x)) (reserves state) →
          count_by test (map reserved_of xs) ≤ count_by test r.sharing.reserves
      among r s xs test h =
          let a = count_map test reserved_of xs in
          let b = count_map test reserved_of (reserves state) in
          let c = s.reserves test in
          omega (arith, a, b, c, h)

      lengths : (r : KeptRows) → StandsFor setup state r →
          let t = turnover setup.network state e in
          let after = apply setup.network state e in
          Turns (reserves state) (reserves after) t.held_out t.held_in → length (reserves after) ≤ 8192 →
          length r.sharing.reserves + length t.held_in ≤ 8192 + length t.held_out
      lengths r s turns few =
          let t = turnover setup.network state e in
          let after = apply setup.network state e in
          let a = length_counted r.sharing.reserves in
          let b = s.reserves (λ x. true) in
          let c = count_map (λ x. true) reserved_of (reserves state) in
          let d = turns.before_is (λ x. true) in
          let f = turns.after_is (λ x. true) in
          let g = length_counted t.held_out in
          let h = length_counted t.held_in in
          let k = length_counted (reserves after) in
          omega arith

  pub stands_after : (before after : KeptRows) → StandsFor setup state before →
      HasTurned before after (turnover setup.network state e) →
      StandsFor setup (apply setup.network state e) after
  stands_after before after s h =
      let t = turnover setup.network state e in
      let rows : rows_in before.maps ≡ rows_of state = (tells_rows setup state before s).rows_are in
      record {
        band = h.maps.band ∙ s.band;
        fibres = h.maps.fibres ∙ s.fibres;
        sharing_band = h.sharing.band ∙ s.sharing_band;
        sharing_fibres = h.sharing.fibres ∙ s.sharing_fibres;
        groups = h.sharing.groups ∙ s.groups;
        lit = h.maps.lit_is
            ∙ ap (λ (r : Rows). (changed_by with_lit (map taken_of t.lit_in)
            (changed_by without_lit (map taken_of t.lit_out) r)).lit) rows
            ∙ sym (lit_turned setup state e legal follows);
        holders = h.maps.holders_are
            ∙ ap (λ (k : Holders). changed_by with_held (map (λ (x : Reserve). taken_of x.backup) t.held_in)
            (changed_by without_held (map (λ (x : Reserve). taken_of x.backup) t.held_out) k)) s.holders
            ∙ sym (held_turned setup state e legal follows);
        reserves = λ test.
            let turns = (event_turns setup state e legal parts.0).1 in
            let a = h.sharing.turns.before_is test in
            let b = h.sharing.turns.after_is test in
            let c = s.reserves test in
            let d = count_map test reserved_of (reserves state) in
            let f = count_map test reserved_of (reserves (apply setup.network state e)) in
            let g = turns.before_is (λ x. test (reserved_of x)) in
            let k = turns.after_is (λ x. test (reserved_of x)) in
            let l = count_map test reserved_of t.held_out in
            let m = count_map test reserved_of t.held_in in
            omega arith;
      }

-- ---- units of the grid

pub grid_range : (u : Units) → is_units u ≡ true → (negsuc 4095 ≤ℤ u.lo) × ((u.lo ≤ℤ u.hi) × (u.hi ≤ℤ pos 4095))
grid_range u h =
    let a = and_parts (int_le (negsuc 4095) u.lo && int_le u.lo u.hi) (int_le u.hi (pos 4095)) h in
    let b = and_parts (int_le (negsuc 4095) u.lo) (int_le u.lo u.hi) a.0 in
    (int_le-le (negsuc 4095) u.lo b.0, (int_le-le u.lo u.hi b.1, int_le-le u.hi (pos 4095) a.1))

pub made_of : (u s : Units) → units_from s.lo s.hi ≡ Some u → is_units s ≡ true → u ≡ s
made_of u s e valid =
    let same : Some u ≡ Some s = sym e ∙ ap (λ b. cond b (Some s) None) valid in
    cc
