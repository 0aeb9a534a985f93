-- What counts of 0 tell, and how rows and counts follow what is added and taken.
use Rattle.std.proofs.Common.{◌≡◌, refl, sym, ◌∙◌, ap, ℕ, zero, suc, ◌+◌, ◌-◌, ◌≤◌, arith, ℤ, pos, ◌+ℤ◌, ◌≤ℤ◌, Bool, true, false, cond, ◌&&◌, ◌||◌, not, List, [], ◌∷◌, ◌++◌, map, find, Option, Some}
use Rattle.std.specs.Prelude.{◌==◌, count_by, int_le}
use Rattle.std.specs.Option.{option_to_list}
use Rattle.std.specs.List.{AllByRecursion, list_all, list_any, flat_map}
use Rattle.std.proofs.lemmas.Int.{ints}
use Rattle.std.proofs.lemmas.List.Folds.{list_all-map}
use Rattle.eon_model.specs.Grid.{Band, span_of, unit_count}
use Rattle.eon_model.specs.Names.{Name}
use Rattle.eon_model.specs.Lists.{integers_from}
use Rattle.eon_model.specs.Sets.{NumberSet, members}
use Rattle.eon_model.specs.Route.{Route}
use Rattle.eon_model.specs.Services.{Path, Leg, Service, State, Holding, owned_legs, service_of, is_moving, holding_of}
use Rattle.eon_model.specs.Legal.{Setup, is_shared, Legal}
use Rattle.eon_model.specs.Changes.{without_service}
use Rattle.eon_model.specs.Events.{Event, apply}
use Rattle.eon_model.specs.Replay.{can_follow}
use Rattle.eon_model.specs.Candidates.{SizedRoute}
use Rattle.eon_model.specs.Rows.{Taken, Reserved, Rows, Counts, Holders, takes, reserves_for, counts_among, may_stand_beside, with_lit, without_lit, with_held, without_held, with_reserved, without_reserved, rows_with, changed_by, is_unshared}
use Rattle.eon_model.specs.FirstInRows.{channel_stands, least_free, least_channel}
use Rattle.eon_model.specs.Occupied.{Reserve, is_reserved_by, sharers_among, holders_among, reserves_by, reserves, is_lit, sharers_of, taken_of, reserved_of, rows_of, counts_of, holders_of, leg_of_service}
use Rattle.eon_model.specs.Turnover.{turnover}
use Rattle.eon_model.specs.RowLaws.{HasUnit}
use Rattle.eon_model.proofs.OrderLaws.{AllOf}
use Rattle.eon_model.proofs.GridLaws.{le-int_le}
use Rattle.eon_model.proofs.ClashLaws.{at_rest}
use Rattle.eon_model.proofs.UnitLaws.{all_agree, everywhere_agree}
use Rattle.eon_model.proofs.FreeLaws.{count-cons, unshared, unshared_with, SomeReserve}
use Rattle.eon_model.proofs.RowsLaws.{rows_turn, held_counted, any_map, count_map}
use Rattle.eon_model.proofs.OwnRows.{own_out}

-- ---- counts of 0

-- a route of these fibres, as far as rows and counts look at it
abbrev route_for : NumberSet → List ℕ → Route
route_for risk fibres = record { fibres = fibres; km = 0; risk = risk }

abbrev holding_for : NumberSet → Taken → Holding
holding_for risk t = record { route = route_for risk t.fibres; units = t.units }

abbrev reserve_for : Reserved → Reserve
reserve_for r = record { work = route_for r.risk []; backup = holding_for r.risk r.taken }

have_units : (rs : List Reserved) → AllByRecursion (λ (r : Reserved). HasUnit r.taken) rs →
    AllOf SomeReserve (map reserve_for rs)
have_units [] a = tt
have_units (r ∷ rs) a = (a.0, have_units rs a.1)

pub no_sharers : (rs : List Reserved) (risk : NumberSet) (t : Taken) → HasUnit t →
    AllByRecursion (λ (r : Reserved). HasUnit r.taken) rs →
    is_unshared (counts_among rs) risk t ≡ list_all (may_stand_beside risk t) rs
no_sharers rs risk t some all =
    everywhere_agree (λ fibre u. list_all (λ group. counts_among rs fibre group u == 0) (members risk))
    (λ fibre u. list_all (λ group. sharers_among (map reserve_for rs) fibre group u == 0) (members risk))
    (λ fibre u. all_agree (λ group. counts_among rs fibre group u == 0)
    (λ group. sharers_among (map reserve_for rs) fibre group u == 0)
    (λ group. ap (λ n. n == 0) (sym (count_map (is_reserved_by fibre group u) reserve_for rs))) (members risk))
    (holding_for risk t)
    ∙ unshared (map reserve_for rs) (route_for risk []) (holding_for risk t) some (have_units rs all)
    ∙ list_all-map (unshared_with (route_for risk []) (holding_for risk t)) reserve_for rs

-- ---- one of them left out

count-around : {X : Type 0} (test : X → Bool) (before : List X) (x : X) (after : List X) →
    count_by test (before ++ x ∷ after) ≡ cond (test x) 1 0 + count_by test (before ++ after)
count-around test [] x after = count-cons test x after
count-around test (y ∷ before) x after =
    let a = count-cons test y (before ++ x ∷ after) in
    let b = count-around test before x after in
    let c = count-cons test y (before ++ after) in
    omega arith

taken_out : (b : Bool) (c n : ℕ) → c ≡ cond b 1 0 + n → cond b (c - 1) c ≡ n
taken_out true c n e = omega arith
taken_out false c n e = omega arith

pub no_other_sharers : (before after : List Reserved) (own : Reserved) (risk : NumberSet) (t : Taken) → HasUnit t →
    AllByRecursion (λ (r : Reserved). HasUnit r.taken) (before ++ after) →
    is_unshared (without_reserved own (counts_among (before ++ own ∷ after))) risk t
    ≡ list_all (may_stand_beside risk t) (before ++ after)
no_other_sharers before after own risk t some all =
    ap (λ (k : Counts). is_unshared k risk t) (λ i fibre group u. taken_out (reserves_for fibre group u own)
    (counts_among (before ++ own ∷ after) fibre group u) (counts_among (before ++ after) fibre group u)
    (count-around (reserves_for fibre group u) before own after) i)
    ∙ no_sharers (before ++ after) risk t some all

-- ---- the counts of a state

pub state_counted : (state : State) → counts_of state ≡ counts_among (map reserved_of (reserves state))
state_counted state = λ i fibre group u. sym (count_map (reserves_for fibre group u) reserved_of (reserves state)) i

pub state_rows : (state : State) → rows_of state ≡ rows_with (is_lit state) (holders_of state)
state_rows state = λ i. record { lit = is_lit state; held = λ fibre u. held_counted state fibre u i }

module _ (setup : Setup) (state : State) (name : Name) (s : Service) (b : Path) (legal : Legal setup state)
    (found : service_of state name ≡ Some s) (rest : is_moving s ≡ false) (back : s.leg.back ≡ Some b)
    (shared : is_shared s.class ≡ true) where
  own_reserve : flat_map reserves_by (owned_legs s)
      ≡ record { work = s.leg.work.route; backup = holding_of b } ∷ []
  own_reserve =
      ap (λ (o : Option Leg). flat_map reserves_by (map (leg_of_service s) (s.leg ∷ option_to_list o)))
      (at_rest s rest).1
      ∙ ap (λ (c : Bool). map (λ h. reserve h) (cond c (map holding_of (option_to_list s.leg.back)) []) ++ []) shared
      ∙ ap (λ (o : Option Path). map (λ h. reserve h) (map holding_of (option_to_list o)) ++ []) back
    where
      reserve : Holding → Reserve
      reserve h = record { work = s.leg.work.route; backup = h }

  one_counted : (fibre group : ℕ) (u : ℤ) → sharers_of state fibre group u
      ≡ cond (is_reserved_by fibre group u (record { work = s.leg.work.route; backup = holding_of b })) 1 0
      + sharers_of (without_service name state) fibre group u
  one_counted fibre group u =
      let r : Reserve = record { work = s.leg.work.route; backup = holding_of b } in
      let e = (own_out setup state name s legal found).shared fibre group u in
      let c : sharers_among (flat_map reserves_by (owned_legs s)) fibre group u
      ≡ cond (is_reserved_by fibre group u r) 1 0 + sharers_among [] fibre group u =
      ap (λ (rs : List Reserve). sharers_among rs fibre group u) own_reserve
      ∙ count-cons (is_reserved_by fibre group u) r [] in
      let none : sharers_among [] fibre group u ≡ 0 = refl in
      omega arith

  pub own_taken_out : counts_of (without_service name state)
      ≡ without_reserved (record { risk = s.leg.work.route.risk; taken = taken_of (holding_of b) }) (counts_of state)
  own_taken_out = λ i fibre group u. sym (taken_out
      (is_reserved_by fibre group u (record { work = s.leg.work.route; backup = holding_of b }))
      (sharers_of state fibre group u) (sharers_of (without_service name state) fibre group u)
      (one_counted fibre group u)) i

-- ---- rows and counts that are changed step by step

lit_by_all : (ts : List Taken) (rows : Rows) (fibre : ℕ) (u : ℤ) →
    (changed_by with_lit ts rows).lit fibre u ≡ (rows.lit fibre u || list_any (takes fibre u) ts)
lit_by_all [] rows fibre u = same (rows.lit fibre u)
  where
    same : (a : Bool) → a ≡ (a || false)
    same true = refl
    same false = refl
lit_by_all (t ∷ ts) rows fibre u =
    lit_by_all ts (with_lit t rows) fibre u
    ∙ regroup (rows.lit fibre u) (takes fibre u t) (list_any (takes fibre u) ts)
  where
    regroup : (a b c : Bool) → ((a || b) || c) ≡ (a || (b || c))
    regroup true b c = refl
    regroup false b c = refl

dark_by_all : (ts : List Taken) (rows : Rows) (fibre : ℕ) (u : ℤ) →
    (changed_by without_lit ts rows).lit fibre u ≡ (rows.lit fibre u && not (list_any (takes fibre u) ts))
dark_by_all [] rows fibre u = same (rows.lit fibre u)
  where
    same : (a : Bool) → a ≡ (a && true)
    same true = refl
    same false = refl
dark_by_all (t ∷ ts) rows fibre u =
    dark_by_all ts (without_lit t rows) fibre u
    ∙ regroup (rows.lit fibre u) (takes fibre u t) (list_any (takes fibre u) ts)
  where
    regroup : (a b c : Bool) → ((a && not b) && not c) ≡ (a && not (b || c))
    regroup true true c = refl
    regroup true false c = refl
    regroup false b c = refl

-- a count that each step raises where a test passes
module _ {X Y : Type 0} (change : X → Y → Y) (at : Y → ℕ) (test : X → Bool) where
  raised : ((x : X) (y : Y) → at (change x y) ≡ cond (test x) (at y + 1) (at y)) → (xs : List X) (y : Y) →
      at (changed_by change xs y) ≡ at y + count_by test xs
  raised step [] y = let none : count_by test [] ≡ 0 = refl in omega arith
  raised step (x ∷ xs) y =
      let e = raised step xs (change x y) ∙ ap (λ n. n + count_by test xs) (step x y) in
      let c = count-cons test x xs in
      e ∙ by (test x) (at y) (count_by test xs) ∙ ap (λ n. at y + n) (sym c)
    where
      by : (b : Bool) (n k : ℕ) → cond b (n + 1) n + k ≡ n + (cond b 1 0 + k)
      by true n k = omega arith
      by false n k = omega arith

  -- or lowers
  lowered : ((x : X) (y : Y) → at (change x y) ≡ cond (test x) (at y - 1) (at y)) → (xs : List X) (y : Y) →
      at (changed_by change xs y) ≡ at y - count_by test xs
  lowered step [] y = let none : count_by test [] ≡ 0 = refl in omega arith
  lowered step (x ∷ xs) y =
      let e = lowered step xs (change x y) ∙ ap (λ n. n - count_by test xs) (step x y) in
      let c = count-cons test x xs in
      e ∙ by (test x) (at y) (count_by test xs) ∙ ap (λ n. at y - n) (sym c)
    where
      by : (b : Bool) (n k : ℕ) → cond b (n - 1) n - k ≡ n - (cond b 1 0 + k)
      by true n k = omega arith
      by false n k = omega arith

-- out first, and then in
balance : (before after out new : ℕ) → out ≤ before → after + out ≡ before + new → after ≡ (before - out) + new
balance before after out new h e = omega arith

module _ (setup : Setup) (state : State) (e : Event) (legal : Legal setup state)
    (follows : can_follow setup state e ≡ true) where
  pub lit_turned : (rows_of (apply setup.network state e)).lit
      ≡ (changed_by with_lit (map taken_of (turnover setup.network state e).lit_in)
      (changed_by without_lit (map taken_of (turnover setup.network state e).lit_out) (rows_of state))).lit
  lit_turned = λ i fibre u. at fibre u i
    where
      at : (fibre : ℕ) (u : ℤ) → (rows_of (apply setup.network state e)).lit fibre u
          ≡ (changed_by with_lit (map taken_of (turnover setup.network state e).lit_in)
          (changed_by without_lit (map taken_of (turnover setup.network state e).lit_out) (rows_of state))).lit fibre u
      at fibre u =
          let t = turnover setup.network state e in
          let dark = changed_by without_lit (map taken_of t.lit_out) (rows_of state) in
          (rows_turn setup state e legal follows).lit fibre u
          ∙ (λ i. (is_lit state fibre u && not (sym (any_map (takes fibre u) taken_of t.lit_out) i))
          || sym (any_map (takes fibre u) taken_of t.lit_in) i)
          ∙ ap (λ a. a || list_any (takes fibre u) (map taken_of t.lit_in))
          (sym (dark_by_all (map taken_of t.lit_out) (rows_of state) fibre u))
          ∙ sym (lit_by_all (map taken_of t.lit_in) dark fibre u)

  pub held_turned : holders_of (apply setup.network state e)
      ≡ changed_by with_held (map (λ (r : Reserve). taken_of r.backup) (turnover setup.network state e).held_in)
      (changed_by without_held (map (λ (r : Reserve). taken_of r.backup) (turnover setup.network state e).held_out)
      (holders_of state))
  held_turned = λ i fibre u. at fibre u i
    where
      at : (fibre : ℕ) (u : ℤ) → holders_of (apply setup.network state e) fibre u
          ≡ changed_by with_held (map (λ (r : Reserve). taken_of r.backup) (turnover setup.network state e).held_in)
          (changed_by without_held (map (λ (r : Reserve). taken_of r.backup) (turnover setup.network state e).held_out)
          (holders_of state)) fibre u
      at fibre u =
          let t = turnover setup.network state e in
          let turn = rows_turn setup state e legal follows in
          let out = map (λ (r : Reserve). taken_of r.backup) t.held_out in
          let new = map (λ (r : Reserve). taken_of r.backup) t.held_in in
          balance (holders_of state fibre u) (holders_of (apply setup.network state e) fibre u)
          (holders_among t.held_out fibre u) (holders_among t.held_in fibre u) (turn.out_held fibre u) (turn.held fibre u)
          ∙ (λ i. (holders_of state fibre u
          - sym (count_map (takes fibre u) (λ (r : Reserve). taken_of r.backup) t.held_out) i)
          + sym (count_map (takes fibre u) (λ (r : Reserve). taken_of r.backup) t.held_in) i)
          ∙ ap (λ n. n + count_by (takes fibre u) new)
          (sym (lowered without_held (λ (h : Holders). h fibre u) (takes fibre u) (λ x y. refl) out (holders_of state)))
          ∙ sym (raised with_held (λ (h : Holders). h fibre u) (takes fibre u) (λ x y. refl) new
          (changed_by without_held out (holders_of state)))

  pub counts_turned : counts_of (apply setup.network state e)
      ≡ changed_by with_reserved (map reserved_of (turnover setup.network state e).held_in)
      (changed_by without_reserved (map reserved_of (turnover setup.network state e).held_out) (counts_of state))
  counts_turned = λ i fibre group u. at fibre group u i
    where
      at : (fibre group : ℕ) (u : ℤ) → counts_of (apply setup.network state e) fibre group u
          ≡ changed_by with_reserved (map reserved_of (turnover setup.network state e).held_in)
          (changed_by without_reserved (map reserved_of (turnover setup.network state e).held_out)
          (counts_of state)) fibre group u
      at fibre group u =
          let t = turnover setup.network state e in
          let turn = rows_turn setup state e legal follows in
          let out = map reserved_of t.held_out in
          let new = map reserved_of t.held_in in
          balance (counts_of state fibre group u) (counts_of (apply setup.network state e) fibre group u)
          (sharers_among t.held_out fibre group u) (sharers_among t.held_in fibre group u)
          (turn.out_shared fibre group u) (turn.shared fibre group u)
          ∙ (λ i. (counts_of state fibre group u
          - sym (count_map (reserves_for fibre group u) reserved_of t.held_out) i)
          + sym (count_map (reserves_for fibre group u) reserved_of t.held_in) i)
          ∙ ap (λ n. n + count_by (reserves_for fibre group u) new)
          (sym (lowered without_reserved (λ (k : Counts). k fibre group u) (reserves_for fibre group u) (λ x y. refl)
          out (counts_of state)))
          ∙ sym (raised with_reserved (λ (k : Counts). k fibre group u) (reserves_for fibre group u) (λ x y. refl) new
          (changed_by without_reserved out (counts_of state)))

-- ---- centres from a unit on

next_from : (from a : ℤ) → from ≤ℤ a → from ≤ℤ (a +ℤ pos 1)
next_from from a h = omega (arith, ints)

find_from : (from : ℤ) (test : ℤ → Bool) (a : ℤ) (n : ℕ) → from ≤ℤ a →
    find (λ v. int_le from v && test v) (integers_from a n) ≡ find test (integers_from a n)
find_from from test a zero h = refl
find_from from test a (suc n) h = λ i. cond (le-int_le from a h i && test a) (Some a)
    (find_from from test (a +ℤ pos 1) n (next_from from a h) i)

pub from_below : (band : Band) (rows : Rows) (r : SizedRoute) (from : ℤ) → from ≤ℤ (span_of band).lo →
    least_free rows r.route.fibres r.m band from ≡ least_channel band rows r
from_below band rows r from h =
    find_from from (channel_stands band rows r.route.fibres r.m) (span_of band).lo (unit_count (span_of band)) h
