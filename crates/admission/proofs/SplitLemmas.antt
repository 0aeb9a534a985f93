-- A leg may stand exactly where its working path fits and its backup fits, each by itself.
use Rattle.std.proofs.Common.{◌≡◌, refl, sym, ◌∙◌, ap, Bool, true, false, ◌&&◌, ◌||◌, not, List, [], ◌∷◌, Option, Some, None}
use Rattle.std.specs.List.{list_all}
use Rattle.std.specs.Option.{option_to_list}
use Rattle.eon_model.specs.declared.Class.{Class}
use Rattle.eon_model.specs.Grid.{Band}
use Rattle.eon_model.specs.Services.{Path, Leg, Service, State, collides, holding_of, working_holding, backup_holdings, legs_of}
use Rattle.eon_model.proofs.ClearLaws.{collides_comm}
use Rattle.eon_model.proofs.UnitLaws.{all_agree, all_both}
use Rattle.admission.specs.FirstClear.{stands_in, is_beside, may_share, are_clear, is_clear_with, may_stand}
use Rattle.admission.specs.Clear.{work_is_clear_of, meets_backup_of, back_is_clear_of, work_is_clear_of_service, back_is_clear_of_service, work_is_free, back_is_free, work_fits, back_fits}

-- ---- tests of all

and_true : (a : Bool) → (a && true) ≡ a
and_true true = refl
and_true false = refl

-- a test with each of at most one, at each element
all_option : {X Y : Type 0} (test : Y → X → Bool) (o : Option Y) (xs : List X) →
    list_all (λ x. list_all (λ y. test y x) (option_to_list o)) xs
    ≡ list_all (λ y. list_all (test y) xs) (option_to_list o)
all_option test None [] = refl
all_option test None (x ∷ xs) = all_option test None xs
all_option test (Some y) xs =
    all_agree (λ x. test y x && true) (test y) (λ x. and_true (test y x)) xs ∙ sym (and_true (list_all (test y) xs))

-- the same beside a test of the element
all_split : {X Y : Type 0} (whole one : X → Bool) (test : Y → X → Bool) (o : Option Y) →
    ((x : X) → whole x ≡ (one x && list_all (λ y. test y x) (option_to_list o))) → (xs : List X) →
    list_all whole xs ≡ (list_all one xs && list_all (λ y. list_all (test y) xs) (option_to_list o))
all_split whole one test o h xs =
    all_agree whole (λ x. one x && list_all (λ y. test y x) (option_to_list o)) h xs
    ∙ all_both one (λ x. list_all (λ y. test y x) (option_to_list o)) xs
    ∙ ap (λ b. list_all one xs && b) (all_option test o xs)

-- ---- one leg

-- a leg at rest
abbrev pub leg_of : Path → Option Path → Leg
leg_of w back = record { work = w; to = None; back = back }

bare : (c d r : Bool) → d ≡ c → (((not c && r) && (not d && true)) && true) ≡ ((not c && r) && true)
bare true d r e = refl
bare false true true e = cc
bare false false true e = refl
bare false d false e = refl

backed : (c d r p q any share : Bool) → d ≡ c → q ≡ p →
    (((not c && r) && (not d && (not q && true))) && (not (any || false) || share))
    ≡ ((not c && r) && ((not p && (not any || share)) && true))
backed true d r p q any share e f = refl
backed false true r p q any share e f = cc
backed false false false p q any share e f = refl
backed false false true true true any share e f = refl
backed false false true true false any share e f = cc
backed false false true false true any share e f = cc
backed false false true false false true true e f = refl
backed false false true false false true false e f = refl
backed false false true false false false share e f = refl

module _ (class : Class) (w : Path) (own : Bool) (other : Class) where
  -- between the leg and another, of its own service or not
  clear_split : (back : Option Path) (q : Leg) →
      are_clear own class (leg_of w back) other q
      ≡ (work_is_clear_of (holding_of w) q
      && list_all (λ b. back_is_clear_of own class w.route (holding_of b) other q) (option_to_list back))
  clear_split None q =
      bare (collides (holding_of w) (working_holding q)) (collides (working_holding q) (holding_of w))
      (list_all (λ k. not (collides (holding_of w) k)) (backup_holdings q))
      (collides_comm (working_holding q) (holding_of w))
  clear_split (Some b) q =
      backed (collides (holding_of w) (working_holding q)) (collides (working_holding q) (holding_of w))
      (list_all (λ k. not (collides (holding_of w) k)) (backup_holdings q))
      (collides (holding_of b) (working_holding q)) (collides (working_holding q) (holding_of b))
      (meets_backup_of (holding_of b) q) (may_share own class w.route other q.work.route)
      (collides_comm (working_holding q) (holding_of w)) (collides_comm (working_holding q) (holding_of b))

-- between the leg and a service
service_split : (class : Class) (own : Option Leg) (w : Path) (back : Option Path) (s : Service) →
    is_clear_with class own (leg_of w back) s
    ≡ (work_is_clear_of_service (holding_of w) s
    && list_all (λ b. back_is_clear_of_service (is_beside own s) class w.route (holding_of b) s) (option_to_list back))
service_split class own w back s =
    all_split (are_clear (is_beside own s) class (leg_of w back) s.class) (work_is_clear_of (holding_of w))
    (λ b q. back_is_clear_of (is_beside own s) class w.route (holding_of b) s.class q) back
    (clear_split class w (is_beside own s) s.class back) (legs_of s)

-- ---- all services, and the band

regroup_back : (a b c d : Bool) → ((a && (b && true)) && (c && (d && true))) ≡ ((a && c) && ((b && d) && true))
regroup_back false b c d = refl
regroup_back true true true d = refl
regroup_back true true false d = refl
regroup_back true false true d = refl
regroup_back true false false d = refl

regroup_bare : (a c : Bool) → ((a && true) && (c && true)) ≡ ((a && c) && true)
regroup_bare true c = refl
regroup_bare false c = refl

pub stand_split : (list : State) (band : Band) (class : Class) (own : Option Leg) (w : Path) (back : Option Path) →
    may_stand list band class own (leg_of w back)
    ≡ (work_fits list band w && list_all (back_fits list band own class w.route) (option_to_list back))
stand_split list band class own w back =
    ap (λ b. list_all (λ (p : Path). stands_in band p.slot) (w ∷ option_to_list back) && b)
    (all_split (is_clear_with class own (leg_of w back)) (work_is_clear_of_service (holding_of w))
    (λ b s. back_is_clear_of_service (is_beside own s) class w.route (holding_of b) s) back
    (service_split class own w back) list)
    ∙ by back
  where
    by : (o : Option Path) →
        (list_all (λ (p : Path). stands_in band p.slot) (w ∷ option_to_list o)
        && (work_is_free list (holding_of w)
        && list_all (λ b. back_is_free list own class w.route (holding_of b)) (option_to_list o)))
        ≡ (work_fits list band w && list_all (back_fits list band own class w.route) (option_to_list o))
    by None = regroup_bare (stands_in band w.slot) (work_is_free list (holding_of w))
    by (Some b) = regroup_back (stands_in band w.slot) (stands_in band b.slot)
        (work_is_free list (holding_of w)) (back_is_free list own class w.route (holding_of b))
