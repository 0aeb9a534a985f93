-- The cases of `make`.
use Rattle.std.proofs.Common.{◌≡◌, refl, sym, ◌∙◌, ap, subst, ℕ, zero, suc, arith, Bool, true, false, List, length, find, slice_get, Option, Some, None, not, nat_eq}
use Rattle.std.specs.Prelude.{IfSome}
use Rattle.std.specs.Option.{option_map, option_and_then, option_to_list}
use Rattle.std.proofs.lemmas.Bool.{eqb-true, false_from_ne_true}
use Rattle.eon_model.specs.declared.Class.{Class}
use Rattle.eon_model.specs.Names.{Name}
use Rattle.eon_model.specs.Network.{fibre_of}
use Rattle.eon_model.specs.Services.{Leg, Service, State, is_moving, service_of}
use Rattle.eon_model.specs.Legal.{Setup, Legal}
use Rattle.eon_model.specs.NetworkText.{is_setup}
use Rattle.eon_model.specs.Candidates.{Candidate, candidates}
use Rattle.eon_model.specs.FirstFit.{Placement, leg_placed, first_placement}
use Rattle.eon_model.specs.Changes.{change_service, with_next}
use Rattle.eon_model.specs.PlanTextLaws.{is_listed}
use Rattle.eon_model.specs.Replies.{Reply}
use Rattle.eon_model.specs.Events.{leg_told, leg_text_of}
use Rattle.eon_model.specs.Step.{Outcome, Say, or_else, ◌when◌, ◌otherwise◌, or_blocked, is_fibre, for_service, make_candidates, make}
use Rattle.eon_model.proofs.ChangeLaws.{new_leg_fits, first_leg-IsFirst}
use Rattle.eon_model.proofs.ToldLaws.{fits-told}
use Rattle.eon_model.proofs.SetupFacts.{setup-facts}
use Rattle.admission.specs.FirstClear.{first_clear}
use Rattle.admission.specs.Laws.{FirstForSecondLeg}
use Rattle.admission.specs.Told.{answer_for, placement_at, IsPlaceOn}
use Rattle.admission.specs.declared.placing.Found.{Found}
use Rattle.admission.specs.declared.placing.Admit.TheVariants as said
use Rattle.make_rule.specs.declared.answers.Make.{Make}
use Rattle.make_rule.specs.declared.answers.Make.TheVariants as made
use Rattle.make_rule.specs.Told.{started, made_on, IfStarted}

-- ---- what was found

pub no-pairs : (n : ℕ) (found : Option Placement) → answer_for n found ≡ said.NoRoute → n ≡ 0
no-pairs zero found h = refl
no-pairs (suc n) None h = cc
no-pairs (suc n) (Some p) h = cc

suc-not : (n : ℕ) → nat_eq (suc n) 0 ≡ false
suc-not n = false_from_ne_true (nat_eq (suc n) 0) (λ e. let z = eqb-true (suc n) 0 e in omega arith)

pub blocked-pairs : (n k : ℕ) (found : Option Placement) → answer_for n found ≡ said.Blocked k →
    (nat_eq n 0 ≡ false) × ((n ≡ k) × (found ≡ None))
blocked-pairs zero k found h = cc
blocked-pairs (suc n) k None h = (suc-not n, (cc, refl))
blocked-pairs (suc n) k (Some p) h = cc

pub placed-pairs : (n : ℕ) (f : Found) (found : Option Placement) → answer_for n found ≡ said.Placed f →
    nat_eq n 0 ≡ false
placed-pairs zero f found h = cc
placed-pairs (suc n) f found h = suc-not n

module _ (name : Name) (class : Class) (pairs : List Candidate) (found : Option Placement) where
  by_cause : (n : ℕ) (none : Bool) (leg : Option Leg) → nat_eq (length pairs) 0 ≡ none → length pairs ≡ n →
      option_map leg_placed found ≡ leg →
      or_else (Reply.NoRoute when none) (or_blocked n leg (started name class)) ≡ made_on name class pairs found
  by_cause n none leg a b c =
      sym (λ i. or_else (Reply.NoRoute when (a i)) (or_blocked (b i) (c i) (started name class)))

  pub made-none : answer_for (length pairs) found ≡ said.NoRoute → Say Reply.NoRoute ≡ made_on name class pairs found
  unfolding or_else
  made-none h = by_cause (length pairs) true (option_map leg_placed found)
      (ap (λ (n : ℕ). nat_eq n 0) (no-pairs (length pairs) found h)) refl refl

  pub made-blocked : (k : ℕ) → answer_for (length pairs) found ≡ said.Blocked k →
      Say (Reply.Blocked k) ≡ made_on name class pairs found
  unfolding or_else
  made-blocked k h =
      let b = blocked-pairs (length pairs) k found h in
      by_cause k false None b.0 b.1.0 (ap (option_map leg_placed) b.1.1)

  pub made-started : (f : Found) (leg : Leg) (of_class : Class) → answer_for (length pairs) found ≡ said.Placed f →
      option_map leg_placed found ≡ Some leg → of_class ≡ class → started name of_class leg ≡ made_on name class pairs found
  unfolding or_else
  made-started f leg of_class h first is =
      ap (λ (c : Class). started name c leg) is
      ∙ by_cause (length pairs) false (Some leg) (placed-pairs (length pairs) f found h) refl first

pub placed-leg : (first found : Option Placement) (pairs ps : List Candidate) (f : Found) (c : Candidate) (leg : Leg) →
    first ≡ found → ps ≡ pairs → IsPlaceOn first ps f → slice_get pairs f.pair ≡ Some c →
    leg ≡ leg_placed (placement_at c f) → option_map leg_placed found ≡ Some leg
placed-leg first found pairs ps f c leg same_first same on at is =
    ap (option_map leg_placed)
    (sym same_first ∙ on.is_first c (ap (λ (xs : List Candidate). slice_get xs f.pair) same ∙ at))
    ∙ ap Some (sym is)

-- ---- all of it

-- the answer by what was found
abbrev made_by : Name → Option Name → Bool → Class → List Candidate → Option Placement → Outcome
made_by name unknown busy class pairs first =
    option_map Reply.Unknown unknown
    otherwise Reply.Busy name when busy
    otherwise made_on name class pairs first

module _ (setup : Setup) (state : State) (name : Name) (avoid : Option Name) (s : Service)
    (found : service_of state name ≡ Some s) where
  abbrev pub unknown_fibre : Option Name
  unknown_fibre = find (λ fibre. not (is_fibre setup.network fibre)) (option_to_list avoid)

  abbrev pub second : Leg → State
  second l = change_service name (with_next l) state

  make-is : (unknown : Option Name) (busy : Bool) →
      find (λ fibre. not (is_fibre setup.network fibre)) (option_to_list avoid) ≡ unknown → is_moving s ≡ busy →
      made_by name unknown busy s.class (make_candidates setup s avoid)
      (first_placement setup (make_candidates setup s avoid) (λ l. change_service name (with_next l) state))
      ≡ make setup state name avoid
  make-is unknown busy a b =
      sym (ap (λ o. for_service o name (λ (v : Service).
      made_by name unknown_fibre (is_moving v) v.class (make_candidates setup v avoid)
      (first_placement setup (make_candidates setup v avoid) (λ l. change_service name (with_next l) state)))) found
      ∙ (λ i. made_by name (a i) (b i) s.class (make_candidates setup s avoid)
      (first_placement setup (make_candidates setup s avoid) (λ l. change_service name (with_next l) state))))

  pub make-unknown : (fibre : Name) →
      find (λ fibre. not (is_fibre setup.network fibre)) (option_to_list avoid) ≡ Some fibre →
      Say (Reply.Unknown fibre) ≡ make setup state name avoid
  unfolding or_else
  make-unknown fibre a = make-is (Some fibre) (is_moving s) a refl

  pub make-busy : find (λ fibre. not (is_fibre setup.network fibre)) (option_to_list avoid) ≡ None →
      is_moving s ≡ true → Say (Reply.Busy name) ≡ make setup state name avoid
  unfolding or_else
  make-busy a b = make-is None true a b

  module _ (law : FirstForSecondLeg) (ok : is_setup setup ≡ true) (legal : Legal setup state)
      (known : find (λ fibre. not (is_fibre setup.network fibre)) (option_to_list avoid) ≡ None)
      (rest : is_moving s ≡ false) (number : Option ℕ) (pairs : List Candidate)
      (numbered : number ≡ option_and_then (fibre_of setup.network) avoid)
      (are : pairs ≡ candidates setup s.src s.dst s.rate s.class number) where
    pairs-are : pairs ≡ make_candidates setup s avoid
    pairs-are = are ∙ ap (candidates setup s.src s.dst s.rate s.class) numbered

    first-is : first_clear state setup.band s.class pairs (Some s.leg)
        ≡ first_placement setup (make_candidates setup s avoid) (λ l. change_service name (with_next l) state)
    first-is =
        ap (λ (ps : List Candidate). first_clear state setup.band s.class ps (Some s.leg)) pairs-are
        ∙ law setup state name s (option_and_then (fibre_of setup.network) avoid) (setup-facts setup ok).band legal found rest

    pub make-tried : (o : Outcome) →
        o ≡ made_on name s.class pairs (first_clear state setup.band s.class pairs (Some s.leg)) →
        o ≡ make setup state name avoid
    unfolding or_else
    make-tried o h =
        h ∙ (λ i. made_on name s.class (pairs-are i) (first-is i)) ∙ make-is None false known rest

    -- the second leg is what its event tells
    pub second-told : (leg : Leg) →
        option_map leg_placed (first_clear state setup.band s.class pairs (Some s.leg)) ≡ Some leg →
        leg_told setup.network (leg_text_of leg) ≡ leg
    second-told leg on =
        let one = first_leg-IsFirst setup (make_candidates setup s avoid) second leg
        (sym (ap (option_map leg_placed) first-is) ∙ on) in
        fits-told setup s leg (new_leg_fits setup state name s leg legal found one.legal) one.still

-- what is known of the service of this name, if there is one
pub listed-one : (setup : Setup) (state : State) (name : Name) (s : Service) →
    IfSome (service_of state name) (λ v. is_listed setup v ≡ true) → service_of state name ≡ Some s →
    is_listed setup s ≡ true
listed-one setup state name s all found =
    subst (λ (o : Option Service). IfSome o (λ v. is_listed setup v ≡ true)) found all

-- what holds of the second leg may be weakened
pub started-more : (m : Make) (P Q : Leg → Type 0) → ((l : Leg) → P l → Q l) → IfStarted m P → IfStarted m Q
started-more (made.Unknown other) P Q more h = tt
started-more made.Busy P Q more h = tt
started-more made.NoRoute P Q more h = tt
started-more (made.Blocked pairs) P Q more h = tt
started-more (made.Started class leg) P Q more h = more leg h
