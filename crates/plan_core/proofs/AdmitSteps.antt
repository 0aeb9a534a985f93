-- The answer to `admit`, cause by cause.
use Rattle.std.proofs.Common.{◌≡◌, sym, ◌∙◌, ap, subst, ℕ, ◌<◌, true, false, List, [], ◌∷◌, ◌++◌, length, find, slice_get, Option, Some, None, not, nat_eq}
use Rattle.std.specs.Prelude.{is_some, nat_le}
use Rattle.std.specs.Option.{option_map, option_or}
use Rattle.std.proofs.lemmas.Bool.{not-false, leb-false}
use Rattle.eon_model.specs.declared.Class.{Class}
use Rattle.eon_model.specs.Grid.{Band}
use Rattle.eon_model.specs.Services.{Leg, Service, State, service_of}
use Rattle.eon_model.specs.Legal.{Setup, Legal}
use Rattle.eon_model.specs.NetworkText.{is_setup}
use Rattle.eon_model.specs.Candidates.{Candidate}
use Rattle.eon_model.specs.FirstFit.{Placement, leg_placed, first_placement}
use Rattle.eon_model.specs.Commands.{Demand, Command}
use Rattle.eon_model.specs.CommandText.{is_command}
use Rattle.eon_model.specs.EventText.{is_event}
use Rattle.eon_model.specs.Replies.{Reply}
use Rattle.eon_model.specs.Events as changes
use Rattle.eon_model.specs.Step.{Outcome, Say, Change, or_else, ◌when◌, or_blocked, is_node, unknown_in, new_service, enters, node_numbered, admit_candidates, admit}
use Rattle.eon_model.proofs.FindLaws.{find-none}
use Rattle.eon_model.proofs.FollowLaws.{number_in}
use Rattle.eon_model.proofs.ListTests.{no-some, none_mapped}
use Rattle.eon_model.proofs.ChangeLaws.{when-none, last_fits, first_leg-IsFirst}
use Rattle.eon_model.proofs.EventRangeLaws.{outcome-is_event}
use Rattle.eon_model.proofs.ToldLaws.{service-told}
use Rattle.eon_model.proofs.SetupFacts.{setup-facts}
use Rattle.admission.specs.FirstClear.{first_clear}
use Rattle.admission.specs.Laws.{FirstForNewService}
use Rattle.admission.specs.Told.{answer_for, placement_at, IsPlaceOn}
use Rattle.admission.specs.declared.placing.Found.{Found}
use Rattle.admission.specs.declared.placing.Admit.TheVariants as said
use Rattle.make_rule.proofs.MakeSteps.{no-pairs, blocked-pairs, placed-pairs}
use Rattle.plan_core.specs.Placing.{refusal}
use Rattle.plan_core.specs.Admitting.{tried, IsOnFirst}
use Rattle.plan_core.proofs.PlaceSteps.{first-cause, past-cause, or_else-or, or-none}

-- ---- what was found

no-route : (n : ℕ) → n ≡ 0 → (Reply.NoRoute when nat_eq n 0) ≡ Some Reply.NoRoute
no-route n e = ap (λ (k : ℕ). Reply.NoRoute when nat_eq k 0) e

some-route : (n : ℕ) → nat_eq n 0 ≡ false → (Reply.NoRoute when nat_eq n 0) ≡ None
some-route n e = ap (λ b. Reply.NoRoute when b) e

module _ (setup : Setup) (d : Demand) (pairs : List Candidate) (found : Option Placement) where
  pub tried-none : answer_for (length pairs) found ≡ said.NoRoute → Say Reply.NoRoute ≡ tried setup d pairs found
  tried-none h = first-cause (Reply.NoRoute when nat_eq (length pairs) 0) Reply.NoRoute _
      (no-route (length pairs) (no-pairs (length pairs) found h))

  pub tried-blocked : (k : ℕ) → answer_for (length pairs) found ≡ said.Blocked k →
      Say (Reply.Blocked k) ≡ tried setup d pairs found
  tried-blocked k h =
      let b = blocked-pairs (length pairs) k found h in
      (λ i. or_blocked (sym b.1.0 i) (option_map leg_placed (sym b.1.1 i))
      (λ l. Change (enters setup.network d l) (Reply.Admitted d.name)))
      ∙ past-cause (Reply.NoRoute when nat_eq (length pairs) 0) _ (some-route (length pairs) b.0)

  pub tried-leg : (list : State) (band b : Band) (class : Class) (ps : List Candidate) (f : Found) (c : Candidate)
      (leg : Leg) → b ≡ band → class ≡ d.class → ps ≡ pairs → IsPlaceOn (first_clear list b class ps None) ps f →
      slice_get pairs f.pair ≡ Some c → leg ≡ leg_placed (placement_at c f) →
      option_map leg_placed (first_clear list band d.class pairs None) ≡ Some leg
  tried-leg list band b class ps f c leg bd of_class same on at is =
      (λ i. option_map leg_placed (first_clear list (sym bd i) (sym of_class i) (sym same i) None))
      ∙ ap (option_map leg_placed) (on.is_first c (ap (λ (xs : List Candidate). slice_get xs f.pair) same ∙ at))
      ∙ ap Some (sym is)

  pub tried-enters : (f : Found) (leg : Leg) (s : Service) →
      answer_for (length pairs) found ≡ said.Placed f → option_map leg_placed found ≡ Some leg →
      s ≡ new_service setup.network d leg →
      Change (changes.Event.Enter (changes.enter_text_of s)) (Reply.Admitted d.name) ≡ tried setup d pairs found
  tried-enters f leg s h first is =
      ap (λ (x : Service). Change (changes.Event.Enter (changes.enter_text_of x)) (Reply.Admitted d.name)) is
      ∙ sym (ap (λ l. or_blocked (length pairs) l (λ l. Change (enters setup.network d l) (Reply.Admitted d.name))) first)
      ∙ past-cause (Reply.NoRoute when nat_eq (length pairs) 0) _ (some-route (length pairs) (placed-pairs (length pairs) f found h))

-- ---- all of it

-- what is known where the service is not refused
pub record MayAsk (setup : Setup) (state : State) (d : Demand) : Type 0 where
  pub src : node_numbered setup.network d.src < length setup.network.nodes
  pub dst : node_numbered setup.network d.dst < length setup.network.nodes
  pub fresh : service_of state d.name ≡ None
  pub room : length state < setup.services

pub may-ask : (setup : Setup) (state : State) (d : Demand) → refusal setup state d [] ≡ None → MayAsk setup state d
may-ask setup state d h =
    let net = setup.network in
    let node = unknown_in (is_node net) (d.src ∷ d.dst ∷ []) in
    let taken = Reply.Taken d.name when is_some (service_of state d.name) in
    let full = Reply.FullServices when nat_le setup.services (length state) in
    let a = or-none node (option_or taken full) h in
    let b = or-none taken full a.1 in
    let all = find-none (λ name. not (is_node net name)) (d.src ∷ d.dst ∷ [])
    (none_mapped Reply.Unknown (find (λ name. not (is_node net name)) (d.src ∷ d.dst ∷ [])) a.0) in
    record {
      src = number_in net.nodes d.src (not-false _ all.0);
      dst = number_in net.nodes d.dst (not-false _ all.1.0);
      fresh = no-some (service_of state d.name) (when-none (Reply.Taken d.name) (is_some (service_of state d.name)) b.0);
      room = leb-false setup.services (length state)
          (when-none Reply.FullServices (nat_le setup.services (length state)) b.1);
    }

module _ (setup : Setup) (state : State) (d : Demand) where
  pub admit-by : or_else (refusal setup state d [])
      (tried setup d (admit_candidates setup d) (first_placement setup (admit_candidates setup d)
      (λ l. state ++ new_service setup.network d l ∷ []))) ≡ admit setup state d
  admit-by =
      let net = setup.network in
      let node = unknown_in (is_node net) (d.src ∷ d.dst ∷ []) in
      let taken = Reply.Taken d.name when is_some (service_of state d.name) in
      let full = Reply.FullServices when nat_le setup.services (length state) in
      let rest = tried setup d (admit_candidates setup d) (first_placement setup (admit_candidates setup d)
      (λ l. state ++ new_service setup.network d l ∷ [])) in
      or_else-or node (option_or taken full) rest ∙ ap (or_else node) (or_else-or taken full rest)

  pub admit-refused : (r : Reply) → refusal setup state d [] ≡ Some r → Say r ≡ admit setup state d
  admit-refused r h = first-cause (refusal setup state d []) r _ h ∙ admit-by

  pub first-found : FirstForNewService → is_setup setup ≡ true → Legal setup state → refusal setup state d [] ≡ None →
      first_clear state setup.band d.class (admit_candidates setup d) None
      ≡ first_placement setup (admit_candidates setup d) (λ l. state ++ new_service setup.network d l ∷ [])
  first-found law ok legal none =
      let may = may-ask setup state d none in
      law setup state d None (setup-facts setup ok).band legal may.room may.fresh

  pub admit-tried : (o : Outcome) (pairs : List Candidate) → FirstForNewService → is_setup setup ≡ true →
      Legal setup state → refusal setup state d [] ≡ None → pairs ≡ admit_candidates setup d →
      o ≡ tried setup d pairs (first_clear state setup.band d.class pairs None) → o ≡ admit setup state d
  admit-tried o pairs law ok legal none is h =
      h ∙ ap (λ (ps : List Candidate). tried setup d ps (first_clear state setup.band d.class ps None)) is
      ∙ ap (tried setup d (admit_candidates setup d)) (first-found law ok legal none)
      ∙ past-cause (refusal setup state d []) _ none ∙ admit-by

  -- the service that enters is what its event tells
  pub admit-told : (s : Service) (pairs : List Candidate) → FirstForNewService → is_setup setup ≡ true →
      Legal setup state → refusal setup state d [] ≡ None → pairs ≡ admit_candidates setup d →
      IsOnFirst setup d (first_clear state setup.band d.class pairs None) s →
      changes.service_told setup.network (changes.enter_text_of s) ≡ s
  admit-told s pairs law ok legal none is on =
      let found = ap (λ (ps : List Candidate). first_clear state setup.band d.class ps None) is ∙ first-found law ok legal none in
      let one = first_leg-IsFirst setup (admit_candidates setup d) (λ l. state ++ new_service setup.network d l ∷ []) on.leg
      (sym (ap (option_map leg_placed) found) ∙ on.first_leg) in
      let after = subst (λ (x : Service). Legal setup (state ++ x ∷ [])) (sym on.is) one.legal in
      service-told setup s (last_fits setup state s after)
      (ap (λ (x : Service). x.leg.to) on.is ∙ one.still) (ap (λ (x : Service). x.next) on.is)

  -- its event is in range
  pub admit-is_event : (e : changes.Event) (r : Reply) → is_setup setup ≡ true → Legal setup state →
      is_command (Command.Admit d) ≡ true → Change e r ≡ admit setup state d → is_event e ≡ true
  admit-is_event e r ok legal right h = outcome-is_event setup state (Command.Admit d) e r ok legal right (sym h)
