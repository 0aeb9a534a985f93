-- Which events can follow a legal state, told by what the code asks.
use Rattle.std.proofs.Common.{◌≡◌, refl, sym, ◌∙◌, ap, ℤ, Bool, true, false, ◌&&◌, not, Option, Some, None}
use Rattle.std.specs.Prelude.{is_some}
use Rattle.std.specs.Option.{option_map, option_map_or}
use Rattle.std.specs.List.{list_all}
use Rattle.std.specs.Ordering.{int_eq}
use Rattle.std.proofs.lemmas.Bool.{and_parts}
use Rattle.eon_model.specs.declared.Part.TheVariants.{Work}
use Rattle.eon_model.specs.Grid.{units_of, moved_to, lies_in_band, is_band, is_slot}
use Rattle.eon_model.specs.Names.{Name}
use Rattle.eon_model.specs.Services.{Path, Service, State, drift_units, is_moving, service_of, working_holding, owned, all_legs}
use Rattle.eon_model.specs.Legal.{Setup, Legal, is_shared, is_legal, is_clear}
use Rattle.eon_model.specs.Changes.{change_service, with_leg, drifting_to}
use Rattle.eon_model.specs.Occupied.{may_light}
use Rattle.eon_model.specs.Changes.{without_service}
use Rattle.eon_model.specs.Replies.{Reply}
use Rattle.eon_model.specs.Events.{Event, apply}
use Rattle.eon_model.specs.Replay.{service_allows, may_push, may_refit, can_follow}
use Rattle.eon_model.specs.Step.{Outcome, Change, or_else, ◌otherwise◌, ◌when◌, for_service, first_clash, push}
use Rattle.eon_model.proofs.LegalLaws.{Legal-without}
use Rattle.eon_model.proofs.ShrinkLaws.{Legal-finished, Legal-undone, hull_has}
use Rattle.eon_model.proofs.GridLaws.{lies_in_band_within}
use Rattle.eon_model.proofs.ClashRows.{clash_clear}
use Rattle.eon_model.proofs.RowRules.{pushed-stands, pushed-clear}
use Rattle.make_rule.specs.Refits.{may_back}
use Rattle.make_rule.proofs.RefitSteps.{refit-stands}
use Rattle.plan_core.specs.Following.{is_change, back_may_move}

-- ---- a change after which every state is legal

and_true : (a b : Bool) → b ≡ true → (a && b) ≡ a
and_true true b e = e
and_true false b e = refl

pub leave-follows : (setup : Setup) (state : State) (name : Name) → Legal setup state →
    is_some (service_of state name) ≡ can_follow setup state (Event.Leave name)
leave-follows setup state name legal =
    sym (and_true (is_some (service_of state name)) _ (Legal-without setup name state legal))

pub finish-follows : (setup : Setup) (state : State) (name : Name) → Legal setup state →
    service_allows state name is_moving ≡ can_follow setup state (Event.Finish name)
finish-follows setup state name legal =
    sym (and_true (service_allows state name is_moving) _ (Legal-finished setup name state legal))

pub back-follows : (setup : Setup) (state : State) (name : Name) → Legal setup state →
    service_allows state name is_moving ≡ can_follow setup state (Event.Back name)
back-follows setup state name legal =
    sym (and_true (service_allows state name is_moving) _ (Legal-undone setup name state legal))

-- ---- push

-- the answer by what was found
abbrev pushed : Name → ℤ → ℤ → Bool → Bool → Bool → Option Name → Outcome
pushed name n from busy same within clash =
    Reply.Busy name when busy
    otherwise Reply.Same name when same
    otherwise Reply.Band Work when not within
    otherwise option_map Reply.Clash clash
    otherwise Change (Event.Push name n) (Reply.Pushed name from n)

push-by : (name : Name) (n from : ℤ) (busy same stands within : Bool) (clash : Option Name) (legal : Bool) →
    (within ≡ true → stands ≡ true) → (busy ≡ false → legal ≡ (within && not (is_some clash))) →
    ((not busy && not same && stands) && legal) ≡ is_change (pushed name n from busy same within clash)
unfolding or_else
push-by name n from true same stands within clash legal a b = refl
push-by name n from false true stands within clash legal a b = refl
push-by name n from false false stands false clash legal a b = ap (λ l. stands && l) (b refl) ∙ none stands
  where
    none : (s : Bool) → (s && false) ≡ false
    none true = refl
    none false = refl
push-by name n from false false stands true None legal a b = (λ i. a refl i && b refl i)
push-by name n from false false stands true (Some other) legal a b = (λ i. a refl i && b refl i)

module _ (setup : Setup) (state : State) (name : Name) (s : Service) (legal : Legal setup state)
    (found : service_of state name ≡ Some s) where
  hull-legal : (n : ℤ) (within : Bool) → lies_in_band setup.band (drift_units s.leg.work.slot (Some n)) ≡ within →
      is_moving s ≡ false →
      is_legal setup (change_service name (with_leg (drifting_to n)) state)
      ≡ (within && not (is_some (first_clash state (owned name s.class (drifting_to n s.leg)))))
  hull-legal n true e rest =
      pushed-stands setup state name s legal found rest n
      ∙ (λ i. e i && may_light (without_service name state) (working_holding (drifting_to n s.leg)))
      ∙ sym (pushed-clear setup state name s legal found rest n e)
      ∙ twice (list_all (is_clear (owned name s.class (drifting_to n s.leg))) (all_legs (without_service name state)))
      ∙ ap not (sym (clash_clear state (owned name s.class (drifting_to n s.leg))))
    where
      twice : (b : Bool) → b ≡ not (not b)
      twice true = refl
      twice false = refl
  hull-legal n false e rest =
      pushed-stands setup state name s legal found rest n
      ∙ (λ i. e i && may_light (without_service name state) (working_holding (drifting_to n s.leg)))

pub push-follows : (setup : Setup) (state : State) (name : Name) (n : ℤ) → Legal setup state →
    can_follow setup state (Event.Push name n) ≡ is_change (push setup state name n)
push-follows setup state name n legal = by (service_of state name) refl
  where
    by : (o : Option Service) → service_of state name ≡ o →
        (option_map_or (may_push setup n) o false
        && is_legal setup (change_service name (with_leg (drifting_to n)) state))
        ≡ is_change (for_service o name (λ s. pushed name n s.leg.work.slot.n (is_moving s) (int_eq n s.leg.work.slot.n)
        (lies_in_band setup.band (drift_units s.leg.work.slot (Some n)))
        (first_clash state (owned name s.class (drifting_to n s.leg)))))
    by None e = refl
    by (Some s) e =
        push-by name n s.leg.work.slot.n (is_moving s) (int_eq n s.leg.work.slot.n)
        (lies_in_band setup.band (units_of (moved_to s.leg.work.slot n)))
        (lies_in_band setup.band (drift_units s.leg.work.slot (Some n)))
        (first_clash state (owned name s.class (drifting_to n s.leg)))
        (is_legal setup (change_service name (with_leg (drifting_to n)) state))
        (λ h. lies_in_band_within setup.band (drift_units s.leg.work.slot (Some n))
        (units_of (moved_to s.leg.work.slot n)) h (hull_has setup s.leg.work (Some n)))
        (hull-legal setup state name s legal e n (lies_in_band setup.band (drift_units s.leg.work.slot (Some n))) refl)

-- ---- refit

refit-by : (busy shared moved lies stands legal : Bool) → (stands ≡ true → lies ≡ true) → (busy ≡ false → legal ≡ stands) →
    (((not busy && shared) && (moved && lies)) && legal) ≡ ((not busy && shared) && (moved && stands))
refit-by true shared moved lies stands legal a b = refl
refit-by false false moved lies stands legal a b = refl
refit-by false true false lies stands legal a b = refl
refit-by false true true lies true legal a b = (λ i. a refl i && b refl i)
refit-by false true true lies false legal a b = ap (λ l. lies && l) (b refl) ∙ none lies
  where
    none : (s : Bool) → (s && false) ≡ false
    none true = refl
    none false = refl

bare-by : (may legal : Bool) → ((may && false) && legal) ≡ (may && false)
bare-by true legal = refl
bare-by false legal = refl

pub refit-none : (setup : Setup) (state : State) (name : Name) (n : ℤ) → service_of state name ≡ None →
    false ≡ can_follow setup state (Event.Refit name n)
refit-none setup state name n e = sym (ap (λ o. option_map_or (may_refit setup n) o false
    && is_legal setup (apply setup.network state (Event.Refit name n))) e)

pub refit-follows : (setup : Setup) (state : State) (name : Name) (n : ℤ) (s : Service) → is_band setup.band ≡ true →
    Legal setup state → service_of state name ≡ Some s →
    ((not (is_moving s) && is_shared s.class) && back_may_move state setup.band name n s)
    ≡ can_follow setup state (Event.Refit name n)
refit-follows setup state name n s ok legal found =
    sym (ap (λ o. option_map_or (may_refit setup n) o false
    && is_legal setup (apply setup.network state (Event.Refit name n))) found
    ∙ by s.leg.back refl)
  where
    after : State
    after = apply setup.network state (Event.Refit name n)

    by : (back : Option Path) → s.leg.back ≡ back →
        ((not (is_moving s) && is_shared s.class
        && option_map_or (λ b. not (int_eq n b.slot.n) && lies_in_band setup.band (units_of (moved_to b.slot n))) back false)
        && is_legal setup after)
        ≡ ((not (is_moving s) && is_shared s.class)
        && option_map_or (λ b. not (int_eq n b.slot.n) && may_back state setup.band name s.class s.leg b n) back false)
    by None e = bare-by (not (is_moving s) && is_shared s.class) (is_legal setup after)
    by (Some b) e =
        refit-by (is_moving s) (is_shared s.class) (not (int_eq n b.slot.n))
        (lies_in_band setup.band (units_of (moved_to b.slot n))) (may_back state setup.band name s.class s.leg b n)
        (is_legal setup after)
        (λ h. (and_parts (is_slot (moved_to b.slot n)) (lies_in_band setup.band (units_of (moved_to b.slot n)))
        (and_parts (is_slot (moved_to b.slot n) && lies_in_band setup.band (units_of (moved_to b.slot n)))
        (not (is_some (first_clash state (owned name s.class (record s.leg { back = Some (record b { slot = moved_to b.slot n }) }))))) h).0).1)
        (λ rest. refit-stands setup state name s legal found rest b e ok n)
