-- What holds of decisions and of the change that waits.
use Rattle.std.proofs.Common.{◌≡◌, refl, sym, subst, ℕ, ◌≤◌, arith, true, false, Option, Some, None}
use Rattle.std.specs.Prelude.{Result, Ok, Err, IfOk, IfSome}
use Rattle.std.specs.declared.alloc.AllocError.{AllocError}
use Rattle.std.specs.Bool.{then_some}
use Rattle.std.proofs.lemmas.Bool.{and_parts, true≢false}
use Rattle.eon_model.specs.Network.{Network}
use Rattle.eon_model.specs.Services.{State}
use Rattle.eon_model.specs.Legal.{Setup, Legal, is_legal}
use Rattle.eon_model.specs.NetworkText.{is_setup}
use Rattle.eon_model.specs.Commands.{Command}
use Rattle.eon_model.specs.CommandText.{is_command}
use Rattle.eon_model.specs.Events as changes
use Rattle.eon_model.specs.Events.{apply}
use Rattle.eon_model.specs.Replay.{is_asked, can_follow}
use Rattle.eon_model.specs.Step as step
use Rattle.eon_model.specs.Answers.{Gives}
use Rattle.eon_model.specs.EventText.{is_event, is_state}
use Rattle.eon_model.proofs.EventRangeLaws.{outcome-is_event, apply-is_state}
use Rattle.eon_model.proofs.FollowLaws.{outcome-can_follow}
use Rattle.plan_core.specs.declared.decision.Decision.{Decision}
use Rattle.plan_core.specs.declared.decision.Decision.TheVariants.{Say, Change}
use Rattle.journal_record.specs.declared.event.Event.{Event}
use Rattle.journal_record.specs.Told.{event_told}
use Rattle.plan_core.specs.declared.proposal.Prepared.{Prepared}
use Rattle.plan_core.specs.declared.proposal.Prepared.TheVariants as prepared
use Rattle.plan_core.specs.declared.proposal.Proposal.{Proposal}
use Rattle.plan_core.specs.Told.{event_of, outcome_told, answer_of}
use Rattle.plan_core.specs.Waiting.{needed, IsPrepared, HasRoom, CanBeMade, CanBeHeld}
use Rattle.plan_core.specs.Seen.{IsKept}
use Rattle.plan_core.specs.Following.{brings_leg}
use Rattle.plan_core.proofs.ToldLegLaws.{from_some}

-- ---- a change that can be made

-- the state after it is legal
after-Legal : (setup : Setup) (state : State) (spare : ℕ) (q : Prepared) (e : Event) →
    CanBeMade setup state spare q e → Legal setup (apply setup.network state (event_told e))
after-Legal setup state spare q e can =
    (and_parts (is_asked setup state (event_told e)) (is_legal setup (apply setup.network state (event_told e)))
    can.follows).1

-- ---- what waits

-- with as much room as before, or more
room-more : (spare room : ℕ) (q : Prepared) → spare ≤ room → HasRoom spare q → HasRoom room q
room-more spare room prepared.Nothing low h = tt
room-more spare room (prepared.Service s) low h = omega arith
room-more spare room (prepared.Leg l) low h = tt

waits-more : (setup : Setup) (state : State) (spare room : ℕ) (q : Prepared) (w : Option Event) → spare ≤ room →
    IfSome w (CanBeMade setup state spare q) → IfSome w (CanBeMade setup state room q)
waits-more setup state spare room q None low h = tt
waits-more setup state spare room q (Some e) low h =
    record { in_range = h.in_range; follows = h.follows; is_needed = h.is_needed; room = room-more spare room q low h.room }

pub still-IsKept : (setup : Setup) (before after : State) (spare room : ℕ) (q : Prepared) (w : Option Event) →
    IsKept setup before spare q w → after ≡ before → spare ≤ room → IsKept setup after room q w
still-IsKept setup before after spare room q w kept same low = record {
  in_range = kept.in_range;
  named = rw same kept.named;
  legal = rw same kept.legal;
  waits = rw same (waits-more setup before spare room q w low kept.waits);
}

waits-held : (setup : Setup) (state : State) (room : ℕ) (d : Decision) (q : Prepared) →
    IfSome (event_of d) (λ e. is_event (event_told e) ≡ true) →
    IfSome (event_of d) (λ e. can_follow setup state (event_told e) ≡ true) → IsPrepared setup.network d q →
    HasRoom room q → IfSome (event_of d) (CanBeMade setup state room q)
waits-held setup state room (Say r) q range follows for enough = tt
waits-held setup state room (Change e r) q range follows for enough =
    record { in_range = range; follows = follows; is_needed = for; room = enough }

-- the machine is kept where the list is as before and there is room for what waits now
pub held-IsKept : (setup : Setup) (before after : State) (spare room : ℕ) (q : Prepared) (w waiting : Option Event)
    (p : Proposal) → IsKept setup before spare q w → after ≡ before → CanBeHeld setup before p →
    HasRoom room p.prepared → waiting ≡ event_of p.decision → IsKept setup after room p.prepared waiting
held-IsKept setup before after spare room q w waiting p kept same can enough is = record {
  in_range = kept.in_range;
  named = rw same kept.named;
  legal = rw same kept.legal;
  waits = rw (same, is) (waits-held setup before room p.decision p.prepared can.in_range can.follows can.is_prepared enough);
}

-- what waits can be made
pub waiting-IsKept : (setup : Setup) (state : State) (spare : ℕ) (q p : Prepared) (w : Option Event) (e : Event) →
    IsKept setup state spare q w → w ≡ Some e → p ≡ q → IsKept setup state spare p (Some e)
waiting-IsKept setup state spare q p w e kept is same = record {
  in_range = kept.in_range;
  named = kept.named;
  legal = kept.legal;
  waits = rw same (subst (λ (o : Option Event). IfSome o (CanBeMade setup state spare q)) is kept.waits);
}

-- the list that it is made to, on each network on which it needs no more, is the state after its event
pub made-applied : (setup : Setup) (before after : State) (spare : ℕ) (q : Prepared) (e : Event) →
    IsKept setup before spare q (Some e) →
    ((net : Network) → q ≡ needed net (event_told e) → after ≡ apply net before (event_told e)) →
    after ≡ apply setup.network before (event_told e)
made-applied setup before after spare q e kept made = made setup.network kept.waits.is_needed

-- once it was made, none waits
pub applied-IsKept : (setup : Setup) (before after : State) (spare room : ℕ) (q now : Prepared)
    (waiting : Option Event) (e : Event) → IsKept setup before spare q (Some e) →
    ((net : Network) → q ≡ needed net (event_told e) → after ≡ apply net before (event_told e)) → waiting ≡ None →
    IsKept setup after room now waiting
applied-IsKept setup before after spare room q now waiting e kept made none = record {
  in_range = kept.in_range;
  named = subst (λ (l : State). is_state l ≡ true) (sym (made-applied setup before after spare q e kept made))
      (apply-is_state setup.network before (event_told e) kept.waits.in_range kept.named);
  legal = subst (λ (l : State). Legal setup l) (sym (made-applied setup before after spare q e kept made))
      (after-Legal setup before spare q e kept.waits);
  waits = rw none tt;
}

-- ---- what is followed

-- an event that can follow, for which all that it needs is there, is one that waits to be made
pub followed-IsKept : (setup : Setup) (before after : State) (spare room : ℕ) (q now : Prepared) (w : Option Event)
    (e : Event) → IsKept setup before spare q w → after ≡ before → is_event (event_told e) ≡ true →
    Some now ≡ then_some (can_follow setup before (event_told e)) (needed setup.network (event_told e)) →
    HasRoom room now → IsKept setup after room now (Some e)
followed-IsKept setup before after spare room q now w e kept same range can enough =
    let is = from_some (can_follow setup before (event_told e)) (needed setup.network (event_told e)) now can in
    record {
      in_range = kept.in_range;
      named = rw same kept.named;
      legal = rw same kept.legal;
      waits = rw same (record { in_range = range; follows = is.0; is_needed = is.1; room = enough });
    }

-- an event that brings no leg needs nothing
pub needs-nothing : (net : Network) (e : changes.Event) → brings_leg e ≡ false → needed net e ≡ prepared.Nothing
needs-nothing net (changes.Event.Enter text) h = absurd (true≢false h)
needs-nothing net (changes.Event.Leave name) h = refl
needs-nothing net (changes.Event.Push name to) h = refl
needs-nothing net (changes.Event.Finish name) h = refl
needs-nothing net (changes.Event.Back name) h = refl
needs-nothing net (changes.Event.Make name class text) h = absurd (true≢false h)
needs-nothing net (changes.Event.Refit name n) h = refl
needs-nothing net (changes.Event.Bind digest) h = refl

-- ---- what is decided

-- it is an answer that the planner gives
pub told-Gives : (setup : Setup) (state : State) (d : Decision) (o : step.Outcome) → outcome_told d ≡ o →
    Gives setup state o (answer_of d)
told-Gives setup state (Say r) o h = subst (λ (t : step.Outcome). Gives setup state t (answer_of (Say r))) h refl
told-Gives setup state (Change e r) o h =
    subst (λ (t : step.Outcome). Gives setup state t (answer_of (Change e r))) h refl

-- the change of a command can follow the state
follows-by : (setup : Setup) (state : State) (c : Command) (d : Decision) → is_setup setup ≡ true →
    is_command c ≡ true → Legal setup state → outcome_told d ≡ step.outcome_of setup state c →
    IfSome (event_of d) (λ e. can_follow setup state (event_told e) ≡ true)
follows-by setup state c (Say r) ok w legal h = tt
follows-by setup state c (Change e r) ok w legal h =
    outcome-can_follow setup state c (event_told e) _ ok w legal (sym h)

-- and is in range
pub decided-in_range : (setup : Setup) (state : State) (c : Command) (d : Decision) → is_setup setup ≡ true →
    is_command c ≡ true → Legal setup state → outcome_told d ≡ step.outcome_of setup state c →
    IfSome (event_of d) (λ e. is_event (event_told e) ≡ true)
decided-in_range setup state c (Say r) ok w legal h = tt
decided-in_range setup state c (Change e r) ok w legal h =
    outcome-is_event setup state c (event_told e) _ ok legal w (sym h)

pub proposed-CanBeHeld : (setup : Setup) (state : State) (c : Command) (p : Proposal) → is_setup setup ≡ true →
    is_command c ≡ true → Legal setup state → outcome_told p.decision ≡ step.outcome_of setup state c →
    IsPrepared setup.network p.decision p.prepared → CanBeHeld setup state p
proposed-CanBeHeld setup state c p ok w legal is for =
    record { in_range = decided-in_range setup state c p.decision ok w legal is; follows = follows-by setup state c p.decision ok w legal is; is_prepared = for }

-- what holds of the decision that was proposed holds of the one that is answered
pub of-held : (P : Decision → Type 0) (r : Result Decision AllocError) (d : Decision) → IfOk r (λ x. x ≡ d) → P d →
    IfOk r P
of-held P (Ok x) d is h = subst P (sym is) h
of-held P (Err e) d is h = tt
