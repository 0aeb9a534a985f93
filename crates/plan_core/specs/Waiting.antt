-- What a change that was decided needs, and when it can be made.
use Rattle.std.specs.Prelude.{◌≡◌, ℕ, ◌≤◌, ⊤, IsTrue, IfSome}
use Rattle.eon_model.specs.Network.{Network}
use Rattle.eon_model.specs.Services.{Path, Leg, State}
use Rattle.eon_model.specs.Legal.{Setup}
use Rattle.eon_model.specs.Events as events
use Rattle.eon_model.specs.Events.{leg_told, service_told}
use Rattle.eon_model.specs.Step.{Outcome, Change}
use Rattle.eon_model.specs.EventText.{is_event}
use Rattle.eon_model.specs.Replay.{can_follow}
use Rattle.leg_state.specs.Parts.{AreFibreNumbers}
use Rattle.journal_record.specs.declared.event.Event.{Event}
use Rattle.journal_record.specs.Told.{event_told}
use Rattle.plan_core.specs.declared.decision.Decision.{Decision}
use Rattle.plan_core.specs.declared.proposal.Prepared.{Prepared}
use Rattle.plan_core.specs.declared.proposal.Prepared.TheVariants as prepared
use Rattle.plan_core.specs.declared.proposal.Proposal.{Proposal}
use Rattle.plan_core.specs.Told.{event_of, outcome_told}

-- the numbers of the path's fibres can be kept
abbrev pub IsNumbered : Path → Type 0
IsNumbered p = AreFibreNumbers p.route.fibres

-- those of the working path, and of the backup path where there is one
pub record IsNumberedLeg (l : Leg) : Type 0 where
  pub work : IsNumbered l.work
  pub back : IfSome l.back IsNumbered

-- what an event needs that only memory can give: the service or the leg that it tells, on this network
abbrev pub needed : Network → events.Event → Prepared
needed net (events.Event.Enter text) = prepared.Service (service_told net text)
needed net (events.Event.Make name class text) = prepared.Leg (leg_told net text)
needed net _ = prepared.Nothing

-- what a command needs, whatever it comes to; a reply alone needs nothing
abbrev pub needed_for : Network → Outcome → Prepared
needed_for net (Change e reply) = needed net e
needed_for net _ = prepared.Nothing

-- what the decision needs is there, and nothing else
abbrev pub IsPrepared : Network → Decision → Prepared → Type 0
IsPrepared net d q = q ≡ needed_for net (outcome_told d)

-- there is room for what enters
abbrev pub HasRoom : ℕ → Prepared → Type 0
HasRoom spare prepared.Nothing = Unit {0}
HasRoom spare (prepared.Service s) = 1 ≤ spare
HasRoom spare (prepared.Leg l) = Unit {0}

-- the change that a command comes to, if there is one, is in range
abbrev pub IfChange : Outcome → Type 0
IfChange (Change e reply) = IsTrue (is_event e)
IfChange _ = ⊤

-- the change is in range and can follow the state, and what it needs is there, with room for it
pub record CanBeMade (setup : Setup) (state : State) (spare : ℕ) (q : Prepared) (e : Event) : Type 0 where
  pub in_range : IsTrue (is_event (event_told e))
  pub follows : IsTrue (can_follow setup state (event_told e))
  pub is_needed : q ≡ needed setup.network (event_told e)
  pub room : HasRoom spare q

-- the change, if there is one, is in range and can follow the state, and what it needs is there
pub record CanBeHeld (setup : Setup) (state : State) (p : Proposal) : Type 0 where
  pub in_range : IfSome (event_of p.decision) (λ e. IsTrue (is_event (event_told e)))
  pub follows : IfSome (event_of p.decision) (λ e. IsTrue (can_follow setup state (event_told e)))
  pub is_prepared : IsPrepared setup.network p.decision p.prepared
