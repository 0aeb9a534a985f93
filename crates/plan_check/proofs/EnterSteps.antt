-- The service of a list's line enters, or does not.
use Rattle.std.proofs.Common.{◌≡◌, refl, sym, ◌∙◌, ap, subst, Bool, true, false, cond, ◌&&◌, not, length, nat_lt, ℕ, Option, Some, None, arith}
use Rattle.std.specs.Prelude.{is_some}
use Rattle.std.specs.Option.{option_map}
use Rattle.std.proofs.lemmas.Bool.{and_parts, and_from, ltb-true, lt-ltb, false≢true}
use Rattle.eon_model.specs.Names.{is_name}
use Rattle.eon_model.specs.Network.{Network}
use Rattle.eon_model.specs.Services.{State, service_of}
use Rattle.eon_model.specs.Legal.{Setup, fits, is_legal}
use Rattle.eon_model.specs.CommandText.{is_rate}
use Rattle.eon_model.specs.Events.{PathText, LegText, EnterText, Event, apply, path_told, path_text_of, leg_told, leg_text_of, service_told}
use Rattle.eon_model.specs.EventText.{is_leg_text, has_backup_for, is_enter_text}
use Rattle.eon_model.specs.NetworkText.{is_setup}
use Rattle.eon_model.specs.PlanTexts.{ServiceLine, is_service_line}
use Rattle.eon_model.specs.PlanReadings.{service_entered, knows_names, entered, ListOf, ListFault, NotLegal, with_entered}
use Rattle.eon_model.specs.Replay.{is_asked, can_follow, follow}
use Rattle.eon_model.proofs.SetupLaws.{network-parts, setup-network}
use Rattle.eon_model.proofs.RangeLaws.{leg-range}
use Rattle.plan_core.proofs.ToldLegLaws.{from_some, from_none}
use Rattle.plan_check.proofs.NumberedSteps.{line-named}
use Rattle.plan_check.specs.Numbered.{service_if_told}

-- ---- a service that can enter can be told

back_again : (net : Network) (b : Option PathText) → option_map path_text_of (option_map (path_told net) b) ≡ b
back_again net None = refl
back_again net (Some p) = refl

leg_again : (net : Network) (l : LegText) → leg_text_of (leg_told net l) ≡ l
leg_again net l = λ i. record { work = l.work; back = back_again net l.back i }

pub enter-told : (setup : Setup) (state : State) (t : EnterText) → is_setup setup ≡ true → is_name t.name ≡ true →
    is_rate t.rate ≡ true → can_follow setup state (Event.Enter t) ≡ true → is_enter_text t ≡ true
enter-told setup state t ok name rate can =
    let net = setup.network in
    let s = service_told net t in
    let asked = (and_parts (is_asked setup state (Event.Enter t)) (is_legal setup (apply net state (Event.Enter t))) can).0 in
    let new = not (is_some (service_of state s.name)) && nat_lt (length state) setup.services in
    let p = and_parts (new && nat_lt s.src (length net.nodes) && nat_lt s.dst (length net.nodes)) (fits setup s s.leg) asked in
    let q = and_parts (new && nat_lt s.src (length net.nodes)) (nat_lt s.dst (length net.nodes)) p.0 in
    let u = and_parts new (nat_lt s.src (length net.nodes)) q.0 in
    let few = (network-parts net (setup-network setup ok)).few_nodes in
    let src = ltb-true s.src (length net.nodes) u.1 in
    let dst = ltb-true s.dst (length net.nodes) q.1 in
    let r = leg-range setup s s.leg ok p.1 in
    let text = subst (λ (v : LegText). is_leg_text v ≡ true) (leg_again net t.leg) r.text in
    let back = subst (λ (v : LegText). has_backup_for t.class v.back ≡ true) (leg_again net t.leg) r.back in
    and_from _ _ (and_from _ _ (and_from _ _
    (and_from _ _ (and_from _ _ name (lt-ltb s.src 64 (omega arith))) (lt-ltb s.dst 64 (omega arith)))
    rate) text) back

-- ---- the service enters, where its names are known and it can

module _ (setup : Setup) (state : State) (s : ServiceLine) where
  abbrev change : Event
  change = Event.Enter (service_entered setup.network s)

  pub entered-known : knows_names setup.network s ≡ true → entered setup state s ≡ follow setup change state
  entered-known h = ap (λ b. cond b (follow setup change state) None) h

  pub entered-unknown : knows_names setup.network s ≡ false → entered setup state s ≡ None
  entered-unknown h = ap (λ b. cond b (follow setup change state) None) h

  pub entered-untold : is_setup setup ≡ true → is_service_line s ≡ true →
      None ≡ service_if_told (service_entered setup.network s) → entered setup state s ≡ None
  entered-untold ok line h = by (can_follow setup state change) refl (knows_names setup.network s) refl
    where
      untold : is_enter_text (service_entered setup.network s) ≡ false
      untold = from_none (is_enter_text (service_entered setup.network s)) (service_entered setup.network s) h

      by : (c : Bool) → can_follow setup state change ≡ c → (k : Bool) → knows_names setup.network s ≡ k →
          entered setup state s ≡ None
      by c e false f = entered-unknown f
      by false e true f = entered-known f ∙ ap (λ b. cond b (Some (apply setup.network state change)) None) e
      by true e true f =
          let named = line-named s line in
          absurd (false≢true (sym untold
          ∙ enter-told setup state (service_entered setup.network s) ok named.0 named.1 e))

-- ---- what is told of it

module _ (setup : Setup) (state : State) (s : ServiceLine) (known : knows_names setup.network s ≡ true) (t : EnterText)
    (is : Some t ≡ service_if_told (service_entered setup.network s)) where
  told_is : (is_enter_text (service_entered setup.network s) ≡ true) × (t ≡ service_entered setup.network s)
  told_is = from_some (is_enter_text (service_entered setup.network s)) (service_entered setup.network s) t is

  pub told-in-range : is_enter_text t ≡ true
  told-in-range = ap is_enter_text told_is.1 ∙ told_is.0

  pub told-entered : follow setup (Event.Enter t) state ≡ entered setup state s
  told-entered = ap (λ (v : EnterText). follow setup (Event.Enter v) state) told_is.1 ∙ sym (entered-known setup state s known)

-- ---- the refusal of the line

pub none-enters : (line : ℕ) (o : Option State) → o ≡ None → with_entered line o ListOf ≡ ListFault line NotLegal
none-enters line o h = ap (λ v. with_entered line v ListOf) h
