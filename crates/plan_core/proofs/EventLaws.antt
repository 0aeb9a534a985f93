-- The event of a service that enters, and of a leg that stands beside an old one.
use Rattle.std.proofs.Common.{◌≡◌, refl, sym, ◌∙◌, ap, subst, ◌<◌, true, ◌&&◌, length, Option, Some, None, nat_lt}
use Rattle.std.specs.Prelude.{IfSome, nat_le}
use Rattle.std.specs.Option.{option_map}
use Rattle.std.specs.List.{list_all}
use Rattle.std.proofs.lemmas.Bool.{and_parts, leb-true}
use Rattle.std.proofs.lemmas.List.Elements.{All-from_recursion}
use Rattle.eon_model.specs.Grid.{is_slot}
use Rattle.eon_model.specs.declared.Class.{Class}
use Rattle.eon_model.specs.Names.{Name, is_name}
use Rattle.eon_model.specs.Network.{Network}
use Rattle.eon_model.specs.Services.{Path, Leg, Service}
use Rattle.eon_model.specs.CommandText.{is_rate}
use Rattle.eon_model.specs.Replies.{Reply}
use Rattle.eon_model.specs.Events as events
use Rattle.eon_model.specs.EventText.{is_path_text, has_paths, has_backup_for, is_leg_text, is_event}
use Rattle.eon_model.specs.Step as step
use Rattle.eon_model.proofs.ListTests.{below-list_all}
use Rattle.leg_state.specs.Parts.{AreFibreNumbers}
use Rattle.plan_core.specs.declared.decision.Decision.{Decision}
use Rattle.plan_core.specs.declared.proposal.Prepared.{Prepared}
use Rattle.plan_core.specs.declared.proposal.Prepared.TheVariants as prepared
use Rattle.plan_core.specs.Told.{outcome_told}
use Rattle.plan_core.specs.Waiting.{IsNumberedLeg, needed_for, IsPrepared}

-- ---- numbers of fibres

text-numbers : (p : events.PathText) → is_path_text p ≡ true → AreFibreNumbers p.fibres
text-numbers p h =
    let a = and_parts (nat_le 1 (length p.fibres) && nat_le (length p.fibres) 63
    && list_all (λ i. nat_lt i 128) p.fibres) (is_slot p.slot) h in
    let b = and_parts (nat_le 1 (length p.fibres) && nat_le (length p.fibres) 63)
    (list_all (λ i. nat_lt i 128) p.fibres) a.0 in
    record {
      few = leb-true (length p.fibres) 63 (and_parts (nat_le 1 (length p.fibres)) (nat_le (length p.fibres) 63) b.0).1;
      below = All-from_recursion (λ n. n < 128) p.fibres (below-list_all 128 p.fibres b.1);
    }

leg-numbers : (l : Leg) (back : Option Path) → l.back ≡ back →
    has_paths (events.path_text_of l.work) (option_map events.path_text_of back) ≡ true → IsNumberedLeg l
leg-numbers l None e h = record {
  work = text-numbers (events.path_text_of l.work) h;
  back = subst (λ (b : Option Path). IfSome b (λ p. AreFibreNumbers p.route.fibres)) (sym e) tt;
}
leg-numbers l (Some b) e h =
    let both = and_parts (is_path_text (events.path_text_of l.work)) (is_path_text (events.path_text_of b)) h in
    record {
      work = text-numbers (events.path_text_of l.work) both.0;
      back = subst (λ (b : Option Path). IfSome b (λ p. AreFibreNumbers p.route.fibres)) (sym e)
          (text-numbers (events.path_text_of b) both.1);
    }

-- where the event is in range, the numbers of the fibres can be kept
pub event-numbered : (s : Service) → is_event (events.Event.Enter (events.enter_text_of s)) ≡ true → IsNumberedLeg s.leg
event-numbered s h =
    let front = is_name s.name && nat_lt s.src 64 && nat_lt s.dst 64 && is_rate s.rate in
    let text = is_leg_text (events.leg_text_of s.leg) in
    let a = and_parts (front && text) (has_backup_for s.class (option_map events.path_text_of s.leg.back)) h in
    leg-numbers s.leg s.leg.back refl (and_parts front text a.0).1

pub make-numbered : (name : Name) (class : Class) (l : Leg) →
    is_event (events.Event.Make name class (events.leg_text_of l)) ≡ true → IsNumberedLeg l
make-numbered name class l h =
    let text = is_leg_text (events.leg_text_of l) in
    let a = and_parts (is_name name && text) (has_backup_for class (option_map events.path_text_of l.back)) h in
    leg-numbers l l.back refl (and_parts (is_name name) text a.0).1

-- ---- what it needs

-- the service that enters is what its event tells
pub enter-IsPrepared : (net : Network) (s : Service) (d : Decision) (q : Prepared) (r : Reply) →
    events.service_told net (events.enter_text_of s) ≡ s →
    outcome_told d ≡ step.Change (events.Event.Enter (events.enter_text_of s)) r → q ≡ prepared.Service s →
    IsPrepared net d q
enter-IsPrepared net s d q r whole h is =
    is ∙ sym (ap (needed_for net) h ∙ ap prepared.Service whole)

-- and so is the leg that stands beside the old one
pub make-IsPrepared : (net : Network) (name : Name) (class : Class) (l : Leg) (d : Decision) (q : Prepared) (r : Reply) →
    events.leg_told net (events.leg_text_of l) ≡ l →
    outcome_told d ≡ step.Change (events.Event.Make name class (events.leg_text_of l)) r → q ≡ prepared.Leg l →
    IsPrepared net d q
make-IsPrepared net name class l d q r whole h is =
    is ∙ sym (ap (needed_for net) h ∙ ap prepared.Leg whole)
