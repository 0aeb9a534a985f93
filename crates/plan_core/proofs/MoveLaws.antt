-- A change that waits is one that the list of services can make in place.
use Rattle.std.proofs.Common.{◌≡◌, refl, ◌∙◌, ap, ℤ, Bool, true, false, ◌&&◌, ◌||◌, not, length, Option, Some, None, nat_lt}
use Rattle.std.specs.Prelude.{is_some, nat_le}
use Rattle.std.specs.Option.{option_map_or, option_to_list}
use Rattle.std.specs.List.{list_all, list_any}
use Rattle.std.specs.Ordering.{int_eq}
use Rattle.std.specs.Int.{w16, cast_signed, cast_unsigned}
use Rattle.std.proofs.lemmas.Bool.{and_parts, and_from, not-true, false≢true}
use Rattle.eon_model.specs.Grid.{units_of, moved_to, lies_in_band}
use Rattle.eon_model.specs.declared.Class.{Class}
use Rattle.eon_model.specs.Names.{Name, same_name}
use Rattle.eon_model.specs.Services.{Path, Leg, Service, State, drift_units, is_drifting, is_making, is_moving, service_of}
use Rattle.eon_model.specs.Legal.{Setup, Legal, need_of, is_exactly, is_shared, fits, path_fits, target_fits, moves_one_way, is_legal}
use Rattle.eon_model.specs.Route.{is_route}
use Rattle.eon_model.specs.Changes.{path_moved}
use Rattle.eon_model.specs.NetworkText.{is_setup}
use Rattle.eon_model.specs.Events as told
use Rattle.eon_model.specs.Events.{path_text_of}
use Rattle.eon_model.specs.Replay as replay
use Rattle.eon_model.specs.Replay.{service_allows, is_asked}
use Rattle.eon_model.proofs.FindLaws.{find_has}
use Rattle.eon_model.proofs.LegalLaws.{Legal-parts}
use Rattle.eon_model.proofs.GridLaws.{lies_in_band_within}
use Rattle.eon_model.proofs.ShrinkLaws.{hull_has}
use Rattle.eon_model.proofs.ListTests.{no-some}
use Rattle.eon_model.proofs.ChangeLaws.{named_fits}
use Rattle.eon_model.proofs.BackupLaws.{fits-parts, backup-path}
use Rattle.eon_model.proofs.RangeLaws.{path-range}
use Rattle.eon_model.proofs.EventFronts.{IsShort, signed_back, slot_short, path_slot}
use Rattle.leg_state.specs.Asks.{has_service, can_stand, target_can_stand, backup_can_stand, may_drift, may_finish, may_go_back, may_make, may_refit}

-- ---- centres at which a slot can stand

-- a path that fits can stand at each centre within the band, and 16 bits hold the centre
moved-stands : (setup : Setup) (s : Service) (p : Path) (n : ℤ) → is_setup setup ≡ true →
    path_fits setup s p ≡ true → lies_in_band setup.band (units_of (moved_to p.slot n)) ≡ true →
    (can_stand p n ≡ true) × IsShort n
moved-stands setup s p n ok fit band =
    let sized = is_route setup.network s.src s.dst p.route && nat_le 1 p.slot.m
    && is_exactly (need_of setup s.rate p.route.km) p.slot.m in
    let here = and_parts sized (lies_in_band setup.band (units_of p.slot)) fit in
    let stands = path_slot (path_text_of (path_moved p n))
    (path-range setup s (path_moved p n) ok (and_from sized (lies_in_band setup.band (units_of (moved_to p.slot n))) here.0 band)).text in
    (stands, slot_short (moved_to p.slot n) stands)

-- and a leg's channel at the centre that it drifts to
target-stands : (setup : Setup) (s : Service) (l : Leg) (to : Option ℤ) → is_setup setup ≡ true →
    path_fits setup s l.work ≡ true → target_fits setup l.work to ≡ true →
    list_all (can_stand l.work) (option_to_list to) ≡ true
target-stands setup s l None ok fit lies = refl
target-stands setup s l (Some n) ok fit lies =
    and_from (can_stand l.work n) true
    (moved-stands setup s l.work n ok fit
    (lies_in_band_within setup.band (drift_units l.work.slot (Some n)) (units_of (moved_to l.work.slot n)) lies
    (hull_has setup l.work (Some n)))).0 refl

-- and its backup at each centre within the band
backup-stands : (setup : Setup) (s : Service) (n : ℤ) (back : Option Path) → is_setup setup ≡ true →
    ((b : Path) → back ≡ Some b → path_fits setup s b ≡ true) →
    option_map_or (λ b. not (int_eq n b.slot.n) && lies_in_band setup.band (units_of (moved_to b.slot n))) back false
    ≡ true → (is_some back ≡ true) × (list_all (λ b. can_stand b n) (option_to_list back) ≡ true) × IsShort n
backup-stands setup s n None ok fit h = absurd (false≢true h)
backup-stands setup s n (Some b) ok fit h =
    let lies = (and_parts (not (int_eq n b.slot.n)) (lies_in_band setup.band (units_of (moved_to b.slot n))) h).1 in
    let stands = moved-stands setup s b n ok (fit b refl) lies in
    (refl, and_from (can_stand b n) true stands.0 refl, stands.1)

-- ---- one way of moving

one_way : (drifts makes rest : Bool) → (not makes || not (drifts || rest)) ≡ true →
    (drifts || makes) ≡ true → ((drifts || makes) && not (drifts && makes)) ≡ true
one_way true true rest h k = absurd (false≢true h)
one_way true false rest h k = refl
one_way false makes rest h k = and_from makes true k refl

moves-one_way : (setup : Setup) (state : State) (name : Name) (s : Service) → Legal setup state →
    service_of state name ≡ Some s → is_moving s ≡ true → may_go_back s ≡ true
moves-one_way setup state name s legal e h =
    one_way (is_drifting s.leg) (is_making s) (list_any is_drifting (option_to_list s.next))
    (find_has moves_one_way (λ s. same_name s.name name) state s e (Legal-parts setup state legal).one_way) h

-- ---- what the list is asked for

-- The service of this name, which passes the test.
record Allowed (state : State) (name : Name) (test : Service → Bool) : Type 0 where
  service : Service
  found : service_of state name ≡ Some service
  passes : test service ≡ true

allowed : (state : State) (name : Name) (test : Service → Bool) → service_allows state name test ≡ true →
    Allowed state name test
allowed state name test h = by (service_of state name) refl h
  where
    by : (o : Option Service) → service_of state name ≡ o → option_map_or test o false ≡ true → Allowed state name test
    by None e k = absurd (false≢true k)
    by (Some s) e k = record { service = s; found = e; passes = k }

has : (state : State) (name : Name) (test : Service → Bool) (s : Service) → service_of state name ≡ Some s →
    test s ≡ true → has_service test state name ≡ true
has state name test s found h = ap (λ (o : Option Service). option_map_or test o false) found ∙ h

abbrev Follows : Setup → State → told.Event → Type 0
Follows setup state e = replay.can_follow setup state e ≡ true

asked : (setup : Setup) (state : State) (e : told.Event) → Follows setup state e → is_asked setup state e ≡ true
asked setup state e h =
    (and_parts (is_asked setup state e) (is_legal setup (told.apply setup.network state e)) h).0

-- what enters has a new name
pub enter-fresh : (setup : Setup) (state : State) (text : told.EnterText) →
    Follows setup state (told.Event.Enter text) → service_of state text.name ≡ None
enter-fresh setup state text h =
    let t = told.service_told setup.network text in
    let fresh = not (is_some (service_of state t.name)) in
    let few = nat_lt (length state) setup.services in
    let src = nat_lt t.src (length setup.network.nodes) in
    let dst = nat_lt t.dst (length setup.network.nodes) in
    let a = and_parts (fresh && few && src && dst) (fits setup t t.leg) (asked setup state (told.Event.Enter text) h) in
    let b = and_parts (fresh && few && src) dst a.0 in
    let c = and_parts (fresh && few) src b.0 in
    let d = and_parts fresh few c.0 in
    no-some (service_of state t.name) (not-true (is_some (service_of state t.name)) d.0)

-- what leaves is there
pub leave-there : (setup : Setup) (state : State) (name : Name) → Follows setup state (told.Event.Leave name) →
    is_some (service_of state name) ≡ true
leave-there setup state name h = asked setup state (told.Event.Leave name) h

module _ (setup : Setup) (state : State) (ok : is_setup setup ≡ true) (legal : Legal setup state) (name : Name) where
  -- it can drift there, and 16 bits hold the centre
  pub push-drifts : (to : ℤ) → Follows setup state (told.Event.Push name to) →
      (has_service (may_drift to) state name ≡ true) × (cast_signed w16 (cast_unsigned w16 to) ≡ to)
  push-drifts to h =
      let a = allowed state name (replay.may_push setup to) (asked setup state (told.Event.Push name to) h) in
      let s = a.service in
      let band = lies_in_band setup.band (units_of (moved_to s.leg.work.slot to)) in
      let b = and_parts (not (is_moving s) && not (int_eq to s.leg.work.slot.n)) band a.passes in
      let c = and_parts (not (is_moving s)) (not (int_eq to s.leg.work.slot.n)) b.0 in
      let fit = fits-parts setup s s.leg (named_fits setup state name s legal a.found) in
      let stands = moved-stands setup s s.leg.work to ok fit.work b.1 in (
        has state name (may_drift to) s a.found (and_from (not (is_moving s)) (can_stand s.leg.work to) c.0 stands.0),
        signed_back to stands.1,
      )

  pub back-goes_back : Follows setup state (told.Event.Back name) → has_service may_go_back state name ≡ true
  back-goes_back h =
      let a = allowed state name is_moving (asked setup state (told.Event.Back name) h) in
      has state name may_go_back a.service a.found (moves-one_way setup state name a.service legal a.found a.passes)

  pub finish-finishes : Follows setup state (told.Event.Finish name) → has_service may_finish state name ≡ true
  finish-finishes h =
      let a = allowed state name is_moving (asked setup state (told.Event.Finish name) h) in
      let s = a.service in
      let fit = fits-parts setup s s.leg (named_fits setup state name s legal a.found) in
      has state name may_finish s a.found (and_from (may_go_back s) (target_can_stand s.leg)
      (moves-one_way setup state name s legal a.found a.passes)
      (target-stands setup s s.leg s.leg.to ok fit.work fit.to))

  pub make-makes : (class : Class) (text : told.LegText) → Follows setup state (told.Event.Make name class text) →
      has_service may_make state name ≡ true
  make-makes class text h =
      let l = told.leg_told setup.network text in
      let a = allowed state name (replay.may_make setup class l) (asked setup state (told.Event.Make name class text) h) in
      let s = a.service in
      let b = and_parts (not (is_moving s) && replay.same_class class s.class) (fits setup s l) a.passes in
      has state name may_make s a.found (and_parts (not (is_moving s)) (replay.same_class class s.class) b.0).0

  -- its backup can stand there, and 16 bits hold the centre
  pub refit-refits : (n : ℤ) → Follows setup state (told.Event.Refit name n) →
      (has_service (may_refit n) state name ≡ true) × (cast_signed w16 (cast_unsigned w16 n) ≡ n)
  refit-refits n h =
      let a = allowed state name (replay.may_refit setup n) (asked setup state (told.Event.Refit name n) h) in
      let s = a.service in
      let test = option_map_or (λ b. not (int_eq n b.slot.n) && lies_in_band setup.band (units_of (moved_to b.slot n)))
      s.leg.back false in
      let b = and_parts (not (is_moving s) && is_shared s.class) test a.passes in
      let rest = and_parts (not (is_moving s)) (is_shared s.class) b.0 in
      let fit = fits-parts setup s s.leg (named_fits setup state name s legal a.found) in
      let stands = backup-stands setup s n s.leg.back ok (λ b is. backup-path setup s s.leg b fit.back is) b.1 in (
        has state name (may_refit n) s a.found (and_from (not (is_moving s) && is_some s.leg.back) (backup_can_stand s.leg n)
            (and_from (not (is_moving s)) (is_some s.leg.back) rest.0 stands.0) stands.1),
        signed_back n stands.2,
      )
