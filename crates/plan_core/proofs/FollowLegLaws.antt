-- When a service that enters, and a second leg, leave a legal state, told by what the code asks.
use Rattle.std.proofs.Common.{◌≡◌, refl, sym, ◌∙◌, ap, subst, Bool, true, false, ◌&&◌, ◌||◌, not, [], ◌∷◌, ◌++◌, map, length, Some, None, nat_lt}
use Rattle.std.specs.Prelude.{is_some}
use Rattle.std.specs.Option.{option_map_or, option_to_list}
use Rattle.std.specs.Bool.{then_some}
use Rattle.std.specs.List.{list_all}
use Rattle.std.proofs.lemmas.Bool.{and_parts, not-true}
use Rattle.std.proofs.lemmas.List.Folds.{list_all-append}
use Rattle.eon_model.specs.declared.Class.{Class}
use Rattle.eon_model.specs.Names.{Name, same_name, is_name}
use Rattle.eon_model.specs.CommandText.{is_rate}
use Rattle.eon_model.specs.EventText.{is_leg_text, has_backup_for, is_event, is_service, is_state}
use Rattle.eon_model.specs.Route.{share_group}
use Rattle.eon_model.specs.Services.{Leg, Service, State, OwnedLeg, is_moving, service_of, owned, owned_legs, all_legs}
use Rattle.eon_model.specs.Legal.{Setup, Legal, fits, is_clear, is_dual, is_legal, work_is_clear, backups_collide}
use Rattle.eon_model.specs.Changes.{change_service, with_next, without_service}
use Rattle.eon_model.specs.Occupied.{may_stand}
use Rattle.eon_model.specs.Events.{Event, EnterText, LegText, service_told, leg_told}
use Rattle.eon_model.specs.Replay.{may_make, same_class, can_follow}
use Rattle.eon_model.specs.Step.{first_clash}
use Rattle.eon_model.proofs.FindLaws.{find_has}
use Rattle.eon_model.proofs.ListTests.{no-some}
use Rattle.eon_model.proofs.NameLaws.{names_equal}
use Rattle.eon_model.proofs.NumberLaws.{same-name}
use Rattle.eon_model.proofs.EventRangeLaws.{class_same}
use Rattle.eon_model.proofs.ClearLaws.{is_clear_comm}
use Rattle.eon_model.proofs.ReplaceLaws.{all_legs-append}
use Rattle.eon_model.proofs.ClashLaws.{NamedIn, at_rest, service-named}
use Rattle.eon_model.proofs.ClashRows.{clash_clear, new_clash}
use Rattle.eon_model.proofs.FreeLaws.{clear-stands}
use Rattle.eon_model.proofs.GoodLaws.{fits-kept, legal-kept, without_around}
use Rattle.eon_model.proofs.RowRules.{entered-stands, made-stands}
use Rattle.plan_core.specs.declared.proposal.Prepared.TheVariants as prepared
use Rattle.plan_core.specs.Following.{may_join, may_begin, leg_suits, is_clear_second}
use Rattle.plan_core.proofs.ToldLegLaws.{from_some, from_none, no_first, no_second, no_third, all_three}

twice : (b : Bool) → b ≡ not (not b)
twice true = refl
twice false = refl

-- ---- a service that enters

enter-by : (fresh few src dst fit stands legal : Bool) → (fresh ≡ true → legal ≡ (few && (fit && stands))) →
    (((((fresh && few) && src) && dst) && fit) && legal) ≡ ((((fresh && few) && src) && dst) && (fit && stands))
enter-by false few src dst fit stands legal h = refl
enter-by true false src dst fit stands legal h = refl
enter-by true true false dst fit stands legal h = refl
enter-by true true true false fit stands legal h = refl
enter-by true true true true false stands legal h = refl
enter-by true true true true true stands legal h = h refl

module _ (setup : Setup) (state : State) (legal : Legal setup state) (text : EnterText) where
  abbrev new : Service
  new = service_told setup.network text

  entered : is_some (service_of state text.name) ≡ false →
      is_legal setup (state ++ new ∷ [])
      ≡ (nat_lt (length state) setup.services
      && (fits setup new new.leg && not (is_some (first_clash state (owned text.name text.class new.leg)))))
  entered fresh =
      entered-stands setup state new legal none refl
      ∙ ap (λ b. nat_lt (length state) setup.services && b) (by (fits setup new new.leg) refl)
    where
      none : service_of state text.name ≡ None
      none = no-some (service_of state text.name) fresh

      by : (b : Bool) → fits setup new new.leg ≡ b →
          (b && may_stand state state (owned text.name text.class new.leg))
          ≡ (b && not (is_some (first_clash state (owned text.name text.class new.leg))))
      by true e = twice (may_stand state state (owned text.name text.class new.leg))
          ∙ ap not (sym (new_clash setup state new new.leg legal none e))
      by false e = refl

  pub enter-follows :
      (may_join setup state text.name text.src text.dst
      && (leg_suits setup text.src text.dst text.rate text.class (leg_told setup.network text.leg)
      && not (is_some (first_clash state (owned text.name text.class (leg_told setup.network text.leg))))))
      ≡ can_follow setup state (Event.Enter text)
  enter-follows =
      sym (enter-by (not (is_some (service_of state text.name))) (nat_lt (length state) setup.services)
      (nat_lt text.src (length setup.network.nodes)) (nat_lt text.dst (length setup.network.nodes))
      (fits setup new new.leg) (not (is_some (first_clash state (owned text.name text.class new.leg))))
      (is_legal setup (state ++ new ∷ [])) (λ h. entered (not-true _ h)))

  -- ---- test by test

  abbrev suits : Bool
  suits = leg_suits setup text.src text.dst text.rate text.class (leg_told setup.network text.leg)

  abbrev free : Bool
  free = not (is_some (first_clash state (owned text.name text.class (leg_told setup.network text.leg))))

  abbrev can : Bool
  can = can_follow setup state (Event.Enter text)

  pub enter_taken : may_join setup state text.name text.src text.dst ≡ false →
      None ≡ then_some (can_follow setup state (Event.Enter text)) (prepared.Service (service_told setup.network text))
  enter_taken = no_first (may_join setup state text.name text.src text.dst) suits free can enter-follows (prepared.Service new)

  pub enter_unfit : None ≡ then_some (leg_suits setup text.src text.dst text.rate text.class (leg_told setup.network text.leg))
      (leg_told setup.network text.leg) →
      None ≡ then_some (can_follow setup state (Event.Enter text)) (prepared.Service (service_told setup.network text))
  enter_unfit h = no_second (may_join setup state text.name text.src text.dst) suits free can enter-follows
      (prepared.Service new) (from_none suits (leg_told setup.network text.leg) h)

  module _ (leg : Leg) (told : Some leg ≡ then_some
      (leg_suits setup text.src text.dst text.rate text.class (leg_told setup.network text.leg))
      (leg_told setup.network text.leg)) where
    leg_is : (suits ≡ true) × (leg ≡ leg_told setup.network text.leg)
    leg_is = from_some suits (leg_told setup.network text.leg) leg told

    free_is : (b : Bool) → is_some (first_clash state (owned text.name text.class leg)) ≡ b → free ≡ not b
    free_is b h = ap not (ap (λ (l : Leg). is_some (first_clash state (owned text.name text.class l))) (sym leg_is.1) ∙ h)

    pub enter_blocked : is_some (first_clash state (owned text.name text.class leg)) ≡ true →
        None ≡ then_some (can_follow setup state (Event.Enter text)) (prepared.Service (service_told setup.network text))
    enter_blocked h = no_third (may_join setup state text.name text.src text.dst) suits free can enter-follows
        (prepared.Service new) (free_is true h)

    pub enter_made : may_join setup state text.name text.src text.dst ≡ true →
        is_some (first_clash state (owned text.name text.class leg)) ≡ false → (s : Service) →
        s ≡ record { name = text.name; src = text.src; dst = text.dst; rate = text.rate; class = text.class; leg = leg; next = None } →
        Some (prepared.Service s)
        ≡ then_some (can_follow setup state (Event.Enter text)) (prepared.Service (service_told setup.network text))
    enter_made h k s is = all_three (may_join setup state text.name text.src text.dst) suits free can enter-follows
        (prepared.Service new) h leg_is.0 (free_is false k) (prepared.Service s)
        (ap prepared.Service (is ∙ (λ i. record {
          name = text.name;
          src = text.src;
          dst = text.dst;
          rate = text.rate;
          class = text.class;
          leg = leg_is.1 i;
          next = None;
        })))

-- ---- a second leg

make-by : (rest same fit clear apart legal : Bool) →
    (rest ≡ true → same ≡ true → legal ≡ (fit && (clear && apart))) →
    (((rest && same) && fit) && legal) ≡ ((rest && same) && (fit && (clear && apart)))
make-by false same fit clear apart legal h = refl
make-by true false fit clear apart legal h = refl
make-by true true false clear apart legal h = refl
make-by true true true clear apart legal h = h refl refl

module _ (setup : Setup) (state : State) (name : Name) (s : Service) (legal : Legal setup state)
    (found : service_of state name ≡ Some s) where
  named : NamedIn state name s
  named = service-named setup state name s legal found

  name_is : s.name ≡ name
  name_is = same-name s.name name named.named

  others_are : without_service name state ≡ named.before ++ named.after
  others_are = ap (without_service name) named.is
      ∙ without_around name named.before named.after s named.named named.others_before named.others_after

  -- of all legs, the one of the service at rest, and those of the others
  own_and_others : is_moving s ≡ false → (test : OwnedLeg → Bool) → list_all test (all_legs state)
      ≡ (test (owned s.name s.class s.leg) && list_all test (all_legs (without_service name state)))
  own_and_others rest test =
      ap (λ (ss : State). list_all test (all_legs ss)) named.is
      ∙ ap (list_all test) (all_legs-append named.before (s ∷ named.after))
      ∙ list_all-append test (all_legs named.before) (owned_legs s ++ all_legs named.after)
      ∙ (λ i. list_all test (all_legs named.before)
      && list_all test (map (owned s.name s.class) (s.leg ∷ option_to_list ((at_rest s rest).1 i))
      ++ all_legs named.after))
      ∙ swap (list_all test (all_legs named.before)) (test (owned s.name s.class s.leg))
      (list_all test (all_legs named.after))
      ∙ ap (λ b. test (owned s.name s.class s.leg) && b)
      (sym (list_all-append test (all_legs named.before) (all_legs named.after))
      ∙ ap (list_all test) (sym (all_legs-append named.before named.after))
      ∙ ap (λ (ss : State). list_all test (all_legs ss)) (sym others_are))
    where
      swap : (a b c : Bool) → (a && (b && c)) ≡ (b && (a && c))
      swap true b c = refl
      swap false true c = refl
      swap false false c = refl

  -- both legs are one service's
  second_clear : (l : Leg) → is_clear (owned s.name s.class l) (owned s.name s.class s.leg) ≡ is_clear_second s.class s.leg l
  second_clear l =
      is_clear_comm (owned s.name s.class l) (owned s.name s.class s.leg)
      ∙ ap (λ b. work_is_clear s.leg l && work_is_clear l s.leg && (not (backups_collide s.leg l) || b))
      (shares (is_dual s.class) (same_name s.name s.name) (not (share_group s.leg.work.route l.work.route))
      (names_equal.refl s.name))
    where
      shares : (dual same apart : Bool) → same ≡ true → (not dual && not dual && (same || apart)) ≡ not dual
      shares true same apart e = refl
      shares false same apart e = ap (λ b. b || apart) e

  made : (l : Leg) → l.to ≡ None → is_moving s ≡ false →
      is_legal setup (change_service name (with_next l) state)
      ≡ (fits setup s l && (is_clear_second s.class s.leg l && not (is_some (first_clash state (owned name s.class l)))))
  made l still rest =
      made-stands setup state name s legal found rest l still
      ∙ by (fits setup s l) refl
    where
      by : (b : Bool) → fits setup s l ≡ b →
          (b && may_stand state (without_service name state) (owned s.name s.class l))
          ≡ (b && (is_clear_second s.class s.leg l && not (is_some (first_clash state (owned name s.class l)))))
      by true e =
          ap (λ n. may_stand state (without_service n state) (owned s.name s.class l)) (sym name_is)
          ∙ sym (clear-stands (owned s.name s.class l) state (fits-kept setup s l e) (legal-kept setup state legal))
          ∙ own_and_others rest (is_clear (owned s.name s.class l))
          ∙ (λ i. second_clear l i
          && list_all (is_clear (owned (name_is i) s.class l)) (all_legs (without_service name state)))
          ∙ ap (λ b. is_clear_second s.class s.leg l && b)
          (twice (list_all (is_clear (owned name s.class l)) (all_legs (without_service name state)))
          ∙ ap not (sym (clash_clear state (owned name s.class l))))
      by false e = refl

  -- whether the leg may carry the service, and is clear of all others
  abbrev told_leg_by : Class → LegText → Bool
  told_leg_by class text =
      leg_suits setup s.src s.dst s.rate class (leg_told setup.network text)
      && (is_clear_second s.class s.leg (leg_told setup.network text)
      && not (is_some (first_clash state (owned name s.class (leg_told setup.network text)))))

  abbrev told_by : Class → LegText → Bool
  told_by class text = may_begin class s && told_leg_by class text

  pub make-follows : (class : Class) (text : LegText) →
      (may_begin class s && (leg_suits setup s.src s.dst s.rate class (leg_told setup.network text)
      && (is_clear_second s.class s.leg (leg_told setup.network text)
      && not (is_some (first_clash state (owned name s.class (leg_told setup.network text)))))))
      ≡ can_follow setup state (Event.Make name class text)
  make-follows class text = by (same_class class s.class) refl
    where
      asked : (c : Class) → can_follow setup state (Event.Make name c text)
          ≡ (((not (is_moving s) && same_class c s.class) && fits setup s (leg_told setup.network text))
          && is_legal setup (change_service name (with_next (leg_told setup.network text)) state))
      asked c = ap (λ o. option_map_or (may_make setup c (leg_told setup.network text)) o false
          && is_legal setup (change_service name (with_next (leg_told setup.network text)) state)) found

      other : (rest x : Bool) → ((rest && false) && x) ≡ false
      other true x = refl
      other false x = refl

      of_class : told_by s.class text ≡ can_follow setup state (Event.Make name s.class text)
      of_class =
          sym (asked s.class
          ∙ make-by (not (is_moving s)) (same_class s.class s.class) (fits setup s (leg_told setup.network text))
          (is_clear_second s.class s.leg (leg_told setup.network text))
          (not (is_some (first_clash state (owned name s.class (leg_told setup.network text)))))
          (is_legal setup (change_service name (with_next (leg_told setup.network text)) state))
          (λ rest same. made (leg_told setup.network text) refl (not-true _ rest)))

      by : (b : Bool) → same_class class s.class ≡ b →
          told_by class text ≡ can_follow setup state (Event.Make name class text)
      by true e = subst (λ (c : Class). told_by c text ≡ can_follow setup state (Event.Make name c text))
          (sym (class_same class s.class e)) of_class
      by false e =
          (λ i. (not (is_moving s) && e i) && told_leg_by class text)
          ∙ other (not (is_moving s)) (told_leg_by class text)
          ∙ sym (asked class
          ∙ (λ i. ((not (is_moving s) && e i) && fits setup s (leg_told setup.network text))
          && is_legal setup (change_service name (with_next (leg_told setup.network text)) state))
          ∙ ap (λ b. b && is_legal setup (change_service name (with_next (leg_told setup.network text)) state))
          (other (not (is_moving s)) (fits setup s (leg_told setup.network text))))

  -- ---- test by test

  module _ (class : Class) (text : LegText) where
    abbrev may : Bool
    may = may_begin class s

    abbrev fit : Bool
    fit = leg_suits setup s.src s.dst s.rate class (leg_told setup.network text)

    abbrev stands : Leg → Bool
    stands l = is_clear_second s.class s.leg l && not (is_some (first_clash state (owned name s.class l)))

    abbrev can_make : Bool
    can_make = can_follow setup state (Event.Make name class text)

    pub make_busy : may_begin class s ≡ false →
        None ≡ then_some (can_follow setup state (Event.Make name class text)) (prepared.Leg (leg_told setup.network text))
    make_busy = no_first may fit (stands (leg_told setup.network text)) can_make (make-follows class text)
        (prepared.Leg (leg_told setup.network text))

    pub make_unfit : None ≡ then_some (leg_suits setup s.src s.dst s.rate class (leg_told setup.network text))
        (leg_told setup.network text) →
        None ≡ then_some (can_follow setup state (Event.Make name class text)) (prepared.Leg (leg_told setup.network text))
    make_unfit h = no_second may fit (stands (leg_told setup.network text)) can_make (make-follows class text)
        (prepared.Leg (leg_told setup.network text)) (from_none fit (leg_told setup.network text) h)

    module _ (leg : Leg) (told : Some leg ≡ then_some (leg_suits setup s.src s.dst s.rate class (leg_told setup.network text))
        (leg_told setup.network text)) where
      second_is : (fit ≡ true) × (leg ≡ leg_told setup.network text)
      second_is = from_some fit (leg_told setup.network text) leg told

      pub make_blocked :
          (is_clear_second s.class s.leg leg && not (is_some (first_clash state (owned name s.class leg)))) ≡ false →
          None ≡ then_some (can_follow setup state (Event.Make name class text)) (prepared.Leg (leg_told setup.network text))
      make_blocked h = no_third may fit (stands (leg_told setup.network text)) can_make (make-follows class text)
          (prepared.Leg (leg_told setup.network text)) (ap stands (sym second_is.1) ∙ h)

      pub make_made : may_begin class s ≡ true →
          (is_clear_second s.class s.leg leg && not (is_some (first_clash state (owned name s.class leg)))) ≡ true →
          Some (prepared.Leg leg)
          ≡ then_some (can_follow setup state (Event.Make name class text)) (prepared.Leg (leg_told setup.network text))
      make_made h k = all_three may fit (stands (leg_told setup.network text)) can_make (make-follows class text)
          (prepared.Leg (leg_told setup.network text)) h second_is.0 (ap stands (sym second_is.1) ∙ k) (prepared.Leg leg)
          (ap prepared.Leg second_is.1)

-- ---- what is in range

pub enter-range : (text : EnterText) → is_event (Event.Enter text) ≡ true →
    (is_rate text.rate ≡ true) × (has_backup_for text.class text.leg.back ≡ true)
enter-range text h =
    let front = is_name text.name && nat_lt text.src 64 && nat_lt text.dst 64 in
    let a = and_parts (front && is_rate text.rate && is_leg_text text.leg) (has_backup_for text.class text.leg.back) h in
    let b = and_parts (front && is_rate text.rate) (is_leg_text text.leg) a.0 in
    ((and_parts front (is_rate text.rate) b.0).1, a.1)

pub make-range : (name : Name) (class : Class) (text : LegText) → is_event (Event.Make name class text) ≡ true →
    has_backup_for class text.back ≡ true
make-range name class text h = (and_parts (is_name name && is_leg_text text) (has_backup_for class text.back) h).1

pub live-rate : (state : State) (name : Name) (s : Service) → is_state state ≡ true → service_of state name ≡ Some s →
    is_rate s.rate ≡ true
live-rate state name s named found =
    (and_parts (is_name s.name) (is_rate s.rate)
    (find_has is_service (λ (v : Service). same_name v.name name) state s found named)).1
