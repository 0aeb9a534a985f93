-- Rows follow an event by what it turns over.
use Rattle.std.proofs.Common.{◌≡◌, sym, ◌∙◌, ap, subst, ℤ, Bool, true, false, ◌&&◌, not, Option, Some, None}
use Rattle.std.specs.Option.{option_map_or, unwrap_or}
use Rattle.std.specs.Ordering.{int_eq}
use Rattle.std.proofs.lemmas.Bool.{and_parts, false≢true}
use Rattle.eon_model.specs.declared.Class.{Class}
use Rattle.eon_model.specs.Grid.{Units, units_of, moved_to, lies_in_band}
use Rattle.eon_model.specs.Names.{Name}
use Rattle.eon_model.specs.Services.{Path, Leg, Service, State, service_of, is_moving, drift_units}
use Rattle.eon_model.specs.Legal.{Setup, is_shared, is_legal}
use Rattle.eon_model.specs.Events.{Event, EnterText, LegText, leg_told, service_told, apply}
use Rattle.eon_model.specs.Replay.{is_asked, may_refit, can_follow}
use Rattle.eon_model.specs.Turnover.{Turnover, turnover, leg_comes, leg_goes}
use Rattle.kept_rows.specs.declared.rows.KeptRows.{KeptRows}
use Rattle.kept_rows.specs.Standing.{StandsFor, MayTurn, HasTurned, of_class, channel_takes, backup_takes}
use Rattle.kept_rows.proofs.StandLaws.{may_turn, stands_after}
use Rattle.kept_rows.proofs.EventLaws.{entering, leaving, pushing, finishing, going_back, finishing_making, going_back_making, making, refitting}
use Rattle.row_events.specs.RowEvents.{CanFollowRows, MayChange, HasChanged, MayEnter, HasEntered, MayMake, IsMaking}

module _ (setup : Setup) (state : State) (e : Event) (t : Turnover) (turns : turnover setup.network state e ≡ t)
    (rows : KeptRows) (f : CanFollowRows setup state e rows) where
  pub may : MayTurn rows t
  may = subst (λ (x : Turnover). MayTurn rows x) turns (may_turn setup state e f.legal f.follows rows f.in_range f.stands)

  pub stands : (after : KeptRows) → HasTurned rows after t → StandsFor setup (apply setup.network state e) after
  stands after h = stands_after setup state e f.legal f.follows rows after f.stands
      (subst (λ (x : Turnover). HasTurned rows after x) (sym turns) h)

-- ---- a change of one service

-- what the event of this kind turns over, where it can follow
abbrev pub Turn : (Name → Event) → Service → Turnover → Type 0
Turn event s t =
    (setup : Setup) (state : State) (name : Name) → service_of state name ≡ Some s →
    can_follow setup state (event name) ≡ true → turnover setup.network state (event name) ≡ t

module _ (event : Name → Event) (s : Service) (t : Turnover) (turn : Turn event s t) where
  pub may-change : (rows : KeptRows) → MayChange event s rows → MayTurn rows t
  may-change rows m = may m.0 m.1 (event m.2) t (turn m.0 m.1 m.2 m.3 m.4.follows) rows m.4

  pub has-changed : (before after : KeptRows) → HasTurned before after t → HasChanged event s before after
  has-changed before after h = λ setup state name found f.
      stands setup state (event name) t (turn setup state name found f.follows) before f after h

-- ---- the kinds, of a service that is seen

module _ (seen s : Service) (same : seen ≡ s) where
  pub turn-leave : seen.next ≡ None → Turn Event.Leave s (leg_goes (of_class seen.class seen.leg))
  turn-leave one = λ setup state name found follows.
      leaving setup state name s found (ap (λ (v : Service). v.next) (sym same) ∙ one)
      ∙ ap (λ (v : Service). leg_goes (of_class v.class v.leg)) (sym same)

  pub turn-push : (n : ℤ) (u : Units) → u ≡ drift_units seen.leg.work.slot (Some n) →
      Turn (λ name. Event.Push name n) s (channel_takes seen.leg u)
  turn-push n u are = λ setup state name found follows.
      pushing setup state name s found n
      ∙ ap (λ (v : Service). channel_takes v.leg (drift_units v.leg.work.slot (Some n))) (sym same)
      ∙ ap (channel_takes seen.leg) (sym are)

  pub turn-finish : seen.next ≡ None → (u : Units) →
      u ≡ units_of (moved_to seen.leg.work.slot (unwrap_or seen.leg.to seen.leg.work.slot.n)) →
      Turn Event.Finish s (channel_takes seen.leg u)
  turn-finish one u are = λ setup state name found follows.
      finishing setup state name s found (ap (λ (v : Service). v.next) (sym same) ∙ one)
      ∙ ap (λ (v : Service). channel_takes v.leg (units_of (moved_to v.leg.work.slot (unwrap_or v.leg.to v.leg.work.slot.n))))
      (sym same)
      ∙ ap (channel_takes seen.leg) (sym are)

  pub turn-back : seen.next ≡ None → (u : Units) → u ≡ units_of seen.leg.work.slot →
      Turn Event.Back s (channel_takes seen.leg u)
  turn-back one u are = λ setup state name found follows.
      going_back setup state name s found (ap (λ (v : Service). v.next) (sym same) ∙ one)
      ∙ ap (λ (v : Service). channel_takes v.leg (units_of v.leg.work.slot)) (sym same)
      ∙ ap (channel_takes seen.leg) (sym are)

  pub turn-finish_making : (new : Leg) → seen.next ≡ Some new →
      Turn Event.Finish s (leg_goes (of_class seen.class seen.leg))
  turn-finish_making new two = λ setup state name found follows.
      finishing_making setup state name s found new (ap (λ (v : Service). v.next) (sym same) ∙ two)
      ∙ ap (λ (v : Service). leg_goes (of_class v.class v.leg)) (sym same)

  pub turn-back_making : (new : Leg) → seen.next ≡ Some new → Turn Event.Back s (leg_goes (of_class seen.class new))
  turn-back_making new two = λ setup state name found follows.
      going_back_making setup state name s found new (ap (λ (v : Service). v.next) (sym same) ∙ two)
      ∙ ap (λ (v : Service). leg_goes (of_class v.class new)) (sym same)

-- ---- a refit

-- what is asked of a backup that goes to the centre
abbrev goes_to : Setup → ℤ → Path → Bool
goes_to setup n b = not (int_eq n b.slot.n) && lies_in_band setup.band (units_of (moved_to b.slot n))

module _ (n : ℤ) (s : Service) (setup : Setup) (state : State) (name : Name) (found : service_of state name ≡ Some s)
    (follows : can_follow setup state (Event.Refit name n) ≡ true) where
  asked : may_refit setup n s ≡ true
  asked =
      ap (λ (o : Option Service). option_map_or (may_refit setup n) o false) (sym found)
      ∙ (and_parts (is_asked setup state (Event.Refit name n))
      (is_legal setup (apply setup.network state (Event.Refit name n))) follows).0

  parts : ((not (is_moving s) && is_shared s.class) ≡ true) × (option_map_or (goes_to setup n) s.leg.back false ≡ true)
  parts = and_parts (not (is_moving s) && is_shared s.class) (option_map_or (goes_to setup n) s.leg.back false) asked

  pub refits-shared : is_shared s.class ≡ true
  refits-shared = (and_parts (not (is_moving s)) (is_shared s.class) parts.0).1

  pub refits-some : s.leg.back ≡ None → ⊥
  refits-some none = false≢true (ap (λ (o : Option Path). option_map_or (goes_to setup n) o false) (sym none) ∙ parts.1)

module _ (seen s : Service) (same : seen ≡ s) (n : ℤ) where
  pub turn-refit : (b : Path) → seen.leg.back ≡ Some b → (u : Units) → u ≡ units_of (moved_to b.slot n) →
      Turn (λ name. Event.Refit name n) s (backup_takes seen.leg u)
  turn-refit b some u are = λ setup state name found follows.
      refitting setup state name s found b n (refits-shared n s setup state name found follows)
      (ap (λ (v : Service). v.leg.back) (sym same) ∙ some)
      ∙ ap (λ (v : Service). backup_takes v.leg (units_of (moved_to b.slot n))) (sym same)
      ∙ ap (backup_takes seen.leg) (sym are)

  -- without a backup there is none
  pub no-refit : seen.leg.back ≡ None → (before after : KeptRows) → HasChanged (λ name. Event.Refit name n) s before after
  no-refit none before after = λ setup state name found f.
      absurd (refits-some n s setup state name found f.follows (ap (λ (v : Service). v.leg.back) (sym same) ∙ none))

-- ---- a leg that comes

module _ (seen s : Service) (same : seen ≡ s) where
  module _ (setup : Setup) (state : State) (t : EnterText) (told : s ≡ service_told setup.network t) where
    turn-enter : turnover setup.network state (Event.Enter t) ≡ leg_comes (of_class seen.class seen.leg)
    turn-enter = entering setup state t
        ∙ ap (λ (v : Service). leg_comes (of_class v.class v.leg)) (sym (same ∙ told))

  pub may-enter : (rows : KeptRows) → MayEnter s rows → MayTurn rows (leg_comes (of_class seen.class seen.leg))
  may-enter rows m =
      may m.0 m.1 (Event.Enter m.2) (leg_comes (of_class seen.class seen.leg)) (turn-enter m.0 m.1 m.2 m.3) rows m.4

  pub has-entered : (before after : KeptRows) → HasTurned before after (leg_comes (of_class seen.class seen.leg)) →
      HasEntered s before after
  has-entered before after h = λ setup state t told f.
      stands setup state (Event.Enter t) (leg_comes (of_class seen.class seen.leg)) (turn-enter setup state t told) before f
      after h

  module _ (new : Leg) (setup : Setup) (state : State) (name : Name) (class : Class) (l : LegText)
      (found : service_of state name ≡ Some s) (told : new ≡ leg_told setup.network l) where
    turn-make : turnover setup.network state (Event.Make name class l) ≡ leg_comes (of_class seen.class new)
    turn-make = making setup state name s found class l
        ∙ (λ i. leg_comes (of_class (sym same i).class (sym told i)))

  pub may-make : (new : Leg) (rows : KeptRows) → MayMake new s rows →
      MayTurn rows (leg_comes (of_class seen.class new))
  may-make new rows m =
      may m.0 m.1 (Event.Make m.2 m.3 m.4) (leg_comes (of_class seen.class new))
      (turn-make new m.0 m.1 m.2 m.3 m.4 m.5 m.6) rows m.7

  pub is-making : (new : Leg) (before after : KeptRows) → HasTurned before after (leg_comes (of_class seen.class new)) →
      IsMaking new s before after
  is-making new before after h = λ setup state name class l found told f.
      stands setup state (Event.Make name class l) (leg_comes (of_class seen.class new))
      (turn-make new setup state name class l found told) before f after h
