-- A service that is making leaves in two steps.
use Rattle.std.proofs.Common.{◌≡◌, refl, sym, subst, Some, None}
use Rattle.std.proofs.lemmas.Bool.{and_parts}
use Rattle.eon_model.specs.Names.{Name}
use Rattle.eon_model.specs.Services.{Leg, Service, State, service_of}
use Rattle.eon_model.specs.Legal.{Setup, is_legal}
use Rattle.eon_model.specs.Events.{Event, apply}
use Rattle.eon_model.specs.Replay.{is_asked}
use Rattle.eon_model.specs.Turnover.{leg_goes}
use Rattle.kept_rows.specs.declared.rows.KeptRows.{KeptRows}
use Rattle.kept_rows.specs.Standing.{StandsFor, MayTurn, HasTurned, of_class}
use Rattle.kept_rows.proofs.EventLaws.{leaving, going_back_making}
use Rattle.kept_rows.proofs.LeaveLaws.{goes_back, found_back, leaves_then, both_left}
use Rattle.row_events.specs.RowEvents.{CanFollowRows, MayChange, HasChanged}
use Rattle.row_events.proofs.RowEventLaws.{may, stands}

module _ (seen s : Service) (same : seen ≡ s) (new : Leg) (two : s.next ≡ Some new) where
  module _ (setup : Setup) (state : State) (name : Name) (found : service_of state name ≡ Some s) (before : KeptRows)
      (f : CanFollowRows setup state (Event.Leave name) before) where
    abbrev between : State
    between = apply setup.network state (Event.Back name)

    abbrev left : Service
    left = record s { next = None }

    -- the making can be given up
    first : CanFollowRows setup state (Event.Back name) before
    first = record {
      in_range = f.in_range;
      legal = f.legal;
      follows = goes_back setup state name s new f.legal found two;
      stands = f.stands;
    }

    pub may-first : MayTurn before (leg_goes (of_class seen.class new))
    may-first =
        subst (λ (v : Service). MayTurn before (leg_goes (of_class v.class new))) (sym same)
        (may setup state (Event.Back name) (leg_goes (of_class s.class new))
        (going_back_making setup state name s found new two) before first)

    module _ (mid : KeptRows) (h : HasTurned before mid (leg_goes (of_class seen.class new))) where
      -- then it can leave
      then-leave : CanFollowRows setup between (Event.Leave name) mid
      then-leave = record {
        in_range = f.in_range;
        legal = (and_parts (is_asked setup state (Event.Back name)) (is_legal setup between)
            (goes_back setup state name s new f.legal found two)).1;
        follows = leaves_then setup state name s new f.legal found two;
        stands = stands setup state (Event.Back name) (leg_goes (of_class s.class new))
            (going_back_making setup state name s found new two) before first mid
            (subst (λ (v : Service). HasTurned before mid (leg_goes (of_class v.class new))) same h);
      }

      pub may-second : MayTurn mid (leg_goes (of_class seen.class seen.leg))
      may-second =
          subst (λ (v : Service). MayTurn mid (leg_goes (of_class v.class v.leg))) (sym same)
          (may setup between (Event.Leave name) (leg_goes (of_class s.class s.leg))
          (leaving setup between name left (found_back setup state name s new f.legal found two) refl) mid then-leave)

      pub stands-second : (after : KeptRows) → HasTurned mid after (leg_goes (of_class seen.class seen.leg)) →
          StandsFor setup (apply setup.network state (Event.Leave name)) after
      stands-second after k =
          subst (λ (x : State). StandsFor setup x after) (both_left setup state name s new f.legal found two)
          (stands setup between (Event.Leave name) (leg_goes (of_class s.class s.leg))
          (leaving setup between name left (found_back setup state name s new f.legal found two) refl) mid then-leave after
          (subst (λ (v : Service). HasTurned mid after (leg_goes (of_class v.class v.leg))) same k))

  pub may-leave_first : (before : KeptRows) → MayChange Event.Leave s before →
      MayTurn before (leg_goes (of_class seen.class new))
  may-leave_first before m = may-first m.0 m.1 m.2 m.3 before m.4

  pub may-leave_second : (before mid : KeptRows) → MayChange Event.Leave s before →
      HasTurned before mid (leg_goes (of_class seen.class new)) → MayTurn mid (leg_goes (of_class seen.class seen.leg))
  may-leave_second before mid m h = may-second m.0 m.1 m.2 m.3 before m.4 mid h

  pub has-left_both : (before mid after : KeptRows) → HasTurned before mid (leg_goes (of_class seen.class new)) →
      HasTurned mid after (leg_goes (of_class seen.class seen.leg)) → HasChanged Event.Leave s before after
  has-left_both before mid after h k = λ setup state name found f.
      stands-second setup state name found before f mid h after k
