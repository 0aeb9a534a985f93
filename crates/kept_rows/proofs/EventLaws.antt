-- What each event turns over, told by legs.
use Rattle.std.proofs.Common.{◌≡◌, refl, sym, ◌∙◌, ap, ℤ, Bool, true, cond, List, [], ◌∷◌, ◌++◌, map, Option, Some, None}
use Rattle.std.specs.Option.{option_map, option_to_list, unwrap_or}
use Rattle.std.specs.List.{flat_map}
use Rattle.eon_model.specs.declared.Class.{Class}
use Rattle.eon_model.specs.Grid.{units_of, moved_to}
use Rattle.eon_model.specs.Names.{Name}
use Rattle.eon_model.specs.Services.{Path, Leg, Service, State, Holding, service_of, drift_units, holding_of}
use Rattle.eon_model.specs.Legal.{Setup, is_shared}
use Rattle.eon_model.specs.Changes.{drifting_to, path_moved, backup_at}
use Rattle.eon_model.specs.Events.{Event, EnterText, LegText, leg_told}
use Rattle.eon_model.specs.Listings.{lit_by}
use Rattle.eon_model.specs.Occupied.{Reserve, reserves_by, leg_of_service}
use Rattle.eon_model.specs.Turnover.{Turnover, turnover, of_service, channel_moves, leg_comes, leg_goes, service_goes, finish_moves, back_moves, backup_moves}
use Rattle.kept_rows.specs.Standing.{of_class, channel_takes, backup_takes, reserves_on}

no_more : {X : Type 0} (xs : List X) → (xs ++ []) ≡ xs
no_more [] = refl
no_more (x ∷ xs) = ap (λ ys. x ∷ ys) (no_more xs)

pub entering : (setup : Setup) (state : State) (t : EnterText) →
    turnover setup.network state (Event.Enter t) ≡ leg_comes (of_class t.class (leg_told setup.network t.leg))
entering setup state t =
    let l = of_class t.class (leg_told setup.network t.leg) in
    λ i. record { lit_out = []; lit_in = no_more (lit_by l) i; held_out = []; held_in = no_more (reserves_by l) i }

abbrev the_legs : Service → Option Leg → Turnover
the_legs s o = record {
  lit_out = flat_map lit_by (map (leg_of_service s) (s.leg ∷ option_to_list o));
  lit_in = [];
  held_out = flat_map reserves_by (map (leg_of_service s) (s.leg ∷ option_to_list o));
  held_in = [];
}

module _ (setup : Setup) (state : State) (name : Name) (s : Service) (found : service_of state name ≡ Some s) where
  by : (moves : Service → Turnover) → of_service moves (service_of state name) ≡ moves s
  by moves = ap (of_service moves) found

  one_goes : (o : Option Leg) → o ≡ None → the_legs s o ≡ leg_goes (of_class s.class s.leg)
  one_goes o e = ap (the_legs s) e
      ∙ (λ i. record {
        lit_out = no_more (lit_by (of_class s.class s.leg)) i;
        lit_in = [];
        held_out = no_more (reserves_by (of_class s.class s.leg)) i;
        held_in = [];
      })

  pub leaving : s.next ≡ None → turnover setup.network state (Event.Leave name) ≡ leg_goes (of_class s.class s.leg)
  leaving e = by service_goes ∙ one_goes s.next e

  pub pushing : (n : ℤ) → turnover setup.network state (Event.Push name n)
      ≡ channel_takes s.leg (drift_units s.leg.work.slot (Some n))
  pushing n = by (λ s. channel_moves s.leg (drifting_to n s.leg))

  pub finishing : s.next ≡ None → turnover setup.network state (Event.Finish name)
      ≡ channel_takes s.leg (units_of (moved_to s.leg.work.slot (unwrap_or s.leg.to s.leg.work.slot.n)))
  finishing e = by (λ s. finish_moves s s.next) ∙ ap (finish_moves s) e

  pub going_back : s.next ≡ None → turnover setup.network state (Event.Back name)
      ≡ channel_takes s.leg (units_of s.leg.work.slot)
  going_back e = by (λ s. back_moves s s.next) ∙ ap (back_moves s) e

  pub finishing_making : (new : Leg) → s.next ≡ Some new →
      turnover setup.network state (Event.Finish name) ≡ leg_goes (of_class s.class s.leg)
  finishing_making new e = by (λ s. finish_moves s s.next) ∙ ap (finish_moves s) e

  pub going_back_making : (new : Leg) → s.next ≡ Some new →
      turnover setup.network state (Event.Back name) ≡ leg_goes (of_class s.class new)
  going_back_making new e = by (λ s. back_moves s s.next) ∙ ap (back_moves s) e

  pub making : (class : Class) (l : LegText) → turnover setup.network state (Event.Make name class l)
      ≡ leg_comes (of_class s.class (leg_told setup.network l))
  making class l = by (λ s. leg_comes (leg_of_service s (leg_told setup.network l)))

  abbrev reserve : Holding → Reserve
  reserve h = record { work = s.leg.work.route; backup = h }

  abbrev shared_moves : (n : ℤ) (c : Bool) (o : Option Path) → Turnover
  shared_moves n c o = record {
    lit_out = [];
    lit_in = [];
    held_out = map (λ h. reserve h) (cond c (map holding_of (option_to_list o)) []);
    held_in = map (λ h. reserve h) (cond c (map holding_of (option_to_list (option_map (λ b. path_moved b n) o))) []);
  }

  pub refitting : (b : Path) (n : ℤ) → is_shared s.class ≡ true → s.leg.back ≡ Some b →
      turnover setup.network state (Event.Refit name n) ≡ backup_takes s.leg (units_of (moved_to b.slot n))
  refitting b n shared e =
      by (λ s. backup_moves (leg_of_service s s.leg) (leg_of_service s (backup_at n s.leg)))
      ∙ (λ i. shared_moves n (shared i) (e i))
      ∙ (λ i. record {
        lit_out = [];
        lit_in = [];
        held_out = reserves_on s.leg (sym e i);
        held_in = map (λ p. record {
          work = s.leg.work.route;
          backup = record { route = p.route; units = units_of (moved_to b.slot n) };
        }) (option_to_list (sym e i));
      })
