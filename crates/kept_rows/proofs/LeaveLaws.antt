-- A service that is making leaves as if its making was given up first.
use Rattle.std.proofs.Common.{◌≡◌, refl, ◌∙◌, ap, Bool, true, false, cond, ◌||◌, not, [], ◌∷◌, Option, Some, None}
use Rattle.std.specs.Prelude.{is_some}
use Rattle.std.specs.Option.{option_map_or}
use Rattle.std.proofs.lemmas.Bool.{and_from}
use Rattle.eon_model.specs.Names.{Name, same_name}
use Rattle.eon_model.specs.Services.{Leg, Service, State, service_of, is_drifting, is_moving}
use Rattle.eon_model.specs.Legal.{Setup, is_legal, Legal}
use Rattle.eon_model.specs.Changes.{change_service, without_service, undone, undone_by}
use Rattle.eon_model.specs.Events.{Event, apply}
use Rattle.eon_model.specs.Replay.{is_asked, can_follow}
use Rattle.eon_model.proofs.LegalLaws.{Legal-without}
use Rattle.eon_model.proofs.ShrinkLaws.{Legal-undone}

or_true : (a : Bool) → (a || true) ≡ true
or_true true = refl
or_true false = refl

-- ---- a change of one service

module _ (name : Name) (change : Service → Service) (keeps : (s : Service) → (change s).name ≡ s.name) where
  changed_name : (s : Service) (b : Bool) → same_name s.name name ≡ b →
      same_name (cond b (change s) s).name name ≡ b
  changed_name s true e = ap (λ n. same_name n name) (keeps s) ∙ e
  changed_name s false e = e

  pub without_changed : (state : State) → without_service name (change_service name change state) ≡ without_service name state
  without_changed [] = refl
  without_changed (s ∷ state) = by (same_name s.name name) refl (without_changed state)
    where
      by : (b : Bool) → same_name s.name name ≡ b →
          without_service name (change_service name change state) ≡ without_service name state →
          cond (not (same_name (cond b (change s) s).name name))
          (cond b (change s) s ∷ without_service name (change_service name change state))
          (without_service name (change_service name change state))
          ≡ cond (not b) (s ∷ without_service name state) (without_service name state)
      by true e rest =
          (λ i. cond (not (changed_name s true e i)) (change s ∷ without_service name (change_service name change state))
          (without_service name (change_service name change state))) ∙ rest
      by false e rest =
          (λ i. cond (not (changed_name s false e i)) (s ∷ without_service name (change_service name change state))
          (without_service name (change_service name change state))) ∙ ap (λ (ss : State). s ∷ ss) rest

  pub changed_found : (state : State) (s : Service) → service_of state name ≡ Some s →
      service_of (change_service name change state) name ≡ Some (change s)
  changed_found [] s e = cc
  changed_found (x ∷ state) s e = by (same_name x.name name) refl e (changed_found state s)
    where
      by : (b : Bool) → same_name x.name name ≡ b → cond b (Some x) (service_of state name) ≡ Some s →
          (service_of state name ≡ Some s → service_of (change_service name change state) name ≡ Some (change s)) →
          cond (same_name (cond b (change x) x).name name) (Some (cond b (change x) x))
          (service_of (change_service name change state) name) ≡ Some (change s)
      by true h k more =
          let same : x ≡ s = cc in
          (λ i. cond (changed_name x true h i) (Some (change x)) (service_of (change_service name change state) name))
          ∙ ap (λ (y : Service). Some (change y)) same
      by false h k more =
          (λ i. cond (changed_name x false h i) (Some x) (service_of (change_service name change state) name)) ∙ more k

undone_name : (s : Service) → (undone s).name ≡ s.name
undone_name s = by s.next
  where
    by : (o : Option Leg) → (undone_by s o).name ≡ s.name
    by None = refl
    by (Some new) = refl

-- ---- the two steps

module _ (setup : Setup) (state : State) (name : Name) (s : Service) (new : Leg) (legal : Legal setup state)
    (found : service_of state name ≡ Some s) (next : s.next ≡ Some new) where
  pub goes_back : can_follow setup state (Event.Back name) ≡ true
  goes_back =
      and_from (is_asked setup state (Event.Back name)) (is_legal setup (change_service name undone state))
      (ap (λ (o : Option Service). option_map_or is_moving o false) found
      ∙ ap (λ (o : Option Leg). is_drifting s.leg || is_some o) next ∙ or_true (is_drifting s.leg))
      (Legal-undone setup name state legal)

  pub found_back : service_of (apply setup.network state (Event.Back name)) name ≡ Some (record s { next = None })
  found_back = changed_found name undone undone_name state s found ∙ ap (λ (o : Option Leg). Some (undone_by s o)) next

  pub leaves_then : can_follow setup (apply setup.network state (Event.Back name)) (Event.Leave name) ≡ true
  leaves_then =
      let back = apply setup.network state (Event.Back name) in
      and_from (is_asked setup back (Event.Leave name)) (is_legal setup (without_service name back))
      (ap is_some found_back) (Legal-without setup name back (Legal-undone setup name state legal))

  pub both_left : apply setup.network (apply setup.network state (Event.Back name)) (Event.Leave name)
      ≡ apply setup.network state (Event.Leave name)
  both_left = without_changed name undone undone_name state
