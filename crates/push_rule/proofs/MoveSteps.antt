-- The cases of `push`, `finish` and `back`, one after the other.
use Rattle.std.proofs.Common.{◌≡◌, refl, sym, ◌∙◌, ap, ℤ, Bool, true, false, not, Option, Some, None}
use Rattle.std.specs.Option.{option_map}
use Rattle.std.specs.Ordering.{int_eq}
use Rattle.eon_model.specs.declared.Part.TheVariants.{Work}
use Rattle.eon_model.specs.Grid.{Slot, Band, lies_in_band}
use Rattle.eon_model.specs.Names.{Name}
use Rattle.eon_model.specs.Services.{Service, State, is_moving, service_of, drift_units, owned}
use Rattle.eon_model.specs.Legal.{Setup}
use Rattle.eon_model.specs.Changes.{drifting_to}
use Rattle.eon_model.specs.Replies.{Reply}
use Rattle.eon_model.specs.Events.{Event}
use Rattle.eon_model.specs.Step.{Outcome, Say, Change, or_else, ◌otherwise◌, ◌when◌, for_service, first_clash, push, finish, back}

-- ---- push

-- the answer by what was found
abbrev pushed : Name → ℤ → ℤ → Bool → Bool → Bool → Option Name → Outcome
pushed name n from busy same within clash =
    Reply.Busy name when busy
    otherwise Reply.Same name when same
    otherwise Reply.Band Work when not within
    otherwise option_map Reply.Clash clash
    otherwise Change (Event.Push name n) (Reply.Pushed name from n)

module _ (setup : Setup) (band : Band) (state : State) (name : Name) (n : ℤ) (s : Service)
    (found : service_of state name ≡ Some s) (of_band : setup.band ≡ band) where
  abbrev busy : Bool
  busy = is_moving s

  abbrev same : Bool
  same = int_eq n s.leg.work.slot.n

  abbrev within : Bool
  within = lies_in_band setup.band (drift_units s.leg.work.slot (Some n))

  abbrev clash : Option Name
  clash = first_clash state (owned name s.class (drifting_to n s.leg))

  push-is : (busy' same' within' : Bool) (clash' : Option Name) → is_moving s ≡ busy' →
      int_eq n s.leg.work.slot.n ≡ same' →
      lies_in_band setup.band (drift_units s.leg.work.slot (Some n)) ≡ within' →
      first_clash state (owned name s.class (drifting_to n s.leg)) ≡ clash' →
      pushed name n s.leg.work.slot.n busy' same' within' clash' ≡ push setup state name n
  push-is busy' same' within' clash' a b c d =
      sym (ap (λ o. for_service o name (λ (v : Service). pushed name n v.leg.work.slot.n (is_moving v)
      (int_eq n v.leg.work.slot.n) (lies_in_band setup.band (drift_units v.leg.work.slot (Some n)))
      (first_clash state (owned name v.class (drifting_to n v.leg))))) found
      ∙ (λ i. pushed name n s.leg.work.slot.n (a i) (b i) (c i) (d i)))

  pub push-busy : is_moving s ≡ true → Say (Reply.Busy name) ≡ push setup state name n
  unfolding or_else
  push-busy a = push-is true same within clash a refl refl refl

  -- by the slot of the channel, and the centre, as they were read
  module _ (slot : Slot) (slot_is : slot ≡ s.leg.work.slot) (to : ℤ) (to_is : to ≡ n) where
    is_same : (b : Bool) → int_eq to slot.n ≡ b → int_eq n s.leg.work.slot.n ≡ b
    is_same b h = sym (λ i. int_eq (to_is i) ((slot_is i).n)) ∙ h

    is_within : (b : Bool) → lies_in_band band (drift_units slot (Some to)) ≡ b →
        lies_in_band setup.band (drift_units s.leg.work.slot (Some n)) ≡ b
    is_within b h = (λ i. lies_in_band (of_band i) (drift_units (sym slot_is i) (Some (sym to_is i)))) ∙ h

    is_clash : (r : Option Name) → first_clash state (owned name s.class (drifting_to to s.leg)) ≡ r →
        first_clash state (owned name s.class (drifting_to n s.leg)) ≡ r
    is_clash r h = (λ i. first_clash state (owned name s.class (drifting_to (sym to_is i) s.leg))) ∙ h

    pub push-same : is_moving s ≡ false → int_eq to slot.n ≡ true → Say (Reply.Same name) ≡ push setup state name n
    unfolding or_else
    push-same a b = push-is false true within clash a (is_same true b) refl refl

    pub push-band : is_moving s ≡ false → int_eq to slot.n ≡ false →
        lies_in_band band (drift_units slot (Some to)) ≡ false → Say (Reply.Band Work) ≡ push setup state name n
    unfolding or_else
    push-band a b c = push-is false false false clash a (is_same false b) (is_within false c) refl

    pub push-clash : (other : Name) → is_moving s ≡ false → int_eq to slot.n ≡ false →
        lies_in_band band (drift_units slot (Some to)) ≡ true →
        first_clash state (owned name s.class (drifting_to to s.leg)) ≡ Some other →
        Say (Reply.Clash other) ≡ push setup state name n
    unfolding or_else
    push-clash other a b c d =
        push-is false false true (Some other) a (is_same false b) (is_within true c) (is_clash (Some other) d)

    pub push-done : (from : ℤ) → from ≡ slot.n → is_moving s ≡ false → int_eq to slot.n ≡ false →
        lies_in_band band (drift_units slot (Some to)) ≡ true →
        first_clash state (owned name s.class (drifting_to to s.leg)) ≡ None →
        Change (Event.Push name to) (Reply.Pushed name from to) ≡ push setup state name n
    unfolding or_else
    push-done from is a b c d =
        (λ i. Change (Event.Push name (to_is i)) (Reply.Pushed name ((is ∙ ap (λ (v : Slot). v.n) slot_is) i) (to_is i)))
        ∙ push-is false false true None a (is_same false b) (is_within true c) (is_clash None d)

-- ---- finish and back

abbrev ended : Name → Event → Reply → Bool → Outcome
ended name e reply moves = Reply.Idle name when not moves otherwise Change e reply

module _ (state : State) (name : Name) (s : Service) (found : service_of state name ≡ Some s) where
  end-is : (e : Event) (reply : Reply) →
      for_service (service_of state name) name (λ v. ended name e reply (is_moving v)) ≡ ended name e reply (is_moving s)
  end-is e reply = ap (λ o. for_service o name (λ (v : Service). ended name e reply (is_moving v))) found

  end-done : (e : Event) (reply : Reply) → is_moving s ≡ true →
      Change e reply ≡ for_service (service_of state name) name (λ v. ended name e reply (is_moving v))
  unfolding or_else
  end-done e reply a = sym (end-is e reply ∙ ap (ended name e reply) a)

  end-idle : (e : Event) (reply : Reply) → is_moving s ≡ false →
      Say (Reply.Idle name) ≡ for_service (service_of state name) name (λ v. ended name e reply (is_moving v))
  unfolding or_else
  end-idle e reply a = sym (end-is e reply ∙ ap (ended name e reply) a)

  pub finish-done : is_moving s ≡ true → Change (Event.Finish name) (Reply.Finished name) ≡ finish state name
  finish-done a = end-done (Event.Finish name) (Reply.Finished name) a

  pub finish-idle : is_moving s ≡ false → Say (Reply.Idle name) ≡ finish state name
  finish-idle a = end-idle (Event.Finish name) (Reply.Finished name) a

  pub back-done : is_moving s ≡ true → Change (Event.Back name) (Reply.Backed name) ≡ back state name
  back-done a = end-done (Event.Back name) (Reply.Backed name) a

  pub back-idle : is_moving s ≡ false → Say (Reply.Idle name) ≡ back state name
  back-idle a = end-idle (Event.Back name) (Reply.Backed name) a
