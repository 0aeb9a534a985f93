-- A move is judged in the state that the moves before it have led to, as the plan's definition judges it; and a move
-- that is not bad can begin.
use Rattle.std.proofs.Common.{◌≡◌, refl, sym, ◌∙◌, ap, ℤ, Bool, true, false, cond, ◌||◌, not, List, ◌∷◌, ◌++◌, Option, Some, None, inl, inr}
use Rattle.std.specs.Prelude.{is_some}
use Rattle.std.specs.Bool.{then_some}
use Rattle.std.specs.Option.{option_map, option_or}
use Rattle.std.specs.Ordering.{int_eq}
use Rattle.std.proofs.lemmas.Bool.{both_ways, not-false, and_from}
use Rattle.eon_model.specs.declared.Part.TheVariants.{Work}
use Rattle.eon_model.specs.Grid.{lies_in_band}
use Rattle.eon_model.specs.Names.{Name, is_name, same_name}
use Rattle.eon_model.specs.CommandText.{is_centre}
use Rattle.eon_model.specs.NetworkText.{is_setup}
use Rattle.eon_model.specs.Services.{Service, State, is_moving, service_of, drift_units, owned}
use Rattle.eon_model.specs.Legal.{Setup, Legal}
use Rattle.eon_model.specs.Changes.{drifting_to}
use Rattle.eon_model.specs.Commands.{Command}
use Rattle.eon_model.specs.Replies.{Reply}
use Rattle.eon_model.specs.Events.{Event}
use Rattle.eon_model.specs.Plan.{Move}
use Rattle.eon_model.specs.Places.{AtRest}
use Rattle.eon_model.specs.Replay.{can_follow}
use Rattle.eon_model.specs.Step.{Outcome, Change, or_else, ◌otherwise◌, ◌when◌, for_service, first_clash, push}
use Rattle.eon_model.specs.PlanCheck.{Bad, Unknown, Twice, From, Same, Band, Clash, move_of, hull_clash, bad_for, bad_of, state_before}
use Rattle.eon_model.proofs.OrderLaws.{IsIn}
use Rattle.eon_model.proofs.FoundLaws.{found}
use Rattle.eon_model.proofs.NumberLaws.{same-name}
use Rattle.eon_model.proofs.SlotSteps.{int_eq-same}
use Rattle.eon_model.proofs.PlacedLaws.{Rests, Rests-of}
use Rattle.eon_model.proofs.FollowLaws.{outcome-can_follow}
use Rattle.eon_model.proofs.ListTests.{none_mapped}
use Rattle.eon_model.proofs.NameLaws.{names_equal}
use Rattle.push_rule.proofs.MoveSteps.{finish-done}
use Rattle.plan_check.specs.Judged.{refusal_of, bad_seen, bad_now, after_move, state_with}
use Rattle.plan_check.proofs.MovedStates.{is_named, named_parts, unnamed-none, service-with}

-- ---- what a push comes to

abbrev pushed : Name → ℤ → ℤ → Bool → Bool → Bool → Option Name → Outcome
pushed name n from busy same within clash =
    Reply.Busy name when busy
    otherwise Reply.Same name when same
    otherwise Reply.Band Work when not within
    otherwise option_map Reply.Clash clash
    otherwise Change (Event.Push name n) (Reply.Pushed name from n)

refused : (name : Name) (n from : ℤ) (within : Bool) (clash : Option Name) →
    refusal_of (pushed name n from false false within clash) ≡ option_or (then_some (not within) Band) (option_map Clash clash)
unfolding or_else
refused name n from false clash = refl
refused name n from true None = refl
refused name n from true (Some other) = refl

still_moves : (s : Service) → Rests s → is_moving s ≡ false
still_moves s r = (λ i. is_some (r.stands i) || is_some (r.alone i))

module _ (setup : Setup) (now : State) (name : Name) (n : ℤ) (s : Service) (there : service_of now name ≡ Some s)
    (rests : Rests s) (other : int_eq n s.leg.work.slot.n ≡ false) where
  push_of : push setup now name n ≡ pushed name n s.leg.work.slot.n false false
      (lies_in_band setup.band (drift_units s.leg.work.slot (Some n))) (first_clash now (owned name s.class (drifting_to n s.leg)))
  push_of =
      ap (λ (o : Option Service). for_service o name (λ (v : Service). pushed name n v.leg.work.slot.n (is_moving v)
      (int_eq n v.leg.work.slot.n) (lies_in_band setup.band (drift_units v.leg.work.slot (Some n)))
      (first_clash now (owned name v.class (drifting_to n v.leg))))) there
      ∙ (λ i. pushed name n s.leg.work.slot.n (still_moves s rests i) (other i)
      (lies_in_band setup.band (drift_units s.leg.work.slot (Some n))) (first_clash now (owned name s.class (drifting_to n s.leg))))

  push_refused : refusal_of (push setup now name n)
      ≡ option_or (then_some (not (lies_in_band setup.band (drift_units s.leg.work.slot (Some n)))) Band)
      (option_map Clash (first_clash now (owned name s.class (drifting_to n s.leg))))
  push_refused = ap refusal_of push_of ∙ refused name n s.leg.work.slot.n
      (lies_in_band setup.band (drift_units s.leg.work.slot (Some n))) (first_clash now (owned name s.class (drifting_to n s.leg)))

push_changes : (name : Name) (n from : ℤ) (within : Bool) (clash : Option Name) → within ≡ true → clash ≡ None →
    pushed name n from false false within clash ≡ Change (Event.Push name n) (Reply.Pushed name from n)
unfolding or_else
push_changes name n from within clash a b = λ i. pushed name n from false false (a i) (b i)

-- ---- the verdict on one move

-- no cause, and none behind it
first_none : (b : Bool) (why : Bad) (rest : Option Bad) → option_or (then_some b why) rest ≡ None →
    (b ≡ false) × (rest ≡ None)
first_none true why rest h = absurd (cc)
first_none false why rest h = (refl, h)

-- the service is there, no move before is of it, and the push can follow
pub record Begins (setup : Setup) (state : State) (earlier : List Move) (now : State) (m : Move) : Type 0 where
  pub live : is_some (service_of state m.name) ≡ true
  pub fresh : is_named earlier m.name ≡ false
  pub follows : can_follow setup now (Event.Push m.name m.to) ≡ true

last_causes : (from same : Bool) (a b : Option Bad) → (from ≡ true → same ≡ false → a ≡ b) →
    option_or (then_some (not from) From) (option_or (then_some same Same) a)
    ≡ option_or (then_some (not from) From) (option_or (then_some same Same) b)
last_causes false same a b h = refl
last_causes true true a b h = refl
last_causes true false a b h = h refl refl

all_causes : (twice : Bool) (a b : Option Bad) → (twice ≡ false → a ≡ b) →
    option_or (then_some twice Twice) a ≡ option_or (then_some twice Twice) b
all_causes true a b h = refl
all_causes false a b h = h refl

module _ (setup : Setup) (state : State) (rest : AtRest state) (landed drifting : List Move) (m : Move)
    (now : State) (now_is : now ≡ state_with landed drifting state)
    (judged : now ≡ state_before m.batch (landed ++ drifting) state) where
  abbrev earlier : List Move
  earlier = landed ++ drifting

  -- a service that no move has named is as it was
  as_it_was : (s : Service) → is_named landed s.name ≡ false → is_named drifting s.name ≡ false →
      after_move (move_of landed s.name) (move_of drifting s.name) s ≡ s
  as_it_was s a b = λ i. after_move (unnamed-none landed s.name a i) (unnamed-none drifting s.name b i) s

  module _ (s : Service) (i : IsIn s state) (there : service_of state m.name ≡ Some s) (same : same_name s.name m.name ≡ true)
      (fresh : is_named earlier m.name ≡ false) where
    own : s.name ≡ m.name
    own = same-name s.name m.name same

    apart : (is_named landed m.name ≡ false) × (is_named drifting m.name ≡ false)
    apart = named_parts landed drifting m.name fresh

    service_there : service_of now m.name ≡ Some s
    service_there = ap (λ (st : State). service_of st m.name) now_is ∙ service-with landed drifting state m.name
        ∙ ap (option_map (λ (v : Service). after_move (move_of landed v.name) (move_of drifting v.name) v)) there
        ∙ ap Some (as_it_was s (ap (is_named landed) own ∙ apart.0) (ap (is_named drifting) own ∙ apart.1))

    clash_is : first_clash now (owned m.name s.class (drifting_to m.to s.leg)) ≡ hull_clash state earlier m s
    clash_is = λ k. first_clash (judged k) (owned (sym own k) s.class (drifting_to m.to s.leg))

  -- where the service is there, with the name or without
  known : (s : Service) → IsIn s state → service_of state m.name ≡ Some s → same_name s.name m.name ≡ true →
      (v : Option Service) → service_of now m.name ≡ v → bad_seen setup now earlier m v ≡ bad_for setup state earlier m (Some s)
  known s i there same None e =
      let moved = ap (λ (st : State). service_of st m.name) now_is ∙ service-with landed drifting state m.name
      ∙ ap (option_map (λ (v : Service). after_move (move_of landed v.name) (move_of drifting v.name) v)) there in
      let none : None ≡ Some (after_move (move_of landed s.name) (move_of drifting s.name) s) = sym e ∙ moved in
      absurd (cc)
  known s i there same (Some v) e = all_causes (is_named earlier m.name) _ _ λ fresh.
      let is : v ≡ s = (let k : Some v ≡ Some s = sym e ∙ service_there s i there same fresh in cc) in
      let here = service_there s i there same fresh in
      ap (λ (u : Service). option_or (then_some (not (int_eq m.from u.leg.work.slot.n)) From)
      (option_or (then_some (int_eq m.to m.from) Same) (refusal_of (push setup now m.name m.to)))) is
      ∙ last_causes (int_eq m.from s.leg.work.slot.n) (int_eq m.to m.from) _ _ λ from moves.
      let at : m.from ≡ s.leg.work.slot.n = int_eq-same m.from s.leg.work.slot.n from in
      push_refused setup now m.name m.to s here (Rests-of state rest s i) (ap (int_eq m.to) (sym at) ∙ moves)
      ∙ ap (λ (o : Option Name). option_or (then_some (not (lies_in_band setup.band (drift_units s.leg.work.slot (Some m.to)))) Band)
      (option_map Clash o)) (clash_is s i there same fresh)

  -- the move is judged so
  pub verdict-is : bad_now setup now earlier m ≡ bad_of setup state earlier m
  verdict-is = elim (found (λ (s : Service). same_name s.name m.name) state) [
    | inl none ↦
        let gone : service_of now m.name ≡ None = ap (λ (st : State). service_of st m.name) now_is
        ∙ service-with landed drifting state m.name
        ∙ ap (option_map (λ (v : Service). after_move (move_of landed v.name) (move_of drifting v.name) v)) none.0 in
        ap (bad_seen setup now earlier m) gone ∙ sym (ap (bad_for setup state earlier m) none.0)
    | inr some ↦ known some.0 some.2 some.1 some.3 (service_of now m.name) refl
        ∙ sym (ap (bad_for setup state earlier m) some.1)
  ]

  -- and where it is not bad, it is of a service, no move before has its name, and it can begin
  pub may-begin : is_setup setup ≡ true → Legal setup now → is_name m.name ≡ true → is_centre m.to ≡ true →
      bad_of setup state earlier m ≡ None → Begins setup state earlier now m
  may-begin ok legal name centre h = elim (found (λ (s : Service). same_name s.name m.name) state) [
    | inl none ↦
        let no : Some Unknown ≡ None = sym (ap (bad_for setup state earlier m) none.0) ∙ h in
        absurd (cc)
    | inr some ↦
        let s = some.0 in
        let slot = s.leg.work.slot in
        let fits = lies_in_band setup.band (drift_units slot (Some m.to)) in
        let a = first_none (is_named earlier m.name) Twice _ (sym (ap (bad_for setup state earlier m) some.1) ∙ h) in
        let b = first_none (not (int_eq m.from slot.n)) From _ a.1 in
        let c = first_none (int_eq m.to m.from) Same _ b.1 in
        let d = first_none (not fits) Band _ c.1 in
        let clear : hull_clash state earlier m s ≡ None = none_mapped Clash _ d.1 in
        let at : m.from ≡ slot.n = int_eq-same m.from slot.n (not-false _ b.0) in
        let change = push_changes m.name m.to slot.n fits (first_clash now (owned m.name s.class (drifting_to m.to s.leg)))
        (not-false _ d.0) (clash_is s some.2 some.1 some.3 a.0 ∙ clear) in
        record {
          live = ap is_some some.1;
          fresh = a.0;
          follows = outcome-can_follow setup now (Command.Push m.name m.to) (Event.Push m.name m.to)
              (Reply.Pushed m.name slot.n m.to) ok (and_from _ _ name centre) legal
              (push_of setup now m.name m.to s (service_there s some.2 some.1 some.3 a.0) (Rests-of state rest s some.2)
              (ap (int_eq m.to) (sym at) ∙ c.0) ∙ change);
        }
  ]

-- ---- a move that is under way can land

module _ (setup : Setup) (state : State) (landed drifting : List Move) (m : Move) (now : State)
    (now_is : now ≡ state_with landed (m ∷ drifting) state) where
  under_way : (s : Service) → is_moving (after_move None (Some m) s) ≡ true
  under_way s = refl

  pub may-land : is_setup setup ≡ true → Legal setup now → is_name m.name ≡ true → is_named landed m.name ≡ false →
      is_some (service_of state m.name) ≡ true → can_follow setup now (Event.Finish m.name) ≡ true
  may-land ok legal name fresh live = elim (found (λ (s : Service). same_name s.name m.name) state) [
    | inl none ↦ absurd (both_ways _ (ap is_some none.0) live)
    | inr some ↦
        let s = some.0 in
        let own : s.name ≡ m.name = same-name s.name m.name some.3 in
        let none : move_of landed s.name ≡ None = unnamed-none landed s.name (ap (is_named landed) own ∙ fresh) in
        let first : move_of (m ∷ drifting) s.name ≡ Some m =
        ap (λ b. cond b (Some m) (move_of drifting s.name)) (names_equal.symm m.name s.name ∙ some.3) in
        let there : service_of now m.name ≡ Some (after_move None (Some m) s) =
        ap (λ (st : State). service_of st m.name) now_is ∙ service-with landed (m ∷ drifting) state m.name
        ∙ ap (option_map (λ (v : Service). after_move (move_of landed v.name) (move_of (m ∷ drifting) v.name) v)) some.1
        ∙ (λ i. Some (after_move (none i) (first i) s)) in
        outcome-can_follow setup now (Command.Finish m.name) (Event.Finish m.name) (Reply.Finished m.name) ok name legal
        (sym (finish-done now m.name (after_move None (Some m) s) there (under_way s)))
  ]
