-- Each step of judging a plan, by the places of its moves.
use Rattle.std.proofs.Common.{◌≡◌, refl, sym, ◌∙◌, ap, ℕ, zero, suc, ◌+◌, ◌<◌, true, false, List, [], ◌∷◌, ◌++◌, append_assoc, length, take, slice_get, get_or, Some, None, arith}
use Rattle.std.specs.Prelude.{nat_lt}
use Rattle.std.specs.Option.{option_map}
use Rattle.std.specs.List.{list_all}
use Rattle.std.proofs.lemmas.Bool.{and_parts, ltb-true}
use Rattle.std.proofs.lemmas.List.{length-append}
use Rattle.std.proofs.lemmas.Option.{slice_get-get_or, slice_get-map}
use Rattle.eon_model.specs.NetworkText.{is_setup}
use Rattle.eon_model.specs.Services.{State}
use Rattle.eon_model.specs.Legal.{Setup, Legal}
use Rattle.eon_model.specs.Plan as model
use Rattle.eon_model.specs.Places.{AtRest}
use Rattle.eon_model.specs.Events.{Event, apply}
use Rattle.eon_model.specs.Replay.{can_follow}
use Rattle.eon_model.specs.PlanTexts.{is_move_line}
use Rattle.eon_model.specs.PlanCheck.{Bad, bad_of, first_bad}
use Rattle.eon_model.proofs.MovesAgain.{move_parts}
use Rattle.plan_texts.specs.declared.moves.Move.{Move}
use Rattle.plan_texts.specs.Told.{move_told, moves_told}
use Rattle.plan_check.specs.Judged.{bad_now, batch_at, is_due}
use Rattle.plan_check.proofs.Verdicts.{Begins, verdict-is, may-begin, may-land}
use Rattle.plan_check.proofs.Flights.{Flight, not-landed, is-live, drifts, flight-landed, judged-in, flight-bad, flight-begun, first-of}

-- the first elements of a list
take_front : (xs ys : List model.Move) → take (length xs) (xs ++ ys) ≡ xs
take_front [] ys = refl
take_front (x ∷ xs) ys = ap (λ (zs : List model.Move). x ∷ zs) (take_front xs ys)

-- ---- places

pub told-at : (xs : List Move) (i : ℕ) (d : Move) → i < length xs → slice_get (moves_told xs) i ≡ Some (move_told (get_or xs i d))
told-at xs i d h = slice_get-map move_told xs i ∙ ap (option_map move_told) (slice_get-get_or xs i d h)

pub told-take : (n : ℕ) (xs : List Move) → moves_told (take n xs) ≡ take n (moves_told xs)
told-take zero [] = refl
told-take zero (x ∷ xs) = refl
told-take (suc n) [] = refl
told-take (suc n) (x ∷ xs) = ap (λ (ms : List model.Move). move_told x ∷ ms) (told-take n xs)

pub due-before : (moves : List model.Move) (landed at : ℕ) → is_due moves landed at ≡ true → landed < at
due-before moves landed at h = ltb-true landed at (and_parts (nat_lt landed at) (nat_lt (batch_at moves landed) (batch_at moves at)) h).0

pub in-range-at : (moves : List model.Move) (i : ℕ) (m : model.Move) → list_all is_move_line moves ≡ true →
    slice_get moves i ≡ Some m → is_move_line m ≡ true
in-range-at [] i m h e = absurd (let no : None ≡ Some m = e in cc)
in-range-at (o ∷ moves) i m h e =
    let parts = and_parts (is_move_line o) (list_all is_move_line moves) h in
    by i parts.0 (λ j k. in-range-at moves j m parts.1 k) e
  where
    by : (i : ℕ) → is_move_line o ≡ true → ((j : ℕ) → slice_get moves j ≡ Some m → is_move_line m ≡ true) →
        slice_get (o ∷ moves) i ≡ Some m → is_move_line m ≡ true
    by zero first more k = let same : o ≡ m = cc in ap is_move_line (sym same) ∙ first
    by (suc j) first more k = more j k

module _ (setup : Setup) (state : State) (rest : AtRest state) (moves : List model.Move) (now : State) (landed at : ℕ)
    (f : Flight setup state moves now landed at) (below : at < length moves) where
  abbrev past : List model.Move
  past = f.landed ++ f.drifting

  -- ---- a move lands

  pub step-may-land : (m : model.Move) → slice_get moves landed ≡ Some m → is_due moves landed at ≡ true →
      is_setup setup ≡ true → Legal setup now → is_move_line m ≡ true →
      can_follow setup now (Event.Finish m.name) ≡ true
  step-may-land m there due ok legal line =
      let p = move_parts m line in
      let others = (first-of setup state moves now landed at f below m there due).others in
      may-land setup state f.landed others m now (drifts setup state moves now landed at f below m there due) ok legal p.name
      (not-landed setup state moves now landed at f below m there due) (is-live setup state moves now landed at f below m there due)

  pub step-landed : (m : model.Move) → slice_get moves landed ≡ Some m → is_due moves landed at ≡ true → (later : State) →
      later ≡ apply setup.network now (Event.Finish m.name) → Flight setup state moves later (landed + 1) at
  step-landed m there due later h = flight-landed setup state moves now landed at f below m there due rest later h

  -- ---- a move is judged

  module _ (m : model.Move) (there : slice_get moves at ≡ Some m) (due : is_due moves landed at ≡ false)
      (earlier : List model.Move) (earlier_is : earlier ≡ take at moves) where
    past_is : earlier ≡ past
    past_is =
        let a = length-append f.landed f.drifting in
        let l = f.landed_is in
        let d = f.at_is in
        let count : at ≡ length past = omega arith in
        earlier_is ∙ ap (λ n. take n moves) count
        ∙ ap (take (length past)) (f.parts ∙ sym (append_assoc f.landed f.drifting f.left)) ∙ take_front past f.left

    verdict : bad_now setup now earlier m ≡ bad_of setup state past m
    verdict = ap (λ (ms : List model.Move). bad_now setup now ms m) past_is
        ∙ verdict-is setup state rest f.landed f.drifting m now f.now_is (judged-in setup state moves now landed at f below m there due)

    pub step-bad : (bad : Bad) → bad_now setup now earlier m ≡ Some bad →
        first_bad setup state [] moves ≡ Some (record { number = at + 1; name = m.name; bad = bad })
    step-bad bad h = flight-bad setup state moves now landed at f below m there due bad (sym verdict ∙ h)

    begins : bad_now setup now earlier m ≡ None → is_setup setup ≡ true → Legal setup now → is_move_line m ≡ true →
        Begins setup state past now m
    begins h ok legal line =
        let p = move_parts m line in
        may-begin setup state rest f.landed f.drifting m now f.now_is (judged-in setup state moves now landed at f below m there due)
        ok legal p.name p.to (sym verdict ∙ h)

    pub step-may-begin : bad_now setup now earlier m ≡ None → is_setup setup ≡ true → Legal setup now → is_move_line m ≡ true →
        can_follow setup now (Event.Push m.name m.to) ≡ true
    step-may-begin h ok legal line = (begins h ok legal line).follows

    pub step-begun : bad_now setup now earlier m ≡ None → is_setup setup ≡ true → Legal setup now → is_move_line m ≡ true →
        (later : State) → later ≡ apply setup.network now (Event.Push m.name m.to) →
        Flight setup state moves later landed (at + 1)
    step-begun h ok legal line later e =
        flight-begun setup state moves now landed at f below m there due (sym verdict ∙ h) (begins h ok legal line) later e
