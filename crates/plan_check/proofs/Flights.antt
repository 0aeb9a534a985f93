-- How far a plan was judged: the moves that have landed, those under way, and those that are left.
use Rattle.std.proofs.Common.{◌≡◌, refl, sym, ◌∙◌, ap, subst, inl, inr, ℕ, ◌+◌, ◌≤◌, ◌<◌, Bool, true, false, ◌&&◌, ◌||◌, not, List, [], ◌∷◌, ◌++◌, append_assoc, length, slice_get, Option, Some, None, arith}
use Rattle.std.specs.Prelude.{nat_lt, nat_le, is_some}
use Rattle.std.specs.Option.{option_map, option_or, option_map_or}
use Rattle.std.specs.List.{list_all}
use Rattle.std.proofs.lemmas.Bool.{and_parts, and_from, or_parts, both_ways, cases_Bool, not_from_false, not-true, lt-ltb, le-ltb, ltb-true, leb-true, leb-false}
use Rattle.std.proofs.lemmas.List.{length-append}
use Rattle.std.proofs.lemmas.List.Folds.{list_all-append}
use Rattle.eon_model.specs.Lists.{all_pairs}
use Rattle.eon_model.specs.Names.{same_name}
use Rattle.eon_model.specs.Services.{State, service_of}
use Rattle.eon_model.specs.Legal.{Setup}
use Rattle.eon_model.specs.Plan.{Move}
use Rattle.eon_model.specs.Events.{Event, apply}
use Rattle.eon_model.specs.Places.{AtRest}
use Rattle.eon_model.specs.PlanCheck.{Bad, batches_ascend, bad_of, first_bad, state_before}
use Rattle.eon_model.proofs.OrderLaws.{IsIn}
use Rattle.eon_model.proofs.Members.{list_all-at, list_all-of}
use Rattle.eon_model.proofs.PairLaws.{all_pairs-append, all_across}
use Rattle.plan_check.specs.Judged.{state_with, batch_at, is_due}
use Rattle.plan_check.proofs.MovedStates.{is_named, named_parts, begins, lands, with-before}
use Rattle.plan_check.proofs.Verdicts.{Begins}

abbrev up : Move → Move → Bool
up m o = nat_le m.batch o.batch

abbrev apart : Move → Move → Bool
apart o m = not (same_name o.name m.name)

pub record Flight (setup : Setup) (state : State) (moves : List Move) (now : State) (at_landed at : ℕ) : Type 0 where
  pub landed : List Move
  pub drifting : List Move
  pub left : List Move
  pub parts : moves ≡ landed ++ (drifting ++ left)
  pub landed_is : length landed ≡ at_landed
  pub at_is : at_landed + length drifting ≡ at
  pub now_is : now ≡ state_with landed drifting state
  pub fine : first_bad setup state [] moves ≡ first_bad setup state (landed ++ drifting) left
  pub live : list_all (λ o. is_some (service_of state o.name)) drifting ≡ true
  pub fresh : all_pairs apart (landed ++ drifting) ≡ true
  pub lower : list_all (λ o. list_all (λ m. nat_lt o.batch m.batch) left) landed ≡ true
  pub rising : all_pairs up (drifting ++ left) ≡ true

module _ (setup : Setup) (state : State) (moves : List Move) where
  -- at the start
  pub flight-start : batches_ascend moves ≡ true → Flight setup state moves state 0 0
  flight-start h = record {
    landed = [];
    drifting = [];
    left = moves;
    parts = refl;
    landed_is = refl;
    at_is = refl;
    now_is = sym (as_it_is state);
    fine = refl;
    live = refl;
    fresh = refl;
    lower = refl;
    rising = h;
  }
    where
      as_it_is : (st : State) → state_with [] [] st ≡ st
      as_it_is [] = refl
      as_it_is (s ∷ st) = ap (λ v. s ∷ v) (as_it_is st)

  -- at the end
  pub flight-end : (now : State) (at_landed at : ℕ) → Flight setup state moves now at_landed at → length moves ≤ at →
      first_bad setup state [] moves ≡ None
  flight-end now at_landed at f h =
      f.fine ∙ none f.left (let e = ap length f.parts in let a = length-append f.landed (f.drifting ++ f.left) in
      let b = length-append f.drifting f.left in let l = f.landed_is in let d = f.at_is in omega arith)
    where
      none : (left : List Move) → length left ≡ 0 → first_bad setup state (f.landed ++ f.drifting) left ≡ None
      none [] e = refl
      none (m ∷ left) e = absurd (omega arith)

  -- ---- what stands at a place

  pub get_behind : (xs : List Move) (y : Move) (ys : List Move) (n : ℕ) → length xs ≡ n →
      slice_get (xs ++ y ∷ ys) n ≡ Some y
  get_behind [] y ys n e = subst (λ (k : ℕ). slice_get (y ∷ ys) k ≡ Some y) e refl
  get_behind (x ∷ xs) y ys n e = subst (λ (k : ℕ). slice_get (x ∷ xs ++ y ∷ ys) k ≡ Some y) e
      (get_behind xs y ys (length xs) refl)

  module _ (now : State) (at_landed at : ℕ) (f : Flight setup state moves now at_landed at) where
    -- the next move to be judged
    pub record Next : Type 0 where
      pub move : Move
      pub after : List Move
      pub left_is : f.left ≡ move ∷ after
      pub there : slice_get moves at ≡ Some move

    pub next-move : at < length moves → Next
    next-move h = by f.left refl
      where
        by : (left : List Move) → f.left ≡ left → Next
        by [] e =
            let p = ap length f.parts in
            let a = length-append f.landed (f.drifting ++ f.left) in
            let b = length-append f.drifting f.left in
            let c = ap length e in
            let l = f.landed_is in
            let d = f.at_is in
            absurd (omega arith)
        by (m ∷ after) e = record {
          move = m;
          after = after;
          left_is = e;
          there =
              ap (λ (ms : List Move). slice_get ms at) (f.parts ∙ sym (append_assoc f.landed f.drifting f.left)
              ∙ ap (λ (ms : List Move). (f.landed ++ f.drifting) ++ ms) e)
              ∙ get_behind (f.landed ++ f.drifting) m after at
              (let a = length-append f.landed f.drifting in let l = f.landed_is in let d = f.at_is in omega arith);
        }

    -- the first move that is under way
    pub record First : Type 0 where
      pub move : Move
      pub others : List Move
      pub drifting_is : f.drifting ≡ move ∷ others
      pub there : slice_get moves at_landed ≡ Some move

    pub first-move : at_landed < at → First
    first-move h = by f.drifting refl
      where
        by : (drifting : List Move) → f.drifting ≡ drifting → First
        by [] e = let c = ap length e in let d = f.at_is in absurd (omega arith)
        by (m ∷ others) e = record {
          move = m;
          others = others;
          drifting_is = e;
          there =
              ap (λ (ms : List Move). slice_get ms at_landed) (f.parts ∙ ap (λ (ms : List Move). f.landed ++ (ms ++ f.left)) e)
              ∙ get_behind f.landed m (others ++ f.left) at_landed f.landed_is;
        }

    some_same : {X : Type 0} (x y : X) → Some x ≡ Some y → x ≡ y
    some_same x y h = cc

    batch_there : (i : ℕ) (m : Move) → slice_get moves i ≡ Some m → batch_at moves i ≡ m.batch
    batch_there i m h = ap (λ (o : Option Move). option_map_or (λ (v : Move). v.batch) o 0) h

    module _ (below : at < length moves) where
      abbrev pub next : Next
      next = next-move below

      rising_left : all_pairs up f.left ≡ true
      rising_left =
          let p = and_parts (all_pairs up f.drifting && all_pairs up f.left) (all_across up f.drifting f.left)
          (sym (all_pairs-append up f.drifting f.left) ∙ f.rising) in
          (and_parts (all_pairs up f.drifting) (all_pairs up f.left) p.0).1

      -- ---- a move lands

      module _ (m : Move) (there : slice_get moves at_landed ≡ Some m) (due : is_due moves at_landed at ≡ true) where
        due_parts : (nat_lt at_landed at ≡ true) × (nat_lt (batch_at moves at_landed) (batch_at moves at) ≡ true)
        due_parts = and_parts (nat_lt at_landed at) (nat_lt (batch_at moves at_landed) (batch_at moves at)) due

        pub first-of : First
        first-of = first-move (ltb-true at_landed at due_parts.0)

        first_is : first-of.move ≡ m
        first_is = some_same first-of.move m (sym first-of.there ∙ there)

        drifting_is : f.drifting ≡ m ∷ first-of.others
        drifting_is = first-of.drifting_is ∙ ap (λ (o : Move). o ∷ first-of.others) first_is

        is_lower : m.batch < next.move.batch
        is_lower = ltb-true m.batch next.move.batch
            ((λ i. nat_lt (sym (batch_there at_landed m there) i) (sym (batch_there at next.move next.there) i)) ∙ due_parts.1)

        -- all that is left has a higher batch
        all_higher : list_all (λ o. nat_lt m.batch o.batch) f.left ≡ true
        all_higher =
            let r = and_parts (list_all (up next.move) next.after) (all_pairs up next.after)
            (ap (all_pairs up) (sym next.left_is) ∙ rising_left) in
            ap (list_all (λ (o : Move). nat_lt m.batch o.batch)) next.left_is
            ∙ and_from _ _ (lt-ltb m.batch next.move.batch is_lower)
            (list_all-of (λ (o : Move). nat_lt m.batch o.batch) next.after (λ o i.
            let l = leb-true next.move.batch o.batch (list_all-at (up next.move) next.after o r.0 i) in
            lt-ltb m.batch o.batch (let k = is_lower in omega arith)))

        fresh_parts : (all_pairs apart f.landed ≡ true) × (list_all (λ o. apart o m && list_all (apart o) first-of.others) f.landed ≡ true)
        fresh_parts =
            let p = and_parts (all_pairs apart f.landed && all_pairs apart (m ∷ first-of.others))
            (all_across apart f.landed (m ∷ first-of.others))
            (sym (all_pairs-append apart f.landed (m ∷ first-of.others))
            ∙ ap (λ (ds : List Move). all_pairs apart (f.landed ++ ds)) (sym drifting_is) ∙ f.fresh) in
            ((and_parts (all_pairs apart f.landed) (all_pairs apart (m ∷ first-of.others)) p.0).0, p.1)

        unnamed : (past : List Move) → list_all (λ o. apart o m && list_all (apart o) first-of.others) past ≡ true →
            is_named past m.name ≡ false
        unnamed [] h = refl
        unnamed (o ∷ past) h =
            let p = and_parts (apart o m && list_all (apart o) first-of.others) _ h in
            let q = and_parts (apart o m) (list_all (apart o) first-of.others) p.0 in
            (λ i. not-true (same_name o.name m.name) q.0 i || unnamed past p.1 i)

        pub not-landed : is_named f.landed m.name ≡ false
        not-landed = unnamed f.landed fresh_parts.1

        pub is-live : is_some (service_of state m.name) ≡ true
        is-live = (and_parts (is_some (service_of state m.name)) (list_all (λ o. is_some (service_of state o.name)) first-of.others)
            (ap (list_all (λ (o : Move). is_some (service_of state o.name))) (sym drifting_is) ∙ f.live)).0

        pub drifts : now ≡ state_with f.landed (m ∷ first-of.others) state
        drifts = f.now_is ∙ ap (λ (ds : List Move). state_with f.landed ds state) drifting_is

        pub flight-landed : AtRest state → (later : State) → later ≡ apply setup.network now (Event.Finish m.name) →
            Flight setup state moves later (at_landed + 1) at
        flight-landed rest later h = record {
          landed = f.landed ++ m ∷ [];
          drifting = first-of.others;
          left = f.left;
          parts = f.parts ∙ ap (λ (ds : List Move). f.landed ++ (ds ++ f.left)) drifting_is
              ∙ sym (append_assoc f.landed (m ∷ []) (first-of.others ++ f.left));
          landed_is = length-append f.landed (m ∷ []) ∙ ap (λ n. n + 1) f.landed_is;
          at_is = (let c = ap length drifting_is in let d = f.at_is in omega arith);
          now_is = h ∙ ap (λ (st : State). apply setup.network st (Event.Finish m.name)) drifts
              ∙ lands state f.landed first-of.others m rest not-landed;
          fine = f.fine ∙ ap (λ (past : List Move). first_bad setup state past f.left)
              (ap (λ (ds : List Move). f.landed ++ ds) drifting_is ∙ sym (append_assoc f.landed (m ∷ []) first-of.others));
          live = (and_parts (is_some (service_of state m.name)) (list_all (λ o. is_some (service_of state o.name)) first-of.others)
              (ap (list_all (λ (o : Move). is_some (service_of state o.name))) (sym drifting_is) ∙ f.live)).1;
          fresh = ap (all_pairs apart) (append_assoc f.landed (m ∷ []) first-of.others)
              ∙ ap (λ (ds : List Move). all_pairs apart (f.landed ++ ds)) (sym drifting_is) ∙ f.fresh;
          lower = list_all-append (λ (o : Move). list_all (λ v. nat_lt o.batch v.batch) f.left) f.landed (m ∷ [])
              ∙ and_from _ _ f.lower (and_from _ _ all_higher refl);
          rising = (and_parts (list_all (up m) (first-of.others ++ f.left)) (all_pairs up (first-of.others ++ f.left))
              (ap (λ (ds : List Move). all_pairs up (ds ++ f.left)) (sym drifting_is) ∙ f.rising)).1;
        }

      -- ---- a move is judged

      module _ (m : Move) (there : slice_get moves at ≡ Some m) (due : is_due moves at_landed at ≡ false) where
        next_is : next.move ≡ m
        next_is = some_same next.move m (sym next.there ∙ there)

        pub left_is : f.left ≡ m ∷ next.after
        left_is = next.left_is ∙ ap (λ (o : Move). o ∷ next.after) next_is

        low : (o : Move) → IsIn o f.landed → nat_lt o.batch m.batch ≡ true
        low o i = (and_parts (nat_lt o.batch m.batch) (list_all (λ v. nat_lt o.batch v.batch) next.after)
            (ap (list_all (λ (v : Move). nat_lt o.batch v.batch)) (sym left_is)
            ∙ list_all-at (λ (o : Move). list_all (λ v. nat_lt o.batch v.batch) f.left) f.landed o f.lower i)).0

        -- the first move that is under way has this batch or a higher one
        first_high : (o : Move) (others : List Move) → f.drifting ≡ o ∷ others → m.batch ≤ o.batch
        first_high o others e =
            let c = ap length e in
            let d = f.at_is in
            let before : nat_lt at_landed at ≡ true = lt-ltb at_landed at (omega arith) in
            let here : slice_get moves at_landed ≡ Some o =
            ap (λ (ms : List Move). slice_get ms at_landed) (f.parts ∙ ap (λ (ms : List Move). f.landed ++ (ms ++ f.left)) e)
            ∙ get_behind f.landed o (others ++ f.left) at_landed f.landed_is in
            let not_lower : nat_lt o.batch m.batch ≡ false =
            (λ i. nat_lt (sym (batch_there at_landed o here) i) (sym (batch_there at m there) i))
            ∙ ap (λ b. b && nat_lt (batch_at moves at_landed) (batch_at moves at)) (sym before) ∙ due in
            elim (cases_Bool (nat_le m.batch o.batch)) [
              | inl le ↦ leb-true m.batch o.batch le
              | inr gt ↦ absurd (both_ways _ not_lower (lt-ltb o.batch m.batch (leb-false m.batch o.batch gt)))
            ]

        all_high : (drifting : List Move) → f.drifting ≡ drifting → (o : Move) → IsIn o drifting → nat_lt o.batch m.batch ≡ false
        all_high [] e o i = absurd i
        all_high (v ∷ others) e o i =
            let top = first_high v others e in
            let r = and_parts (list_all (up v) (others ++ f.left)) (all_pairs up (others ++ f.left))
            (ap (λ (ds : List Move). all_pairs up (ds ++ f.left)) (sym e) ∙ f.rising) in
            let here = and_parts (list_all (up v) others) (list_all (up v) f.left) (sym (list_all-append (up v) others f.left) ∙ r.0) in
            elim i [
              | inl same ↦ (let k = ap (λ (w : Move). w.batch) same in le-ltb o.batch m.batch (omega arith))
              | inr more ↦
                  let l = leb-true v.batch o.batch (list_all-at (up v) others o here.0 more) in
                  le-ltb o.batch m.batch (omega arith)
            ]

        pub judged-in : now ≡ state_before m.batch (f.landed ++ f.drifting) state
        judged-in = f.now_is ∙ with-before m.batch f.landed f.drifting state low (all_high f.drifting refl)

        bad_next : (o : Option Bad) → bad_of setup state (f.landed ++ f.drifting) m ≡ o →
            first_bad setup state [] moves
            ≡ option_or (option_map (λ bad. record { number = length (f.landed ++ f.drifting) + 1; name = m.name; bad = bad }) o)
            (first_bad setup state ((f.landed ++ f.drifting) ++ m ∷ []) next.after)
        bad_next o e = f.fine ∙ ap (first_bad setup state (f.landed ++ f.drifting)) left_is
            ∙ ap (λ (v : Option Bad). option_or (option_map (λ bad. record {
              number = length (f.landed ++ f.drifting) + 1;
              name = m.name;
              bad = bad;
            }) v)
            (first_bad setup state ((f.landed ++ f.drifting) ++ m ∷ []) next.after)) e

        count_is : length (f.landed ++ f.drifting) ≡ at
        count_is =
            let a = length-append f.landed f.drifting in let l = f.landed_is in let d = f.at_is in omega arith

        pub flight-bad : (bad : Bad) → bad_of setup state (f.landed ++ f.drifting) m ≡ Some bad →
            first_bad setup state [] moves ≡ Some (record { number = at + 1; name = m.name; bad = bad })
        flight-bad bad h = bad_next (Some bad) h
            ∙ ap (λ n. Some (record { number = n + 1; name = m.name; bad = bad })) count_is

        one_apart : (o : Move) → same_name o.name m.name ≡ false → list_all (apart o) (m ∷ []) ≡ true
        one_apart o h = and_from _ _ (not_from_false _ h) refl

        all_apart : (past : List Move) → is_named past m.name ≡ false → list_all (λ o. list_all (apart o) (m ∷ [])) past ≡ true
        all_apart [] h = refl
        all_apart (o ∷ past) h =
            let p = or_parts (same_name o.name m.name) (is_named past m.name) h in
            and_from _ _ (one_apart o p.0) (all_apart past p.1)

        pub flight-begun : bad_of setup state (f.landed ++ f.drifting) m ≡ None →
            Begins setup state (f.landed ++ f.drifting) now m → (later : State) →
            later ≡ apply setup.network now (Event.Push m.name m.to) → Flight setup state moves later at_landed (at + 1)
        flight-begun good b later h =
            let new = named_parts f.landed f.drifting m.name b.fresh in
            let one_more : (f.landed ++ f.drifting) ++ m ∷ [] ≡ f.landed ++ (f.drifting ++ m ∷ []) =
            append_assoc f.landed f.drifting (m ∷ []) in
            let moved : f.drifting ++ f.left ≡ (f.drifting ++ m ∷ []) ++ next.after =
            ap (λ (ms : List Move). f.drifting ++ ms) left_is ∙ sym (append_assoc f.drifting (m ∷ []) next.after) in
            record {
              landed = f.landed;
              drifting = f.drifting ++ m ∷ [];
              left = next.after;
              parts = f.parts ∙ ap (λ (ms : List Move). f.landed ++ ms) moved;
              landed_is = f.landed_is;
              at_is = (let c = length-append f.drifting (m ∷ []) in let d = f.at_is in omega arith);
              now_is = h ∙ ap (λ (st : State). apply setup.network st (Event.Push m.name m.to)) f.now_is
                  ∙ begins state f.landed f.drifting m new.0 new.1;
              fine = bad_next None good ∙ ap (λ (past : List Move). first_bad setup state past next.after) one_more;
              live = list_all-append (λ (o : Move). is_some (service_of state o.name)) f.drifting (m ∷ [])
                  ∙ and_from _ _ f.live (and_from _ _ b.live refl);
              fresh = ap (all_pairs apart) (sym one_more) ∙ all_pairs-append apart (f.landed ++ f.drifting) (m ∷ [])
                  ∙ and_from _ _ (and_from _ _ f.fresh refl) (all_apart (f.landed ++ f.drifting) b.fresh);
              lower = list_all-of (λ (o : Move). list_all (λ v. nat_lt o.batch v.batch) next.after) f.landed (λ o i.
                  (and_parts (nat_lt o.batch m.batch) (list_all (λ v. nat_lt o.batch v.batch) next.after)
                  (ap (list_all (λ (v : Move). nat_lt o.batch v.batch)) (sym left_is)
                  ∙ list_all-at (λ (o : Move). list_all (λ v. nat_lt o.batch v.batch) f.left) f.landed o f.lower i)).1);
              rising = ap (all_pairs up) (sym moved) ∙ f.rising;
            }
