-- One mover after the other gets the batch of its turn.
use Rattle.std.proofs.Common.{◌≡◌, refl, sym, ◌∙◌, ap, subst, ℕ, zero, suc, ◌+◌, ◌<◌, ◌≤◌, ◌⊎◌, inl, inr, ℤ, true, List, [], ◌∷◌, map, set, length, get_or, Option, Some, None, Vec, Global, get_or-set_same, length-set, arith}
use Rattle.std.specs.Prelude.{fold, slice_get, ◌^◌, Result, Ok, Err, IfOk, OnOk}
use Rattle.std.specs.List.{AllZip}
use Rattle.std.specs.List.Sorted.{IsNonDecreasingBy}
use Rattle.std.specs.Option.{option_map}
use Rattle.std.proofs.lemmas.Bool.{cases_eq, cases_lt}
use Rattle.std.proofs.lemmas.List.{length-map}
use Rattle.std.proofs.Math.Seq.{map-set_same}
use Rattle.std.proofs.lemmas.Option.{slice_get_within, get_or_from_slice_get, slice_get-get_or, slice_get-map, slice_get_read}
use Rattle.eon_model.specs.Lists.{has_number}
use Rattle.eon_model.specs.Services.{Service, State, service_of}
use Rattle.eon_model.specs.Plan as plan
use Rattle.eon_model.specs.Plan.{old_path, waits_for}
use Rattle.eon_model.proofs.OrderLaws.{IsIn}
use Rattle.compact_plan.specs.Tops.{end_height}
use Rattle.compact_plan.specs.declared.answers.Move.{Move}
use Rattle.plan_batches.specs.declared.mover.Mover.{Mover}
use Rattle.plan_batches.specs.declared.turn.Turn.{Turn}
use Rattle.plan_batches.specs.Awaited.{awaited}
use Rattle.plan_batches.specs.Movers.{IsMover}
use Rattle.plan_batches.specs.Rows.{row, turns_on, AreEmpty, GainsOn}
use Rattle.plan_batches.specs.Batches.{AreFew, IsMoverOf, AreMovers, batch_after, move_given, turn_given, first_for, GivesTurn, bare, IsTurnOf, AreTurnsOf, IsGiven, AreGiven}
use Rattle.plan_batches.proofs.AwaitedLaws.{Awaits, awaits-fold}
use Rattle.plan_batches.proofs.MeetLaws.{waits-below}
use Rattle.plan_batches.proofs.RowLaws.{GainsIn, gains-in, to_among}
use Rattle.plan_batches.proofs.TurnSteps.{TellsTurnOn, RowsTell, given_batch, given_name, of_flat}

-- ---- lists

-- the partner at the same place
partner : {A B : Type 0} (R : A → B → Type 0) (xs : List A) (ys : List B) (p : ℕ) (y : B) → AllZip R xs ys →
    slice_get ys p ≡ Some y → (x : A) × (slice_get xs p ≡ Some x) × R x y
partner R [] [] p y z e = cc
partner R [] (w ∷ ys) p y z e = absurd z
partner R (x ∷ xs) [] p y z e = absurd z
partner R (x ∷ xs) (w ∷ ys) zero y z e = let same : w ≡ y = cc in (x, refl, subst (λ (v : _). R x v) same z.0)
partner R (x ∷ xs) (w ∷ ys) (suc p) y z e = partner R xs ys p y z.1 e

mate : {A B : Type 0} (R : A → B → Type 0) (xs : List A) (ys : List B) (p : ℕ) (x : A) → AllZip R xs ys →
    slice_get xs p ≡ Some x → (y : B) × (slice_get ys p ≡ Some y) × R x y
mate R [] [] p x z e = cc
mate R [] (w ∷ ys) p x z e = absurd z
mate R (v ∷ xs) [] p x z e = absurd z
mate R (v ∷ xs) (w ∷ ys) zero x z e = let same : v ≡ x = cc in (w, refl, subst (λ (u : _). R u w) same z.0)
mate R (v ∷ xs) (w ∷ ys) (suc p) x z e = mate R xs ys p x z.1 e

-- what holds at each place holds along both lists
zip_by : {A B : Type 0} (R : A → B → Type 0) (xs : List A) (ys : List B) → length xs ≡ length ys →
    ((p : ℕ) (x : A) (y : B) → slice_get xs p ≡ Some x → slice_get ys p ≡ Some y → R x y) → AllZip R xs ys
zip_by R [] [] long h = tt
zip_by R [] (y ∷ ys) long h = absurd (omega arith)
zip_by R (x ∷ xs) [] long h = absurd (omega arith)
zip_by R (x ∷ xs) (y ∷ ys) long h =
    (h zero x y refl refl, zip_by R xs ys (omega arith) (λ p a b e f. h (suc p) a b e f))

long_zip : {A B : Type 0} (R : A → B → Type 0) (xs : List A) (ys : List B) → AllZip R xs ys → length xs ≡ length ys
long_zip R [] [] z = refl
long_zip R [] (y ∷ ys) z = absurd z
long_zip R (x ∷ xs) [] z = absurd z
long_zip R (x ∷ xs) (y ∷ ys) z = ap suc (long_zip R xs ys z.1)

same_some : {A : Type 0} (o : Option A) (x y : A) → o ≡ Some x → o ≡ Some y → x ≡ y
same_some o x y e f = cc

some_of : {A : Type 0} (x y : A) → Some x ≡ Some y → x ≡ y
some_of x y e = cc

-- ---- one move

-- a mover is that of a move whatever the batches are
pub mover-now : (state : State) (old now : List Move) (m : Mover) → map bare now ≡ map bare old → IsMoverOf state old m →
    IsMoverOf state now m
mover-now state old now m same of = by (slice_get now m.place) refl
    (sym (slice_get-map bare now m.place) ∙ ap (λ (ms : List Move). slice_get ms m.place) same
    ∙ slice_get-map bare old m.place ∙ ap (option_map bare) of.there)
  where
    by : (o : Option Move) → slice_get now m.place ≡ o → option_map bare o ≡ Some (bare of.move) → IsMoverOf state now m
    by None e h = cc
    by (Some x) e h =
        let is = some_of (bare x) (bare of.move) h in
        record {
          move = x;
          there = e;
          service = of.service;
          found = ap (λ (y : Move). service_of state y.name) is ∙ of.found;
          mover = subst (λ (to : ℤ). IsMover of.service to m) (sym (ap (λ (y : Move). y.to) is)) of.mover;
        }

-- the next batch can be counted
pub few_after : (m : Mover) (rows : List (Vec Turn Global)) (fibres : List ℕ) → AreFew rows →
    batch_after (fold (awaited m) None (turns_on rows fibres)) < 2 ^ 64
few_after m rows fibres few = by (fold (awaited m) None (turns_on rows fibres)) (awaits-fold m (turns_on rows fibres))
  where
    by : (o : Option Turn) → Awaits m (λ t. IsIn t (turns_on rows fibres)) o → batch_after o < 2 ^ 64
    by None a = omega arith
    by (Some b) a =
        let on = of_flat (row rows) fibres b a.there in
        few on.0 b (to_among b (row rows on.0) on.1.1)

IfOk-map : {X E : Type 0} (P Q : X → Type 0) (r : Result X E) → ((x : X) → P x → Q x) → IfOk r P → IfOk r Q
IfOk-map P Q (Ok x) f h = f x h
IfOk-map P Q (Err e) f h = tt

-- what the code does is what was asked for
pub gives-turn : {X E : Type 0} (state : State) (rows rows' : List (Vec Turn Global)) (moves moves' : List Move) (m : Mover)
    (r : Result X E) (x given : Move) (s : Service) (fibres : List ℕ) (first : Option Turn) (t : Turn) → m.place < length moves →
    x ≡ get_or moves m.place x → Some s ≡ service_of state x.name → fibres ≡ s.leg.work.route.fibres →
    first ≡ fold (awaited m) None (turns_on rows fibres) → given ≡ move_given x first → moves' ≡ set moves m.place given →
    t ≡ record { place = m.place; name = given.name; batch = given.batch; end = m.end } →
    OnOk r (GainsOn rows rows' fibres t) → OnOk r (GivesTurn state rows rows' moves moves' m)
gives-turn state rows rows' moves moves' m r x given s fibres first t within read found on awaits is put turn h =
    let first_is = awaits ∙ ap (λ (fs : List ℕ). fold (awaited m) None (turns_on rows fs)) on in
    let given_is = is ∙ ap (move_given x) first_is in
    IfOk-map (λ _. GainsOn rows rows' fibres t) (λ _. GivesTurn state rows rows' moves moves' m) r
    (λ _ g.
    record {
      move = x;
      there = slice_get_read moves (length moves) m.place x refl within read;
      service = s;
      found = sym found;
      is = put ∙ ap (set moves m.place) given_is;
      gains = subst (λ (fs : List ℕ). GainsOn rows rows' fs (turn_given m x.name (first_for rows m s))) on
          (subst (GainsOn rows rows' fibres) (turn ∙ (λ i. record {
            place = m.place;
            name = (given_is i).name;
            batch = (given_is i).batch;
            end = m.end;
          })) g);
    }) h

-- ---- one after the other

-- the movers so far, by the places of their moves
abbrev DoneAt : List Mover → ℕ → ℕ → Type 0
DoneAt movers i p = (j : ℕ) × (m : Mover) × (j < i) × (slice_get movers j ≡ Some m) × (m.place ≡ p)

-- each of them has the batch of its turn
pub record AreTold (turns : List plan.Turn) (movers : List Mover) (i : ℕ) (rows : List (Vec Turn Global))
    (now : List Move) : Type 0 where
  pub tells : RowsTell turns rows (DoneAt movers i)
  pub given : (p : ℕ) (u : plan.Turn) (m : Move) → DoneAt movers i p → slice_get turns p ≡ Some u →
      slice_get now p ≡ Some m → IsGiven turns u m

-- what is so before the mover of this number
pub record HasGiven (state : State) (old : List Move) (movers : List Mover) (i : ℕ) (rows : List (Vec Turn Global))
    (now : List Move) : Type 0 where
  pub same : map bare now ≡ map bare old
  pub few : (fibre : ℕ) (t : Turn) → IsIn t (row rows fibre) → t.batch ≤ i
  pub told : (turns : List plan.Turn) → AreTurnsOf state old turns → AreTold turns movers i rows now

pub given_none : (state : State) (old : List Move) (movers : List Mover) (rows : List (Vec Turn Global)) → AreEmpty rows →
    HasGiven state old movers 0 rows old
given_none state old movers rows empty = record {
  same = refl;
  few = λ fibre t i. absurd (subst (λ (ts : List Turn). IsIn t ts) (empty fibre) i);
  told = λ turns are. record {
    tells = record {
      only = λ fibre t i. absurd (subst (λ (ts : List Turn). IsIn t ts) (empty fibre) i);
      all = λ p fibre u done e h. let low = done.2 in absurd (omega arith);
    };
    given = λ p u m done e f. let low = done.2 in absurd (omega arith);
  };
}

module _ (state : State) (old : List Move) (movers : List Mover) (are : AreMovers state old movers)
    (up : IsNonDecreasingBy (λ (m : Mover). m.low) movers) where
  mover_at : (j : ℕ) (m : Mover) → slice_get movers j ≡ Some m → IsMoverOf state old m
  mover_at j m e = subst (IsMoverOf state old) (get_or_from_slice_get movers j m m e)
      (are.only j m (slice_get_within movers j m e))

  lower_first : (i j : ℕ) (m k : Mover) → slice_get movers i ≡ Some m → slice_get movers j ≡ Some k → k.low < m.low → j < i
  lower_first i j m k e f h = elim (cases_lt j i) [
    | inl low ↦ low
    | inr high ↦
        let rises = up i j m high (slice_get_within movers j k f) in
        let a = ap (λ (x : Mover). x.low) (get_or_from_slice_get movers i m m e) in
        let b = ap (λ (x : Mover). x.low) (get_or_from_slice_get movers j k m f) in
        absurd (omega arith)
  ]

  module _ (i : ℕ) (m : Mover) (here : slice_get movers i ≡ Some m) (rows rows' : List (Vec Turn Global)) (now now' : List Move)
      (gives : GivesTurn state rows rows' now now' m) (inv : HasGiven state old movers i rows now) where
    abbrev first : Option Turn
    first = first_for rows m gives.service

    gains : GainsIn rows rows' gives.service.leg.work.route.fibres (turn_given m gives.move.name first)
    gains = gains-in rows rows' gives.service.leg.work.route.fibres (turn_given m gives.move.name first) gives.gains

    within : m.place < length now
    within = slice_get_within now m.place gives.move gives.there

    same_more : map bare now' ≡ map bare old
    same_more =
        ap (map bare) gives.is
        ∙ map-set_same bare now m.place (move_given gives.move first) gives.move
        (ap bare (sym (get_or_from_slice_get now m.place gives.move gives.move gives.there)))
        ∙ inv.same

    first_few : (o : Option Turn) → Awaits m (λ t. IsIn t (turns_on rows gives.service.leg.work.route.fibres)) o →
        batch_after o ≤ i + 1
    first_few None a = omega arith
    first_few (Some b) a =
        let on = of_flat (row rows) gives.service.leg.work.route.fibres b a.there in
        let few = inv.few on.0 b on.1.1 in
        omega arith

    few_more : (fibre : ℕ) (t : Turn) → IsIn t (row rows' fibre) → t.batch ≤ i + 1
    few_more fibre t k = elim (gains.from fibre t k) [
      | inl before ↦ let few = inv.few fibre t before in omega arith
      | inr new ↦
          let few = first_few first (awaits-fold m (turns_on rows gives.service.leg.work.route.fibres)) in
          let is = ap (λ (u : Turn). u.batch) new.0 in
          omega arith
    ]

    module _ (turns : List plan.Turn) (of_turns : AreTurnsOf state old turns) where
      abbrev told : AreTold turns movers i rows now
      told = inv.told turns of_turns

      -- a move has its name and its target from the first on
      kept : (p : ℕ) (a b : Move) → slice_get now p ≡ Some a → slice_get old p ≡ Some b → bare a ≡ bare b
      kept p a b e f = some_of (bare a) (bare b)
          (sym (slice_get-map bare now p ∙ ap (option_map bare) e)
          ∙ ap (λ (ms : List Move). slice_get ms p) inv.same
          ∙ slice_get-map bare old p ∙ ap (option_map bare) f)

      of_mover : IsMoverOf state old m
      of_mover = mover_at i m here

      own_bare : bare gives.move ≡ bare of_mover.move
      own_bare = kept m.place gives.move of_mover.move gives.there of_mover.there

      abbrev own : (u : plan.Turn) × (slice_get turns m.place ≡ Some u) × IsTurnOf state u of_mover.move
      own = partner (IsTurnOf state) turns old m.place of_mover.move of_turns.each of_mover.there

      abbrev turn : plan.Turn
      turn = own.0

      own_service : gives.service ≡ turn.channel.service
      own_service = same_some (service_of state gives.move.name) gives.service turn.channel.service gives.found
          (ap (λ (x : Move). service_of state x.name) own_bare ∙ own.2.found)

      own_mover : IsMover turn.channel.service turn.channel.target m
      own_mover =
          subst (λ (s : Service). IsMover s turn.channel.target m)
          (same_some (service_of state of_mover.move.name) of_mover.service turn.channel.service of_mover.found own.2.found)
          (subst (λ (to : ℤ). IsMover of_mover.service to m) own.2.to of_mover.mover)

      ready : (q : ℕ) (v : plan.Turn) → slice_get turns q ≡ Some v → waits_for turn.channel v.channel ≡ true →
          DoneAt movers i q
      ready q v e waits =
          let pair = mate (IsTurnOf state) turns old q v of_turns.each e in
          let other = are.all q (slice_get_within old q pair.0 pair.1) in
          let k = other.0 in
          let at = slice_get-get_or movers other.1.0 k other.1.1 ∙ ap Some other.1.2 in
          let of_k = mover_at other.1.0 k at in
          let there : slice_get old q ≡ Some of_k.move =
          subst (λ (p : ℕ). slice_get old p ≡ Some of_k.move) other.2 of_k.there in
          let move = same_some (slice_get old q) of_k.move pair.0 there pair.1 in
          let service = same_some (service_of state of_k.move.name) of_k.service v.channel.service of_k.found
          (ap (λ (x : Move). service_of state x.name) move ∙ pair.2.found) in
          let mover : IsMover v.channel.service v.channel.target k =
          subst (λ (s : Service). IsMover s v.channel.target k) service
          (subst (λ (to : ℤ). IsMover of_k.service to k) (ap (λ (x : Move). x.to) move ∙ pair.2.to) of_k.mover) in
          let below = waits-below turn.channel v.channel m k own_mover mover waits in
          (other.1.0, k, lower_first i other.1.0 m k here at below, at, other.2)

      own_batch : batch_after first ≡ turn.batch
      own_batch =
          ap (λ (s : Service). batch_after (first_for rows m s)) own_service
          ∙ given_batch turns rows (DoneAt movers i) told.tells of_turns.least m.place turn own.1 m own_mover ready

      own_name : option_map (λ (t : Turn). t.name) first ≡ plan.waited_for turns turn
      own_name =
          ap (λ (s : Service). option_map (λ (t : Turn). t.name) (first_for rows m s)) own_service
          ∙ given_name turns rows (DoneAt movers i) told.tells of_turns.least m.place turn own.1 m own_mover ready

      own_told : (fibre : ℕ) → has_number gives.service.leg.work.route.fibres fibre ≡ true →
          TellsTurnOn turns fibre (turn_given m gives.move.name first)
      own_told fibre h = record {
        turn = turn;
        there = own.1;
        batch = own_batch;
        name = ap (λ (x : Move). x.name) own_bare ∙ own.2.name;
        at = record {
          slot = own_mover.slot;
          end = own_mover.end ∙ ap (λ (n : ℕ). end_height n turn.channel.service.leg.work) own_mover.low;
        };
        on = subst (λ (s : Service). has_number s.leg.work.route.fibres fibre ≡ true) own_service h;
      }

      earlier : (p : ℕ) → DoneAt movers (i + 1) p → DoneAt movers i p ⊎ (p ≡ m.place)
      earlier p done = elim (cases_eq done.0 i) [
        | inl last ↦ inr (sym done.4 ∙ ap (λ (k : Mover). k.place)
            (same_some (slice_get movers i) done.1 m (subst (λ (j : ℕ). slice_get movers j ≡ Some done.1) last done.3) here))
        | inr before ↦ inl (done.0, done.1, lower done.0 done.2 before, done.3, done.4)
      ]
        where
          lower : (j : ℕ) → j < i + 1 → (j ≡ i → ⊥) → j < i
          lower j h k = elim (cases_lt j i) [ inl l ↦ l | inr l ↦ absurd (k (omega arith)) ]

      rows_more : RowsTell turns rows' (DoneAt movers (i + 1))
      rows_more = record {
        only = λ fibre t k. elim (gains.from fibre t k) [
          | inl before ↦ told.tells.only fibre t before
          | inr new ↦ subst (TellsTurnOn turns fibre) (sym new.0) (own_told fibre new.1)
        ];
        all = λ p fibre u done e h. elim (earlier p done) [
          | inl before ↦
              let old_one = told.tells.all p fibre u before e h in
              (old_one.0, (gains.kept fibre old_one.0 old_one.1.0, old_one.1.1))
          | inr last ↦
              let same : u ≡ turn = same_some (slice_get turns m.place) u turn
              (subst (λ (q : ℕ). slice_get turns q ≡ Some u) last e) own.1 in (
                turn_given m gives.move.name first,
                (
                  gains.there fibre (subst (λ (s : Service). has_number s.leg.work.route.fibres fibre ≡ true)
                      (sym own_service) (subst (λ (v : plan.Turn). has_number (old_path v.channel).route.fibres fibre ≡ true) same h)),
                  sym last,
                ),
              )
        ];
      }

      own_given : IsGiven turns turn (move_given gives.move first)
      own_given = record { batch = own_batch; after = own_name }

      given_more : (p : ℕ) (u : plan.Turn) (x : Move) → DoneAt movers (i + 1) p → slice_get turns p ≡ Some u →
          slice_get now' p ≡ Some x → IsGiven turns u x
      given_more p u x done e f = elim (cases_eq p m.place) [
        | inl last ↦
            let is : x ≡ move_given gives.move first = same_some (slice_get now' m.place) x (move_given gives.move first)
            (subst (λ (q : ℕ). slice_get now' q ≡ Some x) last f) set_here in
            let same : u ≡ turn = same_some (slice_get turns m.place) u turn
            (subst (λ (q : ℕ). slice_get turns q ≡ Some u) last e) own.1 in
            subst (λ (v : plan.Turn). IsGiven turns v x) (sym same) (subst (IsGiven turns turn) (sym is) own_given)
        | inr other ↦ elim (earlier p done) [
          | inl before ↦ told.given p u x before e (sym (set_other other) ∙ f)
          | inr last ↦ absurd (other last)
        ]
      ]
        where
          set_here : slice_get now' m.place ≡ Some (move_given gives.move first)
          set_here =
              ap (λ (ms : List Move). slice_get ms m.place) gives.is
              ∙ slice_get-get_or (set now m.place (move_given gives.move first)) m.place gives.move
              (subst (λ (n : ℕ). m.place < n) (sym (length-set now m.place (move_given gives.move first))) within)
              ∙ ap Some (get_or-set_same now m.place (move_given gives.move first) gives.move within)

          set_other : (p ≡ m.place → ⊥) → slice_get now' p ≡ slice_get now p
          set_other h = ap (λ (ms : List Move). slice_get ms p) gives.is ∙ untouched now m.place p (move_given gives.move first) h
            where
              untouched : (xs : List Move) (k j : ℕ) (y : Move) → (j ≡ k → ⊥) → slice_get (set xs k y) j ≡ slice_get xs j
              untouched [] k j y h = refl
              untouched (z ∷ xs) zero zero y h = absurd (h refl)
              untouched (z ∷ xs) zero (suc j) y h = refl
              untouched (z ∷ xs) (suc k) zero y h = refl
              untouched (z ∷ xs) (suc k) (suc j) y h = untouched xs k j y (λ e. h (ap suc e))

    pub given_next : HasGiven state old movers (i + 1) rows' now'
    given_next = record {
      same = same_more;
      few = few_more;
      told = λ turns of_turns. record { tells = rows_more turns of_turns; given = given_more turns of_turns };
    }

  -- all are done
  pub given_all : (i : ℕ) (rows : List (Vec Turn Global)) (now : List Move) → length movers ≤ i →
      HasGiven state old movers i rows now → AreGiven state old now
  given_all i rows now past inv = record {
    same = inv.same;
    given = λ turns of_turns. zip_by (IsGiven turns) turns now
        (long_zip (IsTurnOf state) turns old of_turns.each
        ∙ sym (length-map old bare) ∙ ap length (sym inv.same) ∙ length-map now bare)
        (λ p u m e f.
        let pair = mate (IsTurnOf state) turns old p u of_turns.each e in
        let other = are.all p (slice_get_within old p pair.0 pair.1) in
        let k = other.0 in
        let at = slice_get-get_or movers other.1.0 k other.1.1 ∙ ap Some other.1.2 in
        let low = other.1.1 in
        (inv.told turns of_turns).given p u m (other.1.0, k, omega arith, at, other.2) e f);
  }
