-- The batch that a mover is given, and what it waits for, are those of its turn.
use Rattle.std.proofs.Common.{◌≡◌, refl, sym, ◌∙◌, ap, subst, ℕ, zero, suc, ◌<◌, inl, inr, Bool, true, false, cond, ◌&&◌, List, [], ◌∷◌, filter, find, max, Option, Some, None, Vec, Global, arith}
use Rattle.std.specs.Prelude.{fold, slice_get, ◌==◌, IsTrue}
use Rattle.std.specs.List.{list_all, flat_map}
use Rattle.std.specs.Option.{option_map}
use Rattle.std.proofs.lemmas.Bool.{both_ways, and_parts, and_from, eqb-true, eq-eqb}
use Rattle.eon_model.specs.Lists.{has_number}
use Rattle.eon_model.specs.Route.{share_fibre}
use Rattle.eon_model.specs.Services.{collides}
use Rattle.eon_model.specs.Plan as plan
use Rattle.eon_model.specs.Plan.{Channel, old_path, old_place, hull_of, lies_below, waits_for, name_of, greatest, batches_before, has_least_batch, waited_for}
use Rattle.eon_model.proofs.OrderLaws.{IsIn}
use Rattle.eon_model.proofs.ListLaws.{IsIn-map, IsIn-filter, IsIn-flat_map, slice_get_in}
use Rattle.eon_model.proofs.SortLaws.{in_either}
use Rattle.eon_model.proofs.SetLists.{share_number-at}
use Rattle.eon_model.specs.Grid.{overlaps}
use Rattle.eon_model.proofs.FoundLaws.{of-IsIn-map, of-IsIn-filter, found}
use Rattle.eon_model.proofs.Members.{any-member, any-by}
use Rattle.eon_model.proofs.LeastBatches.{least-of, greatest_has}
use Rattle.eon_model.proofs.ChainLaws.{greatest_is}
use Rattle.compact_plan.proofs.SettleLaws.{index_in}
use Rattle.plan_batches.specs.declared.mover.Mover.{Mover}
use Rattle.plan_batches.specs.declared.turn.Turn.{Turn}
use Rattle.plan_batches.specs.Awaited.{is_met, awaited}
use Rattle.plan_batches.specs.Movers.{IsMover}
use Rattle.plan_batches.specs.Rows.{row, turns_on}
use Rattle.plan_batches.specs.Batches.{batch_after}
use Rattle.plan_batches.proofs.AwaitedLaws.{Awaits, IsFirstOf, NoLater, awaits-fold}
use Rattle.plan_batches.proofs.MeetLaws.{IsAt, meets-waits}

-- ---- lists

pub of_flat : {X : Type 0} (f : ℕ → List X) (ns : List ℕ) (x : X) → IsIn x (flat_map f ns) →
    (n : ℕ) × (IsIn n ns × IsIn x (f n))
of_flat f [] x i = absurd i
of_flat f (n ∷ ns) x i = elim (in_either x (f n) (flat_map f ns) i) [
  | inl a ↦ (n, (inl refl, a))
  | inr b ↦ let more = of_flat f ns x b in (more.0, (inr more.1.0, more.1.1))
]

-- the first that passes, by its place
find-at : {X : Type 0} (p : X → Bool) (xs : List X) (k : ℕ) (x : X) → slice_get xs k ≡ Some x → p x ≡ true →
    ((j : ℕ) (y : X) → j < k → slice_get xs j ≡ Some y → p y ≡ false) → find p xs ≡ Some x
find-at p [] k x e h before = cc
find-at {X = X} p (y ∷ xs) zero x e h before =
    let same : y ≡ x = cc in
    ap (λ (b : Bool). cond b (Some y) (find p xs)) (ap p same ∙ h) ∙ e
find-at p (y ∷ xs) (suc k) x e h before =
    ap (λ (b : Bool). cond b (Some y) (find p xs)) (before zero y (omega arith) refl)
    ∙ find-at p xs k x e h (λ j z low f. before (suc j) z (omega arith) f)

-- the greatest is below what is above all of them
greatest_under : (a k : ℕ) (ns : List ℕ) → a < k → ((n : ℕ) → IsIn n ns → n < k) → fold max a ns < k
greatest_under a k ns h all = elim (greatest_is a ns) [
  | inl e ↦ omega arith
  | inr i ↦ all (fold max a ns) i
]

-- ---- what the rows tell

-- the move stands on this fibre in the batch of its turn
pub record TellsTurnOn (turns : List plan.Turn) (fibre : ℕ) (t : Turn) : Type 0 where
  pub turn : plan.Turn
  pub there : slice_get turns t.place ≡ Some turn
  pub batch : t.batch ≡ turn.batch
  pub name : t.name ≡ name_of turn
  pub at : IsAt (old_path turn.channel) t
  pub on : has_number (old_path turn.channel).route.fibres fibre ≡ true

-- so do all on the rows, and the turns at these places stand on each of their fibres
pub record RowsTell (turns : List plan.Turn) (rows : List (Vec Turn Global)) (Done : ℕ → Type 0) : Type 0 where
  pub only : (fibre : ℕ) (t : Turn) → IsIn t (row rows fibre) → TellsTurnOn turns fibre t
  pub all : (p fibre : ℕ) (u : plan.Turn) → Done p → slice_get turns p ≡ Some u →
      has_number (old_path u.channel).route.fibres fibre ≡ true → (t : Turn) × (IsIn t (row rows fibre) × (t.place ≡ p))

one_turn : (turns : List plan.Turn) (p : ℕ) (u v : plan.Turn) → slice_get turns p ≡ Some u → slice_get turns p ≡ Some v → u ≡ v
one_turn turns p u v e f = cc

same_at : (turns : List plan.Turn) (p q : ℕ) (u v : plan.Turn) → p ≡ q → slice_get turns p ≡ Some u →
    slice_get turns q ≡ Some v → u ≡ v
same_at turns p q u v e f g = cc

has-in : (ns : List ℕ) (n : ℕ) → has_number ns n ≡ true → IsIn n ns
has-in ns n h =
    let some = any-member (λ (k : ℕ). k == n) ns h in
    subst (λ (k : ℕ). IsIn k ns) (eqb-true some.0 n some.1.1) some.1.0

in-has : (ns : List ℕ) (n : ℕ) → IsIn n ns → has_number ns n ≡ true
in-has ns n i = any-by (λ (k : ℕ). k == n) ns n i (eq-eqb n n refl)

module _ (turns : List plan.Turn) (rows : List (Vec Turn Global)) (Done : ℕ → Type 0) (tell : RowsTell turns rows Done)
    (least : IsTrue (list_all (has_least_batch turns) turns))
    (p : ℕ) (u : plan.Turn) (here : slice_get turns p ≡ Some u) (m : Mover)
    (mover : IsMover u.channel.service u.channel.target m)
    (ready : (q : ℕ) (v : plan.Turn) → slice_get turns q ≡ Some v → waits_for u.channel v.channel ≡ true → Done q) where
  abbrev fibres : List ℕ
  fibres = (old_path u.channel).route.fibres

  abbrev seen : List Turn
  seen = turns_on rows fibres

  -- the turn of what is seen, and whether it is waited for
  record Shows (t : Turn) : Type 0 where
    turn : plan.Turn
    there : slice_get turns t.place ≡ Some turn
    batch : t.batch ≡ turn.batch
    name : t.name ≡ name_of turn
    met : is_met m t ≡ waits_for u.channel turn.channel

  shows : (t : Turn) → IsIn t seen → Shows t
  shows t i =
      let on = of_flat (row rows) fibres t i in
      let told = tell.only on.0 t on.1.1 in
      record {
        turn = told.turn;
        there = told.there;
        batch = told.batch;
        name = told.name;
        met = meets-waits u.channel told.turn.channel m t mover told.at
            (share_number-at fibres (old_path told.turn.channel).route.fibres on.0 (in-has fibres on.0 on.1.0) told.on);
      }

  -- what is waited for is seen
  record IsSeen (q : ℕ) (v : plan.Turn) : Type 0 where
    turn : Turn
    there : IsIn turn seen
    place : turn.place ≡ q
    batch : turn.batch ≡ v.batch
    met : is_met m turn ≡ true

  sees : (q : ℕ) (v : plan.Turn) → slice_get turns q ≡ Some v → waits_for u.channel v.channel ≡ true → IsSeen q v
  sees q v e waits =
      let collide = (and_parts (lies_below (old_place v.channel).units (old_place u.channel).units)
      (collides (hull_of u.channel) (old_place v.channel)) waits).1 in
      let common = any-member (has_number (old_path v.channel).route.fibres) fibres
      (and_parts (share_fibre (hull_of u.channel).route (old_place v.channel).route)
      (overlaps (hull_of u.channel).units (old_place v.channel).units) collide).0 in
      let on = tell.all q common.0 v (ready q v e waits) e common.1.1 in
      let among = IsIn-flat_map (row rows) common.0 on.0 fibres common.1.0 on.1.0 in
      let shown = shows on.0 among in
      let same : shown.turn ≡ v = same_at turns on.0.place q shown.turn v on.1.1 shown.there e in
      record {
        turn = on.0;
        there = among;
        place = on.1.1;
        batch = shown.batch ∙ ap (λ (w : plan.Turn). w.batch) same;
        met = shown.met ∙ ap (λ (w : plan.Turn). waits_for u.channel w.channel) same ∙ waits;
      }

  own_batch : u.batch ≡ suc (greatest (batches_before turns u))
  own_batch = least-of turns least u (slice_get_in turns p u here).1

  -- a batch before is that of a turn that is waited for
  record IsBefore (b : ℕ) : Type 0 where
    turn : plan.Turn
    there : IsIn turn turns
    waits : waits_for u.channel turn.channel ≡ true
    is : b ≡ turn.batch

  before : (b : ℕ) → IsIn b (batches_before turns u) → IsBefore b
  before b i =
      let some = of-IsIn-map (λ (v : plan.Turn). v.batch)
      (filter (λ (v : plan.Turn). waits_for u.channel v.channel) turns) b i in
      let kept = of-IsIn-filter (λ (v : plan.Turn). waits_for u.channel v.channel) turns some.0 some.1.0 in
      record { turn = some.0; there = kept.0; waits = kept.1; is = some.1.1 }

  nothing_waits : Awaits m (λ t. IsIn t seen) None → (v : plan.Turn) → IsIn v turns → waits_for u.channel v.channel ≡ true → ⊥
  nothing_waits none v i waits =
      let at = index_in turns v i in
      let it = sees at.0 v at.1 waits in
      both_ways (is_met m it.turn) (none it.turn it.there) it.met

  -- ---- nothing is waited for

  first_batch : Awaits m (λ t. IsIn t seen) None → u.batch ≡ 1
  first_batch none =
      let under = greatest_under 0 1 (batches_before turns u) (omega arith)
      (λ b i. let some = before b i in absurd (nothing_waits none some.turn some.there some.waits)) in
      let own = own_batch in
      omega arith

  waits_for_none : Awaits m (λ t. IsIn t seen) None → waited_for turns u ≡ None
  waits_for_none none = elim (found (λ (v : plan.Turn). waits_for u.channel v.channel && (suc v.batch == u.batch)) turns) [
    | inl no_one ↦ ap (option_map name_of) no_one.0
    | inr some ↦ absurd (nothing_waits none some.0 some.2
        (and_parts (waits_for u.channel some.0.channel) (suc some.0.batch == u.batch) some.3).0)
  ]

  -- ---- something is

  module _ (b : Turn) (first : IsFirstOf m (λ t. IsIn t seen) b) where
    shown : Shows b
    shown = shows b first.there

    shown_waits : waits_for u.channel shown.turn.channel ≡ true
    shown_waits = sym shown.met ∙ first.met

    next_batch : u.batch ≡ suc b.batch
    next_batch =
        let own = own_batch in
        let under = greatest_under 0 (suc b.batch) (batches_before turns u) (omega arith)
        (λ n i.
        let some = before n i in
        let at = index_in turns some.turn some.there in
        let it = sees at.0 some.turn at.1 some.waits in
        let is = some.is in
        let same = it.batch in
        no_later_low b it.turn n (is ∙ sym same) (first.first it.turn it.there it.met)) in
        let over = greatest_has 0 (batches_before turns u) shown.turn.batch
        (IsIn-map (λ (v : plan.Turn). v.batch) shown.turn (filter (λ (v : plan.Turn). waits_for u.channel v.channel) turns)
        (IsIn-filter (λ (v : plan.Turn). waits_for u.channel v.channel) shown.turn turns shown_waits
        (slice_get_in turns b.place shown.turn shown.there).1)) in
        let same = shown.batch in
        omega arith
      where
        no_later_low : (b t : Turn) (n : ℕ) → n ≡ t.batch → NoLater b t → n < suc b.batch
        no_later_low b t n e (inl h) = omega arith
        no_later_low b t n e (inr h) = let f = h.0 in omega arith

    waits_for_first : waited_for turns u ≡ Some b.name
    waits_for_first =
        let next = next_batch in
        let first_one = find-at (λ (v : plan.Turn). waits_for u.channel v.channel && (suc v.batch == u.batch)) turns b.place
        shown.turn shown.there
        (and_from _ _ shown_waits (eq-eqb (suc shown.turn.batch) u.batch (ap suc (sym shown.batch) ∙ sym next)))
        (λ j v low e. not_before j v low e (waits_for u.channel v.channel && (suc v.batch == u.batch)) refl) in
        ap (option_map name_of) first_one ∙ ap Some (sym shown.name)
      where
        not_before : (j : ℕ) (v : plan.Turn) → j < b.place → slice_get turns j ≡ Some v → (t : Bool) →
            (waits_for u.channel v.channel && (suc v.batch == u.batch)) ≡ t → t ≡ false
        not_before j v low e false h = refl
        not_before j v low e true h =
            let both = and_parts (waits_for u.channel v.channel) (suc v.batch == u.batch) h in
            let it = sees j v e both.0 in
            let last = eqb-true (suc v.batch) u.batch both.1 in
            let next = next_batch in
            absurd (too_early it (first.first it.turn it.there it.met) low (omega arith))
          where
            too_early : (it : IsSeen j v) → NoLater b it.turn → j < b.place → v.batch ≡ b.batch → ⊥
            too_early it (inl h) low same = let e = it.batch in omega arith
            too_early it (inr h) low same = let e = it.place in let f = h.1 in omega arith

  -- ---- what is found

  pub given_batch : batch_after (fold (awaited m) None seen) ≡ u.batch
  given_batch = batch_of (fold (awaited m) None seen) (awaits-fold m seen)
    where
      batch_of : (o : Option Turn) → Awaits m (λ t. IsIn t seen) o → batch_after o ≡ u.batch
      batch_of None a = sym (first_batch a)
      batch_of (Some b) a = let next = next_batch b a in omega arith

  pub given_name : option_map (λ (t : Turn). t.name) (fold (awaited m) None seen) ≡ waited_for turns u
  given_name = name_for (fold (awaited m) None seen) (awaits-fold m seen)
    where
      name_for : (o : Option Turn) → Awaits m (λ t. IsIn t seen) o → option_map (λ (t : Turn). t.name) o ≡ waited_for turns u
      name_for None a = sym (waits_for_none a)
      name_for (Some b) a = sym (waits_for_first b a)
