-- The moves in their least batches are the plan.
use Rattle.std.proofs.Common.{◌≡◌, refl, sym, ◌∙◌, ap, subst, ℕ, inl, inr, true, ℤ, List, [], ◌∷◌, map, filter, Some, arith}
use Rattle.std.specs.Prelude.{is_some}
use Rattle.std.specs.List.{AllZip}
use Rattle.std.specs.Ordering.{nat_cmp}
use Rattle.std.proofs.lemmas.List.Elements.{All-cons}
use Rattle.eon_model.specs.Names.{same_name}
use Rattle.eon_model.proofs.NameLaws.{names_equal}
use Rattle.eon_model.proofs.PlacedLaws.{one_of_name}
use Rattle.eon_model.specs.Lists.{sort_by}
use Rattle.eon_model.specs.Grid.{Band}
use Rattle.eon_model.specs.Services.{Service, State, service_of}
use Rattle.eon_model.specs.Legal.{Setup, Legal}
use Rattle.eon_model.specs.Places.{AtRest}
use Rattle.eon_model.specs.Plan as plan
use Rattle.eon_model.specs.Plan.{Channel, channels_of, is_move, name_of, greatest, has_least_batch, in_batches, TellsTurn, IsPlan}
use Rattle.eon_model.proofs.OrderLaws.{IsIn}
use Rattle.eon_model.proofs.FoundLaws.{of-IsIn-filter, find-only}
use Rattle.eon_model.proofs.ListLaws.{IsIn-map}
use Rattle.eon_model.proofs.PlanLaws.{AreLowest-unique}
use Rattle.eon_model.proofs.PlanExists.{plan_of}
use Rattle.compact_plan.specs.declared.answers.Move.{Move}
use Rattle.compact_plan.specs.Told.{move_told, TellsTarget, AreTargets}
use Rattle.plan_batches.specs.Batches.{AreLive, bare, IsTurnOf, AreTurnsOf, IsGiven, AreGiven, MakesPlan}
use Rattle.plan_batches.proofs.SortSteps.{zip-sorted}

-- the service of a channel is a live one
live_channel : (state : State) (targets : List ℤ) (c : Channel) → IsIn c (channels_of state targets) → IsIn c.service state
live_channel [] targets c i = absurd i
live_channel (s ∷ state) [] c i = absurd i
live_channel (s ∷ state) (n ∷ targets) c i = elim i [
  | inl e ↦ inl (ap (λ (d : Channel). d.service) e)
  | inr more ↦ inr (live_channel state targets c more)
]

zip-map : {A B C : Type 0} (R : A → C → Type 0) (f : B → C) (xs : List A) (ys : List B) → AllZip (λ a b. R a (f b)) xs ys →
    AllZip R xs (map f ys)
zip-map R f [] [] z = tt
zip-map R f [] (y ∷ ys) z = absurd z
zip-map R f (x ∷ xs) [] z = absurd z
zip-map R f (x ∷ xs) (y ∷ ys) z = (z.0, zip-map R f xs ys z.1)

same_batches : (turns ts : List plan.Turn) (ms : List Move) → AllZip (IsGiven turns) ts ms →
    map (λ (m : Move). m.batch) ms ≡ map (λ (t : plan.Turn). t.batch) ts
same_batches turns [] [] z = refl
same_batches turns [] (m ∷ ms) z = absurd z
same_batches turns (t ∷ ts) [] z = absurd z
same_batches turns (t ∷ ts) (m ∷ ms) z = λ i. z.0.batch i ∷ same_batches turns ts ms z.1 i

same_cons : (m k : Move) (ms ks : List Move) → m ∷ ms ≡ k ∷ ks → (m ≡ k) × (ms ≡ ks)
same_cons m k ms ks e = (cc, cc)

-- a move with its batch tells its turn
tells_one : (band : Band) (cs : List Channel) (turns : List plan.Turn) (t : plan.Turn) (old new : Move) →
    TellsTarget band cs t.channel (move_told old) → bare new ≡ bare old → IsGiven turns t new →
    TellsTurn band cs turns t (move_told new)
tells_one band cs turns t old new target same given = record {
  batch = given.batch;
  name = ap (λ (m : Move). m.name) same ∙ target.name;
  from = ap (λ (m : Move). m.from) same ∙ target.from;
  to = ap (λ (m : Move). m.to) same ∙ target.to;
  rest = target.rest ∙ ap (λ (m : Move). Some (move_told m).rest) (sym same);
  after = given.after;
}

tells_all : (band : Band) (cs : List Channel) (turns ts : List plan.Turn) (old new : List Move) →
    AllZip (TellsTarget band cs) (map (λ (t : plan.Turn). t.channel) ts) (map move_told old) → map bare new ≡ map bare old →
    AllZip (IsGiven turns) ts new → AllZip (λ t m. TellsTurn band cs turns t (move_told m)) ts new
tells_all band cs turns [] old [] a same z = tt
tells_all band cs turns [] old (m ∷ new) a same z = absurd z
tells_all band cs turns (t ∷ ts) old [] a same z = absurd z
tells_all band cs turns (t ∷ ts) [] (m ∷ new) a same z = absurd a
tells_all band cs turns (t ∷ ts) (k ∷ old) (m ∷ new) a same z =
    let both = same_cons (bare m) (bare k) (map bare new) (map bare old) same in
    (tells_one band cs turns t k m a.0 both.0 z.0, tells_all band cs turns ts old new a.1 both.1 z.1)

module _ (setup : Setup) (state : State) (legal : Legal setup state) (rest : AtRest state) (old : List Move)
    (a : AreTargets setup state (map move_told old)) where
  abbrev channels : List Channel
  channels = channels_of state a.targets

  abbrev one : (p : plan.Plan) × IsPlan setup state p
  one = plan_of setup state legal rest

  abbrev turns : List plan.Turn
  turns = one.1.turns

  same_targets : one.1.targets ≡ a.targets
  same_targets = AreLowest-unique setup state one.1.targets a.targets one.1.lowest a.lowest

  moving : map (λ (t : plan.Turn). t.channel) turns ≡ filter is_move channels
  moving = one.1.moving ∙ ap (λ (ns : List ℤ). filter is_move (channels_of state ns)) same_targets

  of_turns : AllZip (TellsTarget setup.band channels) (map (λ (t : plan.Turn). t.channel) turns) (map move_told old)
  of_turns = subst (λ (cs : List Channel). AllZip (TellsTarget setup.band channels) cs (map move_told old)) (sym moving) a.told

  -- a channel's service is found by its name
  found_live : (c : Channel) → IsIn c channels → service_of state c.service.name ≡ Some c.service
  found_live c i =
      let live = live_channel state a.targets c i in
      find-only (λ (x : Service). same_name x.name c.service.name) state c.service live (names_equal.refl c.service.name)
      (λ y j t. one_of_name setup state legal y c.service j live t)

  turn_live : (t : plan.Turn) → IsIn t turns → IsIn t.channel channels
  turn_live t i =
      (of-IsIn-filter is_move channels t.channel (subst (λ (cs : List Channel). IsIn t.channel cs) moving
      (IsIn-map (λ (u : plan.Turn). u.channel) t turns i))).0

  each_turn : (ts : List plan.Turn) (ms : List Move) → ((t : plan.Turn) → IsIn t ts → IsIn t.channel channels) →
      AllZip (TellsTarget setup.band channels) (map (λ (t : plan.Turn). t.channel) ts) (map move_told ms) →
      AllZip (IsTurnOf state) ts ms
  each_turn [] [] live z = tt
  each_turn [] (m ∷ ms) live z = absurd z
  each_turn (t ∷ ts) [] live z = absurd z
  each_turn (t ∷ ts) (m ∷ ms) live z = (
    record {
      found = ap (service_of state) z.0.name ∙ found_live t.channel (live t (inl refl));
      name = z.0.name;
      to = z.0.to;
    },
    each_turn ts ms (λ u i. live u (inr i)) z.1,
  )

  are_turns : AreTurnsOf state old turns
  are_turns = record { each = each_turn turns old turn_live of_turns; least = one.1.batched }

  module _ (new list : List Move) (given : AreGiven state old new)
      (order : list ≡ sort_by (λ (m k : Move). nat_cmp m.batch k.batch) new) (batches : ℕ)
      (latest : batches ≡ greatest (map (λ (m : Move). m.batch) new)) where
    given_turns : AllZip (IsGiven turns) turns new
    given_turns = given.given turns are_turns

    told : AllZip (TellsTurn setup.band channels turns) (in_batches turns) (map move_told list)
    told =
        subst (λ (ms : List Move). AllZip (TellsTurn setup.band channels turns) (in_batches turns) (map move_told ms))
        (sym order)
        (zip-map (TellsTurn setup.band channels turns) move_told (in_batches turns)
        (sort_by (λ (m k : Move). nat_cmp m.batch k.batch) new)
        (zip-sorted (λ (t : plan.Turn) (m : Move). TellsTurn setup.band channels turns t (move_told m))
        (λ (t : plan.Turn). t.batch) (λ (m : Move). m.batch) (λ t m tells. sym tells.batch) turns new
        (tells_all setup.band channels turns turns old new of_turns given.same given_turns)))

    is_plan : IsPlan setup state (record { batches = batches; moves = map move_told list })
    is_plan = record {
      targets = a.targets;
      lowest = a.lowest;
      turns = turns;
      moving = moving;
      batched = one.1.batched;
      told = told;
      batches = latest ∙ ap greatest (same_batches turns turns new given_turns);
    }

pub makes-plan : (state : State) (old new list : List Move) (batches : ℕ) → AreGiven state old new →
    list ≡ sort_by (λ (m k : Move). nat_cmp m.batch k.batch) new → batches ≡ greatest (map (λ (m : Move). m.batch) new) →
    MakesPlan state (map move_told old) (record { batches = batches; moves = map move_told list })
makes-plan state old new list batches given order latest setup legal rest a =
    is_plan setup state legal rest old a new list given order batches latest

-- each target is that of a live service
pub live-targets : (setup : Setup) (state : State) → Legal setup state → (old : List Move) →
    AreTargets setup state (map move_told old) → AreLive state old
live-targets setup state legal old a = walk (filter is_move (channels_of state a.targets)) old each a.told
  where
    each : (c : Channel) → IsIn c (filter is_move (channels_of state a.targets)) → IsIn c.service state
    each c i = live_channel state a.targets c (of-IsIn-filter is_move (channels_of state a.targets) c i).0

    one : (c : Channel) (m : Move) → IsIn c.service state → m.name ≡ c.service.name → is_some (service_of state m.name) ≡ true
    one c m live name =
        ap is_some (ap (service_of state) name
        ∙ find-only (λ (x : Service). same_name x.name c.service.name) state c.service live (names_equal.refl c.service.name)
        (λ y j t. one_of_name setup state legal y c.service j live t))

    walk : (cs : List Channel) (ms : List Move) → ((c : Channel) → IsIn c cs → IsIn c.service state) →
        AllZip (TellsTarget setup.band (channels_of state a.targets)) cs (map move_told ms) → AreLive state ms
    walk [] [] live z = λ k d h. absurd (omega arith)
    walk [] (m ∷ ms) live z = absurd z
    walk (c ∷ cs) [] live z = absurd z
    walk (c ∷ cs) (m ∷ ms) live z =
        All-cons (λ (x : Move). is_some (service_of state x.name) ≡ true) m ms (one c m (live c (inl refl)) z.0.name) (walk cs ms (λ d i. live d (inr i)) z.1)
