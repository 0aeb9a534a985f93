-- What is told of channels, by heights.
use Rattle.std.proofs.Common.{◌≡◌, refl, sym, ◌∙◌, ap, subst, ℕ, zero, suc, ◌+◌, ◌<◌, ◌≤◌, nat_abs, ℤ, pos, negsuc, ◌+ℤ◌, ◌-ℤ◌, ◌≤ℤ◌, Bool, true, false, cond, ◌&&◌, not, nat_eq, List, [], ◌∷◌, ◌++◌, map, filter, find, length, drop, add-one, get_or, Option, Some, None, append_assoc, append-nil, arith}
use Rattle.std.specs.Prelude.{slice_get, nat_le, is_some, IsTrue}
use Rattle.std.specs.Option.{option_map, option_or, unwrap_or}
use Rattle.std.specs.List.{list_all, list_any, flat_map, AllZip}
use Rattle.std.specs.Ordering.{int_eq}
use Rattle.std.specs.Cmp.{nat_eq_equiv}
use Rattle.std.proofs.lemmas.Bool.{and_parts, and_from, eqb-true, not_from_false}
use Rattle.std.proofs.lemmas.Int.{ints}
use Rattle.eon_model.specs.Grid.{Band, Units, units_of, is_units, is_slot, is_band, is_on_floor}
use Rattle.eon_model.specs.Services.{Path, Service, State, Holding, holding_of, backup_holdings, is_moving}
use Rattle.eon_model.specs.Changes.{path_moved}
use Rattle.eon_model.specs.Legal.{Setup, Legal}
use Rattle.eon_model.specs.NetworkText.{is_setup}
use Rattle.eon_model.specs.Places.{AtRest}
use Rattle.eon_model.specs.Plan as plan
use Rattle.eon_model.specs.Plan.{Channel, channels_of, old_path, target_place, is_move, touches_from_below, rest_of, channel_below, backup_below}
use Rattle.eon_model.proofs.SlotSteps.{int_eq-of, int_eq-same}
use Rattle.eon_model.proofs.SetupFacts.{setup-facts}
use Rattle.compact_plan.proofs.ListSteps.{opened, none_left}
use Rattle.compact_plan.proofs.SettleLaws.{units_low, centre_back}
use Rattle.compact_plan.specs.Blocks.{height_of, path_height}
use Rattle.compact_plan.specs.Sweeps.{centre_at, centres, LeavesLowest}
use Rattle.compact_plan.specs.Told.{move_told, place_at, channels, first_on, backup_or_floor, rest_at, move_of, moves_of, all_moves, IsTold, TellsTarget, AreTargets}
use Rattle.compact_plan.specs.declared.answers.Move.{Move}
use Rattle.leg_state.proofs.ClashLemmas.{find_here, find_past, find_end}
use Rattle.eon_model.specs.Names.{Name}
use Rattle.std.proofs.lemmas.List.{map-append}

bool_same : (a b : Bool) → (a ≡ true → b ≡ true) → (b ≡ true → a ≡ true) → a ≡ b
bool_same true b f g = sym (f refl)
bool_same false true f g = g refl
bool_same false false f g = refl

at_height : (low : ℕ) (lo : ℤ) → negsuc 4095 ≤ℤ lo → low ≡ nat_abs (lo +ℤ pos 4096) → (pos low -ℤ pos 4096) ≡ lo
at_height low lo h e = omega (arith, ints)

of_at_height : (low : ℕ) (lo : ℤ) → negsuc 4095 ≤ℤ lo → (pos low -ℤ pos 4096) ≡ lo → low ≡ nat_abs (lo +ℤ pos 4096)
of_at_height low lo h e = omega (arith, ints)

-- units that begin at a height
pub begins : (low : ℕ) (u : Units) → is_units u ≡ true →
    nat_eq low (height_of u.lo) ≡ int_eq (pos low -ℤ pos 4096) u.lo
begins low u h = bool_same _ _
    (λ t. int_eq-of (pos low -ℤ pos 4096) u.lo (at_height low u.lo (units_low u h) (eqb-true low (height_of u.lo) t)))
    (λ t. subst (λ (k : ℕ). nat_eq low k ≡ true)
    (of_at_height low u.lo (units_low u h) (int_eq-same (pos low -ℤ pos 4096) u.lo t)) (nat_eq_equiv.refl low))

-- a path where it stands
pub stands : (p : Path) → is_slot p.slot ≡ true → place_at (path_height p) p ≡ holding_of p
stands p h =
    let units = (and_parts (nat_le 1 p.slot.m && nat_le p.slot.m 512) (is_units (units_of p.slot)) h).1 in
    ap (λ (n : ℤ). holding_of (path_moved p n)) (centre_back p.slot.n p.slot.m (units_low (units_of p.slot) units))

-- ---- the channel at a place

pub channel_here : (state : State) (lows : List ℕ) (i : ℕ) (s : Service) → length lows ≡ length state →
    slice_get state i ≡ Some s →
    slice_get (channels state lows) i ≡ Some (record { service = s; target = centre_at (get_or lows i 0) s.leg.work })
channel_here [] lows i s long e = cc
channel_here (t ∷ state) [] i s long e = absurd (omega arith)
channel_here (t ∷ state) (low ∷ lows) zero s long e =
    let same : t ≡ s = cc in
    ap (λ (x : Service). Some (record { service = x; target = centre_at low x.leg.work })) same
channel_here (t ∷ state) (low ∷ lows) (suc i) s long e = channel_here state lows i s (omega arith) e

pub channels_long : (state : State) (lows : List ℕ) → length lows ≡ length state →
    length (channels state lows) ≡ length state
channels_long [] [] long = refl
channels_long [] (low ∷ lows) long = refl
channels_long (s ∷ state) [] long = absurd (omega arith)
channels_long (s ∷ state) (low ∷ lows) long = ap suc (channels_long state lows (omega arith))

-- ---- what it rests on

low_unit : (low m : ℕ) → ((pos (low + m) -ℤ pos 4096) -ℤ pos m) ≡ (pos low -ℤ pos 4096)
low_unit low m = omega (arith, ints)

pub on_floor : (band : Band) (low : ℕ) (p : Path) →
    list_any (λ part. int_eq (pos low -ℤ pos 4096) part.lo) band ≡ is_on_floor band (place_at low p).units
on_floor band low p =
    ap (λ (n : ℤ). list_any (λ (part : Units). int_eq n part.lo) band) (sym (low_unit low p.slot.m))

abbrev or_floor : Option plan.Rest → plan.Rest
or_floor o = unwrap_or o plan.Floor

rest_cases : (b : Bool) (on over : Option Channel) →
    cond b plan.Floor (unwrap_or (option_map plan.On (option_map (λ (d : Channel). d.service.name) on))
    (or_floor (option_map plan.Over (option_map (λ (d : Channel). d.service.name) over))))
    ≡ or_floor (cond b (Some plan.Floor) (option_or (option_map (λ (d : Channel). plan.On d.service.name) on)
    (option_map (λ (d : Channel). plan.Over d.service.name) over)))
rest_cases true on over = refl
rest_cases false (Some d) over = refl
rest_cases false None (Some d) = refl
rest_cases false None None = refl

rest_is : (band : Band) (cs : List Channel) (c : Channel) → rest_at band cs (target_place c) ≡ or_floor (rest_of band cs c)
rest_is band cs c = rest_cases (is_on_floor band (target_place c).units)
    (find (λ (d : Channel). touches_from_below (target_place d) (target_place c)) cs)
    (find (λ (d : Channel). list_any (λ (b : Holding). touches_from_below b (target_place c)) (backup_holdings d.service.leg)) cs)

-- ---- the moves

some_rest : (o : Option plan.Rest) → is_some o ≡ true → o ≡ Some (or_floor o)
some_rest None h = cc
some_rest (Some r) h = refl

tells : (band : Band) (cs : List Channel) (c : Channel) → is_some (rest_of band cs c) ≡ true →
    TellsTarget band cs c (move_of band cs c)
tells band cs c h = record {
  batch = refl;
  name = refl;
  from = refl;
  to = refl;
  rest = some_rest (rest_of band cs c) h ∙ ap Some (sym (rest_is band cs c));
  after = refl;
}

told_all : (band : Band) (cs part : List Channel) → list_all (λ c. is_some (rest_of band cs c)) part ≡ true →
    AllZip (TellsTarget band cs) (filter is_move part) (flat_map (moves_of band cs) part)
told_all band cs [] h = tt
told_all band cs (c ∷ part) h =
    let both = and_parts (is_some (rest_of band cs c)) (list_all (λ d. is_some (rest_of band cs d)) part) h in
    one (is_move c) (tells band cs c both.0) (told_all band cs part both.1)
  where
    one : (b : Bool) → TellsTarget band cs c (move_of band cs c) →
        AllZip (TellsTarget band cs) (filter is_move part) (flat_map (moves_of band cs) part) →
        AllZip (TellsTarget band cs) (cond b (c ∷ filter is_move part) (filter is_move part))
        (cond b (move_of band cs c ∷ []) [] ++ flat_map (moves_of band cs) part)
    one true t more = (t, more)
    one false t more = more

rest_one : (s : Service) (state : State) (b : Bool) → is_moving s ≡ b → cond b (Some s) (find is_moving state) ≡ None →
    (find is_moving state ≡ None → AtRest state) →
    (not (is_moving s) && list_all (λ t. not (is_moving t)) state) ≡ true
rest_one s state true e g more = cc
rest_one s state false e g more = and_from _ _ (not_from_false _ e) (more g)

pub at_rest : (state : State) → find is_moving state ≡ None → AtRest state
at_rest [] h = refl
at_rest (s ∷ state) h = rest_one s state (is_moving s) refl h (at_rest state)

band_of : (setup : Setup) → is_setup setup ≡ true → IsTrue (is_band setup.band)
band_of setup h = (setup-facts setup h).band

-- what the sweep left is what was asked for
pub are_targets : (band : Band) (state : State) (lows : List ℕ) (moves : List plan.Move) →
    find is_moving state ≡ None → LeavesLowest band state lows → moves ≡ all_moves band (channels state lows) →
    (setup : Setup) → IsTrue (is_setup setup) → setup.band ≡ band → Legal setup state → AreTargets setup state moves
are_targets band state lows moves still leaves is setup ok of_band legal =
    let banded = subst (λ (b : Band). is_band b ≡ true) of_band (band_of setup ok) in
    let left = leaves setup of_band banded legal (at_rest state still) in
    let cs = channels state lows in
    record {
      targets = centres state lows;
      lowest = left.0;
      told = subst (λ (b : Band). AllZip (TellsTarget b cs) (filter is_move cs) moves) (sym of_band)
          (subst (λ (ms : List plan.Move). AllZip (TellsTarget band cs) (filter is_move cs) ms) (sym is)
          (told_all band cs cs left.1));
    }

pub first_none : (state : State) → option_map (λ (s : Service). s.name) (find is_moving state) ≡ None →
    find is_moving state ≡ None
first_none state h = none (find is_moving state) h
  where
    none : (o : Option Service) → option_map (λ (s : Service). s.name) o ≡ None → o ≡ None
    none None h = refl
    none (Some s) h = cc

-- ---- one service after the other

pub first_here : (p : Channel → Bool) (cs : List Channel) (i : ℕ) (d : Channel) → find p (drop i cs) ≡ find p cs →
    slice_get cs i ≡ Some d → p d ≡ true →
    option_map (λ (d : Channel). d.service.name) (find p cs) ≡ Some d.service.name
first_here p cs i d inv e h = ap (option_map (λ (d : Channel). d.service.name)) (sym inv ∙ find_here p cs i d e h)

pub first_past : (p : Channel → Bool) (cs : List Channel) (i : ℕ) (d : Channel) → find p (drop i cs) ≡ find p cs →
    slice_get cs i ≡ Some d → p d ≡ false → find p (drop (i + 1) cs) ≡ find p cs
first_past p cs i d inv e h =
    ap (λ (k : ℕ). find p (drop k cs)) (add-one i) ∙ sym (find_past p cs i d e h) ∙ inv

pub first_end : (p : Channel → Bool) (cs : List Channel) (i : ℕ) → find p (drop i cs) ≡ find p cs → length cs ≤ i →
    None ≡ option_map (λ (d : Channel). d.service.name) (find p cs)
first_end p cs i inv past = sym (ap (option_map (λ (d : Channel). d.service.name)) (sym inv ∙ find_end p cs i past))

-- ---- rests

pub rest_floor : (band : Band) (cs : List Channel) (low : ℕ) (p : Path) →
    list_any (λ part. int_eq (pos low -ℤ pos 4096) part.lo) band ≡ true → plan.Floor ≡ rest_at band cs (place_at low p)
rest_floor band cs low p h =
    let place = place_at low p in
    sym (ap (λ (b : Bool). cond b plan.Floor (unwrap_or (option_map plan.On (first_on cs place)) (backup_or_floor cs place)))
    (sym (on_floor band low p) ∙ h))

above_floor : (band : Band) (cs : List Channel) (low : ℕ) (p : Path) →
    list_any (λ part. int_eq (pos low -ℤ pos 4096) part.lo) band ≡ false →
    rest_at band cs (place_at low p)
    ≡ unwrap_or (option_map plan.On (first_on cs (place_at low p))) (backup_or_floor cs (place_at low p))
above_floor band cs low p h =
    let place = place_at low p in
    ap (λ (b : Bool). cond b plan.Floor (unwrap_or (option_map plan.On (first_on cs place)) (backup_or_floor cs place)))
    (sym (on_floor band low p) ∙ h)

pub rest_on : (band : Band) (cs : List Channel) (low : ℕ) (p : Path) (name : Name) →
    list_any (λ part. int_eq (pos low -ℤ pos 4096) part.lo) band ≡ false → first_on cs (place_at low p) ≡ Some name →
    plan.On name ≡ rest_at band cs (place_at low p)
rest_on band cs low p name h e =
    sym (above_floor band cs low p h
    ∙ ap (λ (o : Option Name). unwrap_or (option_map plan.On o) (backup_or_floor cs (place_at low p))) e)

pub rest_over : (band : Band) (cs : List Channel) (low : ℕ) (p : Path) (r : plan.Rest) →
    list_any (λ part. int_eq (pos low -ℤ pos 4096) part.lo) band ≡ false → first_on cs (place_at low p) ≡ None →
    r ≡ backup_or_floor cs (place_at low p) → r ≡ rest_at band cs (place_at low p)
rest_over band cs low p r h e is =
    is ∙ sym (above_floor band cs low p h
    ∙ ap (λ (o : Option Name). unwrap_or (option_map plan.On o) (backup_or_floor cs (place_at low p))) e)

-- ---- moves

one_channel : (o : Option Channel) (c d : Channel) → o ≡ Some c → o ≡ Some d → c ≡ d
one_channel o c d e f = cc

pub told_stays : (old : List Move) (band : Band) (cs : List Channel) (i : ℕ) (d : Channel) → slice_get cs i ≡ Some d →
    int_eq d.target (old_path d).slot.n ≡ true → IsTold old old band cs i
told_stays old band cs i d e h c f =
    sym (append-nil (map move_told old))
    ∙ ap (λ (ms : List plan.Move). map move_told old ++ ms)
    (sym (ap (λ (x : Channel). moves_of band cs x) (one_channel (slice_get cs i) c d f e)
    ∙ ap (λ (b : Bool). cond (not b) (move_of band cs d ∷ []) []) h))

pub told_moves : (old new : List Move) (m : Move) (band : Band) (cs : List Channel) (i : ℕ) (d : Channel) →
    slice_get cs i ≡ Some d → int_eq d.target (old_path d).slot.n ≡ false → new ≡ old ++ m ∷ [] →
    move_told m ≡ move_of band cs d → IsTold old new band cs i
told_moves old new m band cs i d e h is told c f =
    ap (map move_told) is ∙ map-append move_told old (m ∷ [])
    ∙ ap (λ (x : plan.Move). map move_told old ++ x ∷ []) told
    ∙ ap (λ (ms : List plan.Move). map move_told old ++ ms)
    (sym (ap (λ (x : Channel). moves_of band cs x) (one_channel (slice_get cs i) c d f e)
    ∙ ap (λ (b : Bool). cond (not b) (move_of band cs d ∷ []) []) h))

pub told_more : (old new : List Move) (band : Band) (cs : List Channel) (i : ℕ) (c : Channel) → slice_get cs i ≡ Some c →
    IsTold old new band cs i →
    map move_told old ++ flat_map (moves_of band cs) (drop i cs) ≡ all_moves band cs →
    map move_told new ++ flat_map (moves_of band cs) (drop (i + 1) cs) ≡ all_moves band cs
told_more old new band cs i c e told inv =
    ap (λ (ms : List plan.Move). ms ++ flat_map (moves_of band cs) (drop (i + 1) cs)) (told c e)
    ∙ append_assoc (map move_told old) (moves_of band cs c) (flat_map (moves_of band cs) (drop (i + 1) cs))
    ∙ ap (λ (ds : List Channel). map move_told old ++ flat_map (moves_of band cs) ds) (sym (opened cs i c e)) ∙ inv

pub told_end : (moves : List Move) (band : Band) (cs : List Channel) (i : ℕ) → length cs ≤ i →
    map move_told moves ++ flat_map (moves_of band cs) (drop i cs) ≡ all_moves band cs →
    map move_told moves ≡ all_moves band cs
told_end moves band cs i past inv =
    sym (append-nil (map move_told moves))
    ∙ ap (λ (ds : List Channel). map move_told moves ++ flat_map (moves_of band cs) ds) (sym (none_left cs i past)) ∙ inv

some_at : (cs : List Channel) (i : ℕ) → i < length cs → (c : Channel) × (slice_get cs i ≡ Some c)
some_at [] i h = absurd (omega arith)
some_at (c ∷ cs) zero h = (c, refl)
some_at (c ∷ cs) (suc i) h = some_at cs i (omega arith)

pub told_at : (old new : List Move) (band : Band) (state : State) (lows : List ℕ) (i : ℕ) → length lows ≡ length state →
    i < length state → IsTold old new band (channels state lows) i →
    map move_told old ++ flat_map (moves_of band (channels state lows)) (drop i (channels state lows))
    ≡ all_moves band (channels state lows) →
    map move_told new ++ flat_map (moves_of band (channels state lows)) (drop (i + 1) (channels state lows))
    ≡ all_moves band (channels state lows)
told_at old new band state lows i long within told inv =
    let c = some_at (channels state lows) i (subst (λ (n : ℕ). i < n) (sym (channels_long state lows long)) within) in
    told_more old new band (channels state lows) i c.0 c.1 told inv
