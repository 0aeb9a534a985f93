-- Channels that can be neither below nor above a block, and what is told where there are none.
use Rattle.std.proofs.Common.{◌≡◌, refl, sym, ◌∙◌, ap, ℕ, zero, suc, ◌+◌, ◌≤◌, true, false, ◌&&◌, not, List, [], ◌∷◌, map, find, length, drop, add-one, get_or, Some, None, Result, Ok, Err, arith}
use Rattle.std.specs.Prelude.{slice_get, IsTrue, IfOk}
use Rattle.std.specs.Option.{option_map}
use Rattle.std.proofs.lemmas.Bool.{not_from_false}
use Rattle.eon_model.specs.Grid.{Band, units_of, is_band, is_slot}
use Rattle.eon_model.specs.Names.{Name}
use Rattle.eon_model.specs.Route.{share_fibre}
use Rattle.eon_model.specs.Services.{Path, Service, State, is_moving}
use Rattle.eon_model.specs.Legal.{Setup, Legal}
use Rattle.eon_model.specs.Places.{AtRest}
use Rattle.eon_model.specs.Room.{Leeway, leeways_of, is_stuck, first_stuck, first_over}
use Rattle.eon_model.specs.RoomAnswers.{RoomFor, Stuck, Found}
use Rattle.eon_model.specs.RoomReplies.{RoomReply}
use Rattle.eon_model.proofs.Members.{list_all-of}
use Rattle.eon_model.proofs.BlockFree.{none_named}
use Rattle.leg_state.proofs.ClashLemmas.{find_here, find_past, find_end}
use Rattle.make_room.specs.declared.heights.Side.TheVariants.{Floor, Ceiling}
use Rattle.make_room.specs.declared.shifts.Shift.{Shift}
use Rattle.make_room.specs.declared.targets.Targets.{Targets}
use Rattle.make_room.specs.Heights.{centre_from}
use Rattle.make_room.specs.Sweeps.{centres_from}
use Rattle.make_room.specs.Targets.{TellsTargets}
use Rattle.make_room.specs.Shifts.{shift_told, all_shifts}
use Rattle.make_room.specs.declared.room.Room.{Room}
use Rattle.make_room.specs.declared.room.Room.TheVariants as room
use Rattle.make_room.specs.Rooms.{stuck_so, first_moving, IsRoomBeside, IsRoom}
use Rattle.make_room.proofs.SideLaws.{OnGrid}
use Rattle.make_room.proofs.TargetsAre.{slot_grid, below_is, above_is}
use Rattle.make_room.proofs.ShiftLaws.{all-shifts}

-- the channel with its lowest and its highest place
abbrev pub leeway : Service → ℕ → ℕ → Leeway
leeway s low high = record {
  service = s;
  low = centre_from Floor s.leg.work.slot.m low;
  high = centre_from Ceiling s.leg.work.slot.m high;
}

abbrev pub leeways : State → List ℕ → List ℕ → List Leeway
leeways state lows highs = leeways_of state (centres_from Floor state lows) (centres_from Ceiling state highs)

leeway_here : (state : State) (lows highs : List ℕ) (i : ℕ) (s : Service) → length lows ≡ length state →
    length highs ≡ length state → slice_get state i ≡ Some s →
    slice_get (leeways state lows highs) i ≡ Some (leeway s (get_or lows i 0) (get_or highs i 0))
leeway_here [] lows highs i s d u e = cc
leeway_here (t ∷ state) [] highs i s d u e = absurd (omega arith)
leeway_here (t ∷ state) (x ∷ lows) [] i s d u e = absurd (omega arith)
leeway_here (t ∷ state) (x ∷ lows) (y ∷ highs) zero s d u e =
    let same : t ≡ s = cc in ap (λ (z : Service). Some (leeway z x y)) same
leeway_here (t ∷ state) (x ∷ lows) (y ∷ highs) (suc i) s d u e = leeway_here state lows highs i s (omega arith) (omega arith) e

leeways_long : (state : State) (lows highs : List ℕ) → length lows ≡ length state → length highs ≡ length state →
    length (leeways state lows highs) ≡ length state
leeways_long [] lows highs d u = refl
leeways_long (t ∷ state) [] highs d u = absurd (omega arith)
leeways_long (t ∷ state) (x ∷ lows) [] d u = absurd (omega arith)
leeways_long (t ∷ state) (x ∷ lows) (y ∷ highs) d u = ap suc (leeways_long state lows highs (omega arith) (omega arith))

stuck_is : (block : Path) → OnGrid (units_of block.slot) → (s : Service) (low high : ℕ) →
    stuck_so block s.leg.work low high ≡ is_stuck block (leeway s low high)
stuck_is block grid s low high = λ i.
    share_fibre s.leg.work.route block.route
    && not (share_fibre s.leg.work.route block.route && below_is block grid low s.leg.work.slot.m i)
    && not (share_fibre s.leg.work.route block.route && above_is block grid high s.leg.work.slot.m i)

-- none of the services before this one is stuck
abbrev pub NoneBefore : Path → State → List ℕ → List ℕ → ℕ → Type 0
NoneBefore block state lows highs i =
    find (is_stuck block) (drop i (leeways state lows highs)) ≡ find (is_stuck block) (leeways state lows highs)

-- the search over the services, one after the other
module _ (block : Path) (slot : is_slot block.slot ≡ true) (state : State) (lows highs : List ℕ)
    (long_lows : length lows ≡ length state) (long_highs : length highs ≡ length state) where
  pub stuck_here : (i : ℕ) (s : Service) → NoneBefore block state lows highs i → slice_get state i ≡ Some s →
      stuck_so block s.leg.work (get_or lows i 0) (get_or highs i 0) ≡ true →
      Some s.name ≡ first_stuck block (leeways state lows highs)
  stuck_here i s inv e h =
      let at = leeway_here state lows highs i s long_lows long_highs e in
      let is = sym (stuck_is block (slot_grid block.slot slot).1 s (get_or lows i 0) (get_or highs i 0)) ∙ h in
      sym (ap (option_map (λ (l : Leeway). l.service.name))
      (sym inv ∙ find_here (is_stuck block) (leeways state lows highs) i (leeway s (get_or lows i 0) (get_or highs i 0)) at is))

  pub stuck_past : (i : ℕ) (s : Service) → NoneBefore block state lows highs i → slice_get state i ≡ Some s →
      stuck_so block s.leg.work (get_or lows i 0) (get_or highs i 0) ≡ false → NoneBefore block state lows highs (i + 1)
  stuck_past i s inv e h =
      let at = leeway_here state lows highs i s long_lows long_highs e in
      let is = sym (stuck_is block (slot_grid block.slot slot).1 s (get_or lows i 0) (get_or highs i 0)) ∙ h in
      ap (λ (k : ℕ). find (is_stuck block) (drop k (leeways state lows highs))) (add-one i)
      ∙ sym (find_past (is_stuck block) (leeways state lows highs) i (leeway s (get_or lows i 0) (get_or highs i 0)) at is) ∙ inv

  pub stuck_none : (i : ℕ) → NoneBefore block state lows highs i → length state ≤ i → None ≡ first_stuck block (leeways state lows highs)
  stuck_none i inv past =
      let long = leeways_long state lows highs long_lows long_highs in
      let end : length (leeways state lows highs) ≤ i = omega arith in
      sym (ap (option_map (λ (l : Leeway). l.service.name))
      (sym inv ∙ find_end (is_stuck block) (leeways state lows highs) i end))

-- ---- what is told

-- nothing moves
pub at_still : (state : State) → option_map (λ (s : Service). s.name) (find is_moving state) ≡ None → AtRest state
at_still state h =
    list_all-of (λ (s : Service). not (is_moving s)) state (λ s i. not_from_false (is_moving s)
    (none_named is_moving (λ (x : Service). x.name) state h s i))

module _ (band : Band) (state : State) (block : Path) (t : Targets) (tells : TellsTargets band state block t) (rest : AtRest state)
    (clear : first_over block state ≡ None) (setup : Setup) (of_band : setup.band ≡ band) (ok : IsTrue (is_band band))
    (legal : Legal setup state) where
  pub told_stuck : (name : Name) → first_stuck block (leeways state t.lows.items t.highs.items) ≡ Some name →
      RoomFor setup state block (RoomReply.At name)
  told_stuck name e =
      let are = tells setup of_band ok legal rest in
      Stuck name (centres_from Floor state t.lows.items) (centres_from Ceiling state t.highs.items) clear are.lowest are.highest e refl

  pub told_found : (shifts : List Shift) → first_stuck block (leeways state t.lows.items t.highs.items) ≡ None →
      map shift_told shifts ≡ all_shifts state t.downs.items t.ups.items →
      RoomFor setup state block (RoomReply.Moves (map shift_told shifts))
  told_found shifts e is =
      let are = tells setup of_band ok legal rest in
      Found (centres_from Floor state t.lows.items) (centres_from Ceiling state t.highs.items) (map shift_told shifts) clear
      are.lowest are.highest e (record {
        downs = centres_from Ceiling state t.downs.items;
        down = are.down;
        ups = centres_from Floor state t.ups.items;
        up = are.up;
        told = is ∙ all-shifts state t.downs.items t.ups.items;
      }) refl

-- what is told where nothing moves and no backup lies over the block
pub beside_is : {E : Type 0} (band : Band) (state : State) (block : Path) (r : Result Room E) → first_moving state ≡ None →
    first_over block state ≡ None → IfOk r (IsRoomBeside band state block) → IfOk r (IsRoom band state block)
beside_is band state block (Err e) none clear h = h
beside_is band state block (Ok (room.Busy name)) none clear h = absurd h
beside_is band state block (Ok (room.Over name)) none clear h = absurd h
beside_is band state block (Ok (room.At name)) none clear h = (none, h (at_still state none) clear)
beside_is band state block (Ok (room.Moves shifts)) none clear h = (none, h (at_still state none) clear)
