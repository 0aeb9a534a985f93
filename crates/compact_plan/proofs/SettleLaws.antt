-- A channel settles in the sweep where its target is.
use Rattle.std.proofs.Common.{◌≡◌, refl, sym, ◌∙◌, ap, subst, ℕ, zero, suc, ◌+◌, ◌<◌, ◌≤◌, nat_abs, ℤ, pos, negsuc, ◌+ℤ◌, ◌-ℤ◌, ◌≤ℤ◌, ◌<ℤ◌, ◌⊎◌, inl, inr, true, false, ◌&&◌, not, nat_eq, List, [], ◌∷◌, length, find, get_or, Option, Some, arith}
use Rattle.std.specs.Prelude.{int_le, nat_le, slice_get}
use Rattle.std.specs.Int.{int_min, int_max}
use Rattle.std.specs.Option.{option_map, unwrap_or}
use Rattle.std.specs.List.{Contains, IsDistinct, list_all}
use Rattle.std.specs.List.Sorted.{IsNonDecreasingBy}
use Rattle.std.specs.Cmp.{nat_eq_equiv}
use Rattle.std.proofs.Math.Nat.{min-eq_left}
use Rattle.std.proofs.lemmas.Bool.{and_parts, and_from, both_ways, not-true, cases_Bool, cases_lt, leb-true}
use Rattle.std.proofs.lemmas.Int.{ints, clamps}
use Rattle.std.proofs.lemmas.Option.{slice_get_within, slice_get_read, get_or_from_slice_get}
use Rattle.std.proofs.lemmas.Map.Keys.{apart_from_distinct}
use Rattle.eon_model.specs.Grid.{Units, Band, units_of, moved_to, hull, lies_in, lies_in_band, is_units, is_band}
use Rattle.eon_model.specs.Names.{same_name}
use Rattle.eon_model.specs.Lists.{all_pairs, has_number, share_number}
use Rattle.eon_model.specs.Route.{is_route, share_fibre}
use Rattle.eon_model.specs.Services.{Path, Service, State}
use Rattle.eon_model.specs.Legal.{Setup, Legal, need_of, is_exactly}
use Rattle.eon_model.specs.Places.{AtRest, Places, own_places, units_at}
use Rattle.eon_model.proofs.GridLaws.{int_le-le, lies_in-facts, facts-lies_in, lies_in_itself}
use Rattle.eon_model.proofs.BandLaws.{BandParts, band-parts, one_part}
use Rattle.eon_model.proofs.WayLaws.{all-hull}
use Rattle.eon_model.proofs.OrderLaws.{IsIn}
use Rattle.eon_model.proofs.ListLaws.{slice_get_in}
use Rattle.eon_model.proofs.Members.{list_all-at, any-member, any-by}
use Rattle.eon_model.proofs.FoundLaws.{found}
use Rattle.eon_model.proofs.SlotSteps.{le_then, beside}
use Rattle.eon_model.proofs.SetLists.{share_number-at}
use Rattle.eon_model.proofs.NameLaws.{names_equal}
use Rattle.eon_model.proofs.PlacedLaws.{names_differ, one_of_name}
use Rattle.eon_model.proofs.StandLaws.{CanStand, own_can}
use Rattle.eon_model.proofs.PosedLaws.{FitsIn-own}
use Rattle.eon_model.proofs.BackupLaws.{backup-path}
use Rattle.eon_model.proofs.DriftLaws.{Below, BackupBelow, AreWide-legal}
use Rattle.eon_model.proofs.OwnBackup.{own_backup}
use Rattle.eon_model.proofs.SweptLaws.{OnChannel, OnBackup, IsOnFloor, le_or_lt}
use Rattle.eon_model.proofs.DescentLaws.{IsSwept}
use Rattle.compact_plan.specs.declared.block.Block.{Block}
use Rattle.compact_plan.specs.Blocks.{height_of, path_height, channel_block, backup_block, same_block, AreBlocks}
use Rattle.compact_plan.specs.Tops.{floor_height, settled_height, end_height, IsTopOver}

-- how many units of the grid lie below the channel at its place
abbrev pub low_of : Places → Service → ℕ
low_of p s = height_of (units_at p s).lo

-- ---- heights

height_up : (a b : ℤ) → negsuc 4095 ≤ℤ a → a ≤ℤ b → nat_abs (a +ℤ pos 4096) ≤ nat_abs (b +ℤ pos 4096)
height_up a b h l = omega (arith, ints)

of_height : (a b : ℤ) → negsuc 4095 ≤ℤ a → negsuc 4095 ≤ℤ b →
    nat_abs (a +ℤ pos 4096) ≤ nat_abs (b +ℤ pos 4096) → a ≤ℤ b
of_height a b h k l = omega (arith, ints)

end_under : (t b : ℤ) (m : ℕ) → negsuc 4095 ≤ℤ (t -ℤ pos m) → ((t +ℤ pos m) -ℤ pos 1) <ℤ b →
    nat_abs ((t -ℤ pos m) +ℤ pos 4096) + (m + m) ≤ nat_abs (b +ℤ pos 4096)
end_under t b m h l = omega (arith, ints)

end_at : (t b : ℤ) (m : ℕ) → negsuc 4095 ≤ℤ (t -ℤ pos m) → (((t +ℤ pos m) -ℤ pos 1) +ℤ pos 1) ≡ b →
    nat_abs ((t -ℤ pos m) +ℤ pos 4096) + (m + m) ≡ nat_abs (b +ℤ pos 4096)
end_at t b m h e = omega (arith, ints)

not_above : (a : ℤ) (n : ℤ) (m : ℕ) → 1 ≤ m → ((n +ℤ pos m) -ℤ pos 1) <ℤ a → a ≤ℤ (n -ℤ pos m) → ⊥
not_above a n m wide h l = omega (arith, ints)

-- the centre of a path with its lowest unit at a height
pub centre_back : (t : ℤ) (m : ℕ) → negsuc 4095 ≤ℤ (t -ℤ pos m) →
    (pos (nat_abs ((t -ℤ pos m) +ℤ pos 4096) + m) -ℤ pos 4096) ≡ t
centre_back t m h = omega (arith, ints)

-- a range of units lies in the grid
pub units_low : (u : Units) → is_units u ≡ true → negsuc 4095 ≤ℤ u.lo
units_low u h =
    let x = and_parts (int_le (negsuc 4095) u.lo && int_le u.lo u.hi) (int_le u.hi (pos 4095)) h in
    int_le-le (negsuc 4095) u.lo (and_parts (int_le (negsuc 4095) u.lo) (int_le u.lo u.hi) x.0).0

-- ---- places of a list

pub index_in : {X : Type 0} (xs : List X) (x : X) → IsIn x xs → (i : ℕ) × (slice_get xs i ≡ Some x)
index_in [] x i = absurd i
index_in (y ∷ xs) x i = elim i [
  | inl e ↦ (0, ap Some (sym e))
  | inr more ↦ let r = index_in xs x more in (suc r.0, r.1)
]

pub placed_in : {X : Type 0} (xs : List X) (x : X) → Contains xs x → (j : ℕ) × (j < length xs) × (slice_get xs j ≡ Some x)
placed_in xs x c = (c.0, c.1, slice_get_read xs (length xs) c.0 x refl c.1 (sym c.2))

index_once : (state : State) (i j : ℕ) (a b : Service) →
    all_pairs (λ s t. not (same_name s.name t.name)) state ≡ true →
    slice_get state i ≡ Some a → slice_get state j ≡ Some b → same_name a.name b.name ≡ true → i ≡ j
index_once [] i j a b differ e f same = cc
index_once (s ∷ state) zero zero a b differ e f same = refl
index_once (s ∷ state) zero (suc j) a b differ e f same =
    let is : s ≡ a = cc in
    let parts = and_parts (list_all (λ t. not (same_name s.name t.name)) state) _ differ in
    let other = not-true _ (list_all-at (λ (t : Service). not (same_name s.name t.name)) state b parts.0
    (slice_get_in state j b f).1) in
    absurd (both_ways _ other (ap (λ (x : Service). same_name x.name b.name) is ∙ same))
index_once (s ∷ state) (suc i) zero a b differ e f same =
    let is : s ≡ b = cc in
    let parts = and_parts (list_all (λ t. not (same_name s.name t.name)) state) _ differ in
    let other = not-true _ (list_all-at (λ (t : Service). not (same_name s.name t.name)) state a parts.0
    (slice_get_in state i a e).1) in
    absurd (both_ways _ other (ap (λ (x : Service). same_name x.name a.name) is ∙ names_equal.symm b.name a.name ∙ same))
index_once (s ∷ state) (suc i) (suc j) a b differ e f same =
    ap suc (index_once state i j a b
    (and_parts (list_all (λ t. not (same_name s.name t.name)) state) _ differ).1 e f same)

common_number : (xs ys : List ℕ) → share_number xs ys ≡ true →
    (n : ℕ) × (has_number xs n ≡ true) × (has_number ys n ≡ true)
common_number xs ys h =
    let f = any-member (has_number ys) xs h in
    (f.0, any-by (λ (k : ℕ). nat_eq k f.0) xs f.0 f.1.0 (nat_eq_equiv.refl f.0), f.1.1)

-- ---- what was taken up

-- the block is one of the first k
abbrev pub IsDone : List Block → ℕ → Block → Type 0
IsDone blocks k b = (j : ℕ) × (j < k) × (slice_get blocks j ≡ Some b)

-- a channel of the fibre ends at this height
pub record ChannelOn (state : State) (p : Places) (blocks : List Block) (k f h : ℕ) : Type 0 where
  pub number : ℕ
  pub service : Service
  pub there : slice_get state number ≡ Some service
  pub done : IsDone blocks k (channel_block number service)
  pub on : has_number service.leg.work.route.fibres f ≡ true
  pub is : end_height (low_of p service) service.leg.work ≡ h

-- a backup does
pub record BackupOn (state : State) (blocks : List Block) (k f h : ℕ) : Type 0 where
  pub number : ℕ
  pub service : Service
  pub back : Path
  pub there : slice_get state number ≡ Some service
  pub has : service.leg.back ≡ Some back
  pub done : IsDone blocks k (backup_block number back)
  pub on : has_number back.route.fibres f ≡ true
  pub is : end_height (path_height back) back ≡ h

-- the first k blocks are taken up, and each channel among them is at its target
pub record SweptTo (state : State) (p : Places) (blocks : List Block) (k : ℕ) (tops lows : List ℕ) : Type 0 where
  pub long : length tops ≡ 256
  pub wide : length lows ≡ length state
  pub channels : (i : ℕ) (s : Service) → slice_get state i ≡ Some s → IsDone blocks k (channel_block i s) →
      (f : ℕ) → has_number s.leg.work.route.fibres f ≡ true → end_height (low_of p s) s.leg.work ≤ get_or tops f 0
  pub backups : (i : ℕ) (s : Service) (b : Path) → slice_get state i ≡ Some s → s.leg.back ≡ Some b →
      IsDone blocks k (backup_block i b) → (f : ℕ) → has_number b.route.fibres f ≡ true →
      end_height (path_height b) b ≤ get_or tops f 0
  pub from : (f : ℕ) → (get_or tops f 0 ≡ 0)
      ⊎ (ChannelOn state p blocks k f (get_or tops f 0) ⊎ BackupOn state blocks k f (get_or tops f 0))
  pub told : (i : ℕ) (s : Service) → slice_get state i ≡ Some s → IsDone blocks k (channel_block i s) →
      slice_get lows i ≡ Some (low_of p s)

-- ---- the order of the blocks

height_order : (blocks : List Block) → IsNonDecreasingBy (λ b. b.height) blocks → (j k : ℕ) (x y : Block) →
    slice_get blocks j ≡ Some x → slice_get blocks k ≡ Some y → j ≤ k → x.height ≤ y.height
height_order blocks ordered j k x y ex ey l =
    subst (λ (b : Block). b.height ≤ y.height) (get_or_from_slice_get blocks j x x ex)
    (subst (λ (b : Block). (get_or blocks j x).height ≤ b.height) (get_or_from_slice_get blocks k y x ey)
    (ordered j k x l (slice_get_within blocks k y ey)))

-- done, or not lower
pub done_or_higher : (blocks : List Block) → IsNonDecreasingBy (λ b. b.height) blocks → (k : ℕ) (x y : Block) →
    Contains blocks x → slice_get blocks k ≡ Some y → (IsDone blocks k x) ⊎ (y.height ≤ x.height)
done_or_higher blocks ordered k x y has ey =
    let at = placed_in blocks x has in
    elim (cases_lt at.0 k) [
      | inl less ↦ inl (at.0, less, at.2)
      | inr past ↦ inr (height_order blocks ordered k at.0 y x ey at.2 past)
    ]

pub done_lower : (blocks : List Block) → IsNonDecreasingBy (λ b. b.height) blocks → (k : ℕ) (x y : Block) →
    IsDone blocks k x → slice_get blocks k ≡ Some y → x.height ≤ y.height
done_lower blocks ordered k x y done ey = height_order blocks ordered done.0 k x y done.2 ey (at_most done.0 k done.1)
  where
    at_most : (j k : ℕ) → j < k → j ≤ k
    at_most j k l = omega arith

-- no channel is done before its turn
not_twice : (blocks : List Block) → IsDistinct same_block blocks → (k i : ℕ) (s : Service) →
    IsDone blocks k (channel_block i s) → slice_get blocks k ≡ Some (channel_block i s) → ⊥
not_twice blocks differ k i s done at =
    let x = channel_block i s in
    let apart = apart_from_distinct same_block blocks done.0 k x differ done.1 (slice_get_within blocks k x at) in
    both_ways (same_block x x)
    (ap (λ (b : Block). same_block b x) (sym (get_or_from_slice_get blocks done.0 x x done.2))
    ∙ ap (same_block (get_or blocks done.0 x)) (sym (get_or_from_slice_get blocks k x x at)) ∙ apart)
    (and_from (nat_eq i i) true (nat_eq_equiv.refl i) refl)

-- ---- in a legal state at rest, with the targets of a sweep

module _ (setup : Setup) (state : State) (rest : AtRest state) (legal : Legal setup state)
    (banded : is_band setup.band ≡ true) (p : Places) (swept : IsSwept setup state p) where
  itself : (n : ℤ) → n ≤ℤ n
  itself n = omega (arith, ints)

  own : CanStand setup state own_places
  own = own_can setup state rest legal

  wide : (s : Service) → IsIn s state → 1 ≤ s.leg.work.slot.m
  wide = AreWide-legal setup state rest legal

  parts : BandParts setup.band
  parts = band-parts setup.band banded

  -- what lies in the band lies in the grid
  on_grid : (a : Units) → lies_in_band setup.band a ≡ true → negsuc 4095 ≤ℤ a.lo
  on_grid a h =
      let f = any-member (λ (part : Units). lies_in part a) setup.band h in
      le_then (negsuc 4095) f.0.lo a.lo (units_low f.0 (list_all-at is_units setup.band f.0 parts.units f.1.0))
      (lies_in-facts f.0 a f.1.1).0

  own_grid : (s : Service) → IsIn s state → negsuc 4095 ≤ℤ (units_at own_places s).lo
  own_grid s i = on_grid (units_at own_places s) (own.in_band s i)

  pub target_grid : (s : Service) → IsIn s state → negsuc 4095 ≤ℤ (units_at p s).lo
  target_grid s i = on_grid (units_at p s) (swept.way.in_band s i (p s) (itself (p s)) (swept.way.down s i))

  back_grid : (s : Service) (b : Path) → IsIn s state → s.leg.back ≡ Some b → negsuc 4095 ≤ℤ (units_of b.slot).lo
  back_grid s b i e = on_grid (units_of b.slot)
      (and_parts (is_route setup.network s.src s.dst b.route && nat_le 1 b.slot.m
      && is_exactly (need_of setup s.rate b.route.km) b.slot.m) (lies_in_band setup.band (units_of b.slot))
      (backup-path setup s s.leg b (FitsIn-own setup state rest legal s i).spare e)).1

  part_grid : (part : Units) → IsIn part setup.band → negsuc 4095 ≤ℤ part.lo
  part_grid part i = on_grid part (any-by (λ (q : Units). lies_in q part) setup.band part i (lies_in_itself part))

  back_wide : (s : Service) (b : Path) → IsIn s state → s.leg.back ≡ Some b → 1 ≤ b.slot.m
  back_wide s b i e =
      let path = and_parts (is_route setup.network s.src s.dst b.route && nat_le 1 b.slot.m
      && is_exactly (need_of setup s.rate b.route.km) b.slot.m) (lies_in_band setup.band (units_of b.slot))
      (backup-path setup s s.leg b (FitsIn-own setup state rest legal s i).spare e) in
      let width = and_parts (is_route setup.network s.src s.dst b.route && nat_le 1 b.slot.m)
      (is_exactly (need_of setup s.rate b.route.km) b.slot.m) path.0 in
      leb-true 1 b.slot.m (and_parts (is_route setup.network s.src s.dst b.route) (nat_le 1 b.slot.m) width.0).1

  -- what is not higher and apart is below
  channel_below : (o s : Service) → IsIn o state → IsIn s state → same_name o.name s.name ≡ false →
      share_fibre o.leg.work.route s.leg.work.route ≡ true → path_height o.leg.work ≤ path_height s.leg.work →
      Below own_places o s
  channel_below o s i j other common low =
      elim (beside (units_at own_places o) (units_at own_places s) (own.works o s i j other common)) [
        | inl below ↦ below
        | inr above ↦ absurd (not_above (units_at own_places o).lo (own_places s) s.leg.work.slot.m (wide s j) above
            (of_height (units_at own_places o).lo (units_at own_places s).lo (own_grid o i) (own_grid s j) low))
      ]

  backup_below : (s o : Service) (b : Path) → IsIn s state → IsIn o state → same_name s.name o.name ≡ false →
      o.leg.back ≡ Some b → share_fibre s.leg.work.route b.route ≡ true → path_height b ≤ path_height s.leg.work →
      BackupBelow own_places b s
  backup_below s o b i j other is common low =
      elim (beside (units_at own_places s) (units_of b.slot) (own.backs s o i j other b is common)) [
        | inl above ↦ absurd (not_above (units_of b.slot).lo (own_places s) s.leg.work.slot.m (wide s i) above
            (of_height (units_of b.slot).lo (units_at own_places s).lo (back_grid o b j is) (own_grid s i) low))
        | inr below ↦ below
      ]

  module _ (blocks : List Block) (are : AreBlocks state blocks) (ordered : IsNonDecreasingBy (λ b. b.height) blocks)
      (k i : ℕ) (s : Service) (there : slice_get state i ≡ Some s)
      (at : slice_get blocks k ≡ Some (channel_block i s)) (tops lows : List ℕ)
      (inv : SweptTo state p blocks k tops lows) (top : ℕ)
      (over : IsTopOver tops s.leg.work.route.fibres (floor_height setup.band s.leg.work) top) where
    member : IsIn s state
    member = (slice_get_in state i s there).1

    -- the part of the band where the channel stands
    floor_is : (part : Units) × (IsIn part setup.band) × (lies_in part (units_at own_places s) ≡ true)
        × (floor_height setup.band s.leg.work ≡ height_of part.lo)
    floor_is = elim (found (λ (part : Units). lies_in part (units_of s.leg.work.slot)) setup.band) [
      | inl none ↦
          let f = any-member (λ (part : Units). lies_in part (units_of s.leg.work.slot)) setup.band (own.in_band s member) in
          absurd (both_ways _ (none.1 f.0 f.1.0) f.1.1)
      | inr some ↦ (
        some.0,
        some.2,
        some.3,
        ap (λ (o : Option Units). unwrap_or (option_map (λ (part : Units). height_of part.lo) o) (path_height s.leg.work)) some.1,
      )
    ]

    low_in_part : (t o q_lo q_hi p_lo p_hi : ℤ) (m : ℕ) → 1 ≤ m →
        q_lo ≤ℤ int_min (o -ℤ pos m) (t -ℤ pos m) →
        int_max ((o +ℤ pos m) -ℤ pos 1) ((t +ℤ pos m) -ℤ pos 1) ≤ℤ q_hi →
        (q_lo ≤ℤ (o -ℤ pos m)) × ((o -ℤ pos m) ≤ℤ q_hi) × (q_lo ≤ℤ (t -ℤ pos m))
    low_in_part t o q_lo q_hi p_lo p_hi m w h l =
        (omega (arith, ints, clamps), omega (arith, ints, clamps), omega (arith, ints, clamps))

    own_unit : (o hi : ℤ) (m : ℕ) → 1 ≤ m → ((o +ℤ pos m) -ℤ pos 1) ≤ℤ hi → (o -ℤ pos m) ≤ℤ hi
    own_unit o hi m w h = omega (arith, ints)

    floor_under : floor_is.0.lo ≤ℤ (units_at p s).lo
    floor_under =
        let m = s.leg.work.slot.m in
        let part = floor_is.0 in
        let w = wide s member in
        let h = all-hull setup.band parts m w (p s) (own_places s) (swept.way.down s member) (swept.way.in_band s member) in
        let f = any-member (λ (q : Units). lies_in q (hull (units_at own_places s) (units_at p s))) setup.band h in
        let inside = lies_in-facts f.0 (hull (units_at own_places s) (units_at p s)) f.1.1 in
        let three = low_in_part (p s) (own_places s) f.0.lo f.0.hi part.lo part.hi m w inside.0 inside.1 in
        let top = lies_in-facts part (units_at own_places s) floor_is.2 in
        let same : f.0 ≡ part = one_part setup.band parts f.0 part (units_at own_places s).lo f.1.0 floor_is.1
        three.0 three.1 top.0 (own_unit (own_places s) part.hi m w top.1) in
        subst (λ (q : Units). q.lo ≤ℤ (units_at p s).lo) same three.2

    -- ---- it settles no higher than its target

    under_channel : (h : ℕ) (f : ℕ) → has_number s.leg.work.route.fibres f ≡ true → ChannelOn state p blocks k f h →
        h ≤ low_of p s
    under_channel h f on c =
        let o = c.service in
        let j = (slice_get_in state c.number o c.there).1 in
        elim (cases_Bool (same_name o.name s.name)) [
          | inl same ↦
              let number = index_once state c.number i o s (names_differ setup state legal) c.there there same in
              let is : o ≡ s = one_of_name setup state legal o s j member same in
              absurd (not_twice blocks are.differ k i s
              (subst (λ (n : ℕ). IsDone blocks k (channel_block n s)) number
              (subst (λ (x : Service). IsDone blocks k (channel_block c.number x)) is c.done)) at)
          | inr other ↦
              let common : share_fibre o.leg.work.route s.leg.work.route ≡ true =
              share_number-at o.leg.work.route.fibres s.leg.work.route.fibres f c.on on in
              let low = done_lower blocks ordered k (channel_block c.number o) (channel_block i s) c.done at in
              let below = channel_below o s j member other common low in
              subst (λ (n : ℕ). n ≤ low_of p s) c.is
              (end_under (p o) (units_at p s).lo o.leg.work.slot.m (target_grid o j)
              (swept.way.works o s j member other common below))
        ]

    under_backup : (h : ℕ) (f : ℕ) → has_number s.leg.work.route.fibres f ≡ true → BackupOn state blocks k f h →
        h ≤ low_of p s
    under_backup h f on c =
        let o = c.service in
        let b = c.back in
        let j = (slice_get_in state c.number o c.there).1 in
        let common : share_fibre s.leg.work.route b.route ≡ true =
        share_number-at s.leg.work.route.fibres b.route.fibres f on c.on in
        elim (cases_Bool (same_name s.name o.name)) [
          | inl same ↦
              let is : s ≡ o = one_of_name setup state legal s o member j same in
              absurd (own_backup setup state rest legal s member b
              (ap (λ (x : Service). x.leg.back) is ∙ c.has) common)
          | inr other ↦
              let low = done_lower blocks ordered k (backup_block c.number b) (channel_block i s) c.done at in
              let below = backup_below s o b member j other c.has common low in
              subst (λ (n : ℕ). n ≤ low_of p s) c.is
              (end_under b.slot.n (units_at p s).lo b.slot.m (back_grid o b j c.has)
              (swept.way.backs s o member j other b c.has common below))
        ]

    none_under : (n : ℕ) → n ≡ 0 → n ≤ low_of p s
    none_under n e = omega arith

    at_most : top ≤ low_of p s
    at_most = elim over.from [
      | inl floor ↦ subst (λ (n : ℕ). n ≤ low_of p s) (sym (floor ∙ floor_is.3))
          (height_up floor_is.0.lo (units_at p s).lo (part_grid floor_is.0 floor_is.1) floor_under)
      | inr more ↦ subst (λ (n : ℕ). n ≤ low_of p s) more.2
          (elim (inv.from more.0) [
            | inl none ↦ none_under (get_or tops more.0 0) none
            | inr some ↦ elim some [
              | inl c ↦ under_channel (get_or tops more.0 0) more.0 more.1 c
              | inr c ↦ under_backup (get_or tops more.0 0) more.0 more.1 c
            ]
          ])
    ]

    -- ---- and no lower

    most : (a b c : ℕ) → a ≤ b → b ≤ c → a ≤ c
    most a b c h l = omega arith

    over_common : (f h : ℕ) → has_number s.leg.work.route.fibres f ≡ true → h ≤ get_or tops f 0 → h ≤ top
    over_common f h on l = most h (get_or tops f 0) top l (over.over f on)

    one_lower : (t lo : ℤ) (m : ℕ) → lo <ℤ (t -ℤ pos m) → lo ≤ℤ ((t -ℤ pos 1) -ℤ pos m)
    one_lower t lo m h = omega (arith, ints)

    lower_end : (t o hi : ℤ) (m : ℕ) → t ≤ℤ o → ((o +ℤ pos m) -ℤ pos 1) ≤ℤ hi → (((t -ℤ pos 1) +ℤ pos m) -ℤ pos 1) ≤ℤ hi
    lower_end t o hi m h l = omega (arith, ints)

    over_floor : IsOnFloor setup p s → low_of p s ≤ top
    over_floor held =
        let part = floor_is.0 in
        let t = units_at p s in
        elim (le_or_lt t.lo part.lo) [
          | inl low ↦ most (low_of p s) (height_of part.lo) top
              (height_up t.lo part.lo (target_grid s member) low)
              (subst (λ (n : ℕ). n ≤ top) floor_is.3 over.above)
          | inr above ↦
              let lower = units_of (moved_to s.leg.work.slot (p s -ℤ pos 1)) in
              let holds = lies_in-facts part (units_at own_places s) floor_is.2 in
              absurd (both_ways _ held
              (any-by (λ (q : Units). lies_in q lower) setup.band part floor_is.1
              (facts-lies_in part lower (one_lower (p s) part.lo s.leg.work.slot.m above)
              (lower_end (p s) (own_places s) part.hi s.leg.work.slot.m (swept.way.down s member) holds.1))))
        ]

    not_lower_channel : (o : Service) → Below own_places o s → IsIn o state →
        path_height s.leg.work ≤ path_height o.leg.work → ⊥
    not_lower_channel o below j high = not_above (units_at own_places s).lo (own_places o) o.leg.work.slot.m (wide o j) below
        (of_height (units_at own_places s).lo (units_at own_places o).lo (own_grid s member) (own_grid o j) high)

    over_channel : (o : Service) → OnChannel state p s o → low_of p s ≤ top
    over_channel o c =
        let at_o = index_in state o c.there in
        let f = common_number o.leg.work.route.fibres s.leg.work.route.fibres c.common in
        elim (done_or_higher blocks ordered k (channel_block at_o.0 o) (channel_block i s)
        (are.channels at_o.0 o at_o.1) at) [
          | inl done ↦ over_common f.0 (low_of p s) f.2
              (subst (λ (n : ℕ). n ≤ get_or tops f.0 0)
              (end_at (p o) (units_at p s).lo o.leg.work.slot.m (target_grid o c.there) c.touches)
              (inv.channels at_o.0 o at_o.1 done f.0 f.1))
          | inr high ↦ absurd (not_lower_channel o c.below c.there high)
        ]

    back_ends_under : (hi t n : ℤ) (m : ℕ) → (hi +ℤ pos 1) ≡ (t -ℤ pos m) → t ≤ℤ n → hi <ℤ (n -ℤ pos m)
    back_ends_under hi t n m e h = omega (arith, ints)

    not_lower_backup : (o : Service) (b : Path) → IsIn o state → o.leg.back ≡ Some b → 1 ≤ b.slot.m →
        BackupBelow own_places b s → path_height s.leg.work ≤ path_height b → ⊥
    not_lower_backup o b j is w below high = not_above (units_at own_places s).lo b.slot.n b.slot.m w below
        (of_height (units_at own_places s).lo (units_of b.slot).lo (own_grid s member) (back_grid o b j is) high)

    over_backup : (o : Service) (b : Path) → OnBackup state p s o b → low_of p s ≤ top
    over_backup o b c =
        let at_o = index_in state o c.there in
        let f = common_number s.leg.work.route.fibres b.route.fibres c.common in
        let below : BackupBelow own_places b s =
        back_ends_under (units_of b.slot).hi (p s) (own_places s) s.leg.work.slot.m c.touches (swept.way.down s member) in
        elim (done_or_higher blocks ordered k (backup_block at_o.0 b) (channel_block i s)
        (are.backups at_o.0 o b at_o.1 c.is) at) [
          | inl done ↦ over_common f.0 (low_of p s) f.1
              (subst (λ (n : ℕ). n ≤ get_or tops f.0 0)
              (end_at b.slot.n (units_at p s).lo b.slot.m (back_grid o b c.there c.is) c.touches)
              (inv.backups at_o.0 o b at_o.1 c.is done f.0 f.2))
          | inr high ↦ absurd (not_lower_backup o b c.there c.is (back_wide o b c.there c.is) below high)
        ]

    at_least : low_of p s ≤ top
    at_least = elim (swept.rests s member) [
      | inl floor ↦ over_floor floor
      | inr more ↦ elim more [ inl on ↦ over_channel on.0 on.1 | inr on ↦ over_backup on.0 on.1.0 on.1.1 ]
    ]

    both_bounds : (a b : ℕ) → a ≤ b → b ≤ a → a ≡ b
    both_bounds a b h l = omega arith

    lower_place : (t n : ℤ) (m : ℕ) → t ≤ℤ n → (t -ℤ pos m) ≤ℤ (n -ℤ pos m)
    lower_place t n m h = omega (arith, ints)

    pub settles : settled_height top s.leg.work ≡ low_of p s
    settles =
        let is : top ≡ low_of p s = both_bounds top (low_of p s) at_most at_least in
        let down : low_of p s ≤ path_height s.leg.work =
        height_up (units_at p s).lo (units_at own_places s).lo (target_grid s member)
        (lower_place (p s) (own_places s) s.leg.work.slot.m (swept.way.down s member)) in
        min-eq_left (subst (λ (n : ℕ). n ≤ path_height s.leg.work) (sym is) down) ∙ is

-- the floor of the part that was found
pub floor_at : (band : Band) (path : Path) (units part : Units) → units ≡ units_of path.slot →
    find (λ p. lies_in p units) band ≡ Some part → height_of part.lo ≡ floor_height band path
floor_at band path units part e found =
    sym (ap (λ (o : Option Units). unwrap_or (option_map (λ (p : Units). height_of p.lo) o) (path_height path))
    (ap (λ (u : Units). find (λ p. lies_in p u) band) (sym e) ∙ found))
