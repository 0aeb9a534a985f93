-- Channels in a legal state, seen from the floor or from the ceiling of the grid.
use Rattle.std.proofs.Common.{◌≡◌, refl, ◌∙◌, ap, ℕ, zero, suc, ◌+◌, ◌≤◌, ℤ, pos, negsuc, ◌+ℤ◌, ◌-ℤ◌, ◌≤ℤ◌, ◌<ℤ◌, ◌⊎◌, inl, inr, true, ◌&&◌, List, [], ◌∷◌, map, length, get_or, Option, Some, arith}
use Rattle.std.specs.Prelude.{slice_get, int_le}
use Rattle.std.proofs.lemmas.Bool.{and_parts}
use Rattle.std.proofs.lemmas.Int.{ints}
use Rattle.eon_model.specs.Grid.{Units, units_of, is_units}
use Rattle.eon_model.specs.Services.{Service, State}
use Rattle.eon_model.specs.Legal.{Setup, Legal}
use Rattle.eon_model.specs.Places.{target_in, Places}
use Rattle.eon_model.proofs.GridLaws.{int_le-le}
use Rattle.eon_model.proofs.PlacedLaws.{names_differ}
use Rattle.eon_model.proofs.TargetLists.{map-target}
use Rattle.make_room.specs.declared.heights.Side.{Side}
use Rattle.make_room.specs.declared.heights.Side.TheVariants.{Floor, Ceiling}
use Rattle.make_room.specs.Heights.{begin_of, end_of, centre_from}
use Rattle.make_room.specs.Sweeps.{centres_from}

-- units in the grid
pub record OnGrid (u : Units) : Type 0 where
  pub low : negsuc 4095 ≤ℤ u.lo
  pub high : u.hi ≤ℤ pos 4095

-- it comes before the other one, seen from this side
abbrev pub Before : Side → Units → Units → Type 0
Before Floor a b = a.hi <ℤ b.lo
Before Ceiling a b = b.hi <ℤ a.lo

-- and right before
abbrev pub RightBefore : Side → Units → Units → Type 0
RightBefore Floor a b = (a.hi +ℤ pos 1) ≡ b.lo
RightBefore Ceiling a b = (b.hi +ℤ pos 1) ≡ a.lo

-- not further from this side
abbrev pub NotPast : Side → Units → Units → Type 0
NotPast Floor a b = a.lo ≤ℤ b.lo
NotPast Ceiling a b = b.hi ≤ℤ a.hi

pub before-ends : (from : Side) (a b : Units) → a.lo ≤ℤ a.hi → b.lo ≤ℤ b.hi → OnGrid a → OnGrid b → Before from a b →
    end_of from a ≤ begin_of from b
before-ends Floor a b s t p q h = let l = p.low in let m = q.low in omega (arith, ints)
before-ends Ceiling a b s t p q h = let l = p.high in let m = q.high in omega (arith, ints)

pub ends-before : (from : Side) (a b : Units) → a.lo ≤ℤ a.hi → b.lo ≤ℤ b.hi → OnGrid a → OnGrid b →
    end_of from a ≤ begin_of from b → Before from a b
ends-before Floor a b s t p q h = let l = p.low in let m = q.low in omega (arith, ints)
ends-before Ceiling a b s t p q h = let l = p.high in let m = q.high in omega (arith, ints)

pub ends-right : (from : Side) (a b : Units) → a.lo ≤ℤ a.hi → b.lo ≤ℤ b.hi → OnGrid a → OnGrid b →
    end_of from a ≡ begin_of from b → RightBefore from a b
ends-right Floor a b s t p q h = let l = p.low in let m = q.low in omega (arith, ints)
ends-right Ceiling a b s t p q h = let l = p.high in let m = q.high in omega (arith, ints)

pub begins-not_past : (from : Side) (a b : Units) → OnGrid a → OnGrid b → begin_of from a ≤ begin_of from b →
    NotPast from a b
begins-not_past Floor a b p q h = let l = p.low in let m = q.low in omega (arith, ints)
begins-not_past Ceiling a b p q h = let l = p.high in let m = q.high in omega (arith, ints)

pub not_past-begins : (from : Side) (a b : Units) → OnGrid a → OnGrid b → NotPast from a b →
    begin_of from a ≤ begin_of from b
not_past-begins Floor a b p q h = let l = p.low in let m = q.low in omega (arith, ints)
not_past-begins Ceiling a b p q h = let l = p.high in let m = q.high in omega (arith, ints)

-- apart, one comes before the other
pub one_before : (from : Side) (a b : Units) → (a.hi <ℤ b.lo) ⊎ (b.hi <ℤ a.lo) → Before from a b ⊎ Before from b a
one_before Floor a b h = h
one_before Ceiling a b h = elim h [ inl x ↦ inr x | inr x ↦ inl x ]

-- ---- a channel at a height

slot_units : ℤ → ℕ → Units
slot_units n m = record { lo = n -ℤ pos m; hi = (n +ℤ pos m) -ℤ pos 1 }

pub begin-at : (from : Side) (t m : ℕ) →
    begin_of from (units_of (record { n = centre_from from m t; m = m })) ≡ t
begin-at Floor t m = omega (arith, ints)
begin-at Ceiling t m = omega (arith, ints)

pub end-at : (from : Side) (t m : ℕ) → 1 ≤ m →
    end_of from (units_of (record { n = centre_from from m t; m = m })) ≡ t + (m + m)
end-at Floor t m w = omega (arith, ints)
end-at Ceiling t m w = omega (arith, ints)

pub width-at : (from : Side) (n : ℤ) (m : ℕ) → 1 ≤ m → OnGrid (units_of (record { n = n; m = m })) →
    end_of from (units_of (record { n = n; m = m })) ≡ begin_of from (units_of (record { n = n; m = m })) + (m + m)
width-at Floor n m w g = let l = g.low in let h = g.high in omega (arith, ints)
width-at Ceiling n m w g = let l = g.low in let h = g.high in omega (arith, ints)

-- so it lies in the grid
pub grid-at : (from : Side) (t m : ℕ) → t + (m + m) ≤ 8192 →
    OnGrid (units_of (record { n = centre_from from m t; m = m }))
grid-at Floor t m h = record { low = omega (arith, ints); high = omega (arith, ints) }
grid-at Ceiling t m h = record { low = omega (arith, ints); high = omega (arith, ints) }

pub end-in : (from : Side) (a : Units) → a.lo ≤ℤ a.hi → OnGrid a → end_of from a ≤ 8192
end-in Floor a s g = let l = g.low in let h = g.high in omega (arith, ints)
end-in Ceiling a s g = let l = g.low in let h = g.high in omega (arith, ints)

pub wide-units : (n : ℤ) (m : ℕ) → 1 ≤ m → (n -ℤ pos m) ≤ℤ ((n +ℤ pos m) -ℤ pos 1)
wide-units n m w = omega (arith, ints)

pub units_facts : (u : Units) → is_units u ≡ true → (u.lo ≤ℤ u.hi) × OnGrid u
units_facts u h =
    let x = and_parts (int_le (negsuc 4095) u.lo && int_le u.lo u.hi) (int_le u.hi (pos 4095)) h in
    let y = and_parts (int_le (negsuc 4095) u.lo) (int_le u.lo u.hi) x.0 in
    (int_le-le u.lo u.hi y.1, record { low = int_le-le _ _ y.0; high = int_le-le _ _ x.1 })

-- ---- places that a list of heights tells

centres-at : (from : Side) (state : State) (ts : List ℕ) (i : ℕ) (s : Service) → length ts ≡ length state →
    slice_get state i ≡ Some s →
    slice_get (centres_from from state ts) i ≡ Some (centre_from from s.leg.work.slot.m (get_or ts i 0))
centres-at from [] ts i s e h = absurd cc
centres-at from (x ∷ state) [] i s e h = absurd (omega (arith, e))
centres-at from (x ∷ state) (t ∷ ts) zero s e h =
    let is : x ≡ s = cc in ap (λ (y : Service). Some (centre_from from y.leg.work.slot.m t)) is
centres-at from (x ∷ state) (t ∷ ts) (suc i) s e h = centres-at from state ts i s (omega (arith, e)) h

map-at : (f : Places) (state : State) (i : ℕ) (s : Service) → slice_get state i ≡ Some s →
    slice_get (map f state) i ≡ Some (f s)
map-at f [] i s h = absurd cc
map-at f (x ∷ state) zero s h = let is : x ≡ s = cc in ap (λ (y : Service). Some (f y)) is
map-at f (x ∷ state) (suc i) s h = map-at f state i s h

pub centres_long : (from : Side) (state : State) (ts : List ℕ) → length ts ≡ length state →
    length (centres_from from state ts) ≡ length state
centres_long from [] ts e = refl
centres_long from (s ∷ state) [] e = absurd (omega (arith, e))
centres_long from (s ∷ state) (t ∷ ts) e = ap suc (centres_long from state ts (omega (arith, e)))

pub place-at : (from : Side) (setup : Setup) (state : State) (ts : List ℕ) → Legal setup state →
    length ts ≡ length state → (i : ℕ) (s : Service) → slice_get state i ≡ Some s →
    target_in state (centres_from from state ts) s ≡ centre_from from s.leg.work.slot.m (get_or ts i 0)
place-at from setup state ts legal long i s there =
    let ns = centres_from from state ts in
    let listed : map (target_in state ns) state ≡ ns =
    map-target state ns (names_differ setup state legal) (centres_long from state ts long) in
    let a : slice_get (map (target_in state ns) state) i ≡ Some (target_in state ns s) =
    map-at (target_in state ns) state i s there in
    let b : slice_get (map (target_in state ns) state) i ≡ Some (centre_from from s.leg.work.slot.m (get_or ts i 0)) =
    ap (λ (l : List ℤ). slice_get l i) listed ∙ centres-at from state ts i s long there in
    one_of a b
  where
    one_of : {o : Option ℤ} {x y : ℤ} → o ≡ Some x → o ≡ Some y → x ≡ y
    one_of e f = cc
