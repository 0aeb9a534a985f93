-- Numbers of a slot, as they are computed.
use Rattle.std.proofs.Common.{◌≡◌, ◌∙◌, ap, ℕ, ◌+◌, ◌<◌, ◌≤◌, arith, ℤ, pos, negsuc, ◌+ℤ◌, ◌≤ℤ◌, to_z, of_z, w16, w32}
use Rattle.std.proofs.lemmas.Int.{ints}
use Rattle.eon_model.specs.Grid.{Units, Band, has_unit, span_of, unit_count}
use Rattle.eon_model.proofs.SetLists.{same_test}
use Rattle.spectrum_map.specs.Bits.{is_between}
use Rattle.spectrum_map.specs.Kept.{place_of}
use Rattle.spectrum_map.proofs.BitLaws.{between-facts, facts-between}
use Rattle.spectrum_map.proofs.SpanLaws.{unit-facts, facts-unit}

round32 : (v : ℤ) → negsuc 32767 ≤ℤ v → v ≤ℤ pos 32767 → to_z w32 (of_z w32 v) ≡ v
round32 v p q = omega (arith, ints)

round16 : (v : ℤ) → negsuc 32767 ≤ℤ v → v ≤ℤ pos 32767 → to_z w16 (of_z w16 v) ≡ v
round16 v p q = omega (arith, ints)

-- a centre keeps its value in 16 bits
pub rounded : (lo : ℤ) (p m : ℕ) → negsuc 4095 ≤ℤ lo → lo ≤ℤ pos 4095 → p < 1024 → m ≤ 512 →
    to_z w16 (of_z w16 (to_z w32 (of_z w32 (to_z w32 (of_z w32 (lo +ℤ pos p)) +ℤ pos m)))) ≡ (lo +ℤ pos p) +ℤ pos m
rounded lo p m low high near narrow =
    let v = (lo +ℤ pos p) +ℤ pos m in
    let a : negsuc 32767 ≤ℤ (lo +ℤ pos p) = omega (arith, ints) in
    let b : (lo +ℤ pos p) ≤ℤ pos 32767 = omega (arith, ints) in
    let d : negsuc 32767 ≤ℤ ((lo +ℤ pos p) +ℤ pos m) = omega (arith, ints) in
    let e : ((lo +ℤ pos p) +ℤ pos m) ≤ℤ pos 32767 = omega (arith, ints) in
    (λ i. to_z w16 (of_z w16 (to_z w32 (of_z w32 (round32 (lo +ℤ pos p) a b i +ℤ pos m)))))
    ∙ ap (λ (u : ℤ). to_z w16 (of_z w16 u)) (round32 ((lo +ℤ pos p) +ℤ pos m) d e)
    ∙ round16 ((lo +ℤ pos p) +ℤ pos m) d e

-- the places of units are those whose units are among them
pub between_units : (band : Band) (a : Units) (first end i : ℕ) → (span_of band).lo ≤ℤ a.lo → a.lo ≤ℤ a.hi →
    first ≡ place_of band a.lo → end ≡ place_of band a.lo + unit_count a →
    is_between first end i ≡ has_unit a ((span_of band).lo +ℤ pos i)
between_units band a first end i low some first_is end_is = same_test _ _
    (λ h. let p = between-facts first end i h in
    let p0 = p.0 in let p1 = p.1 in
    facts-unit a ((span_of band).lo +ℤ pos i) (omega (arith, ints)) (omega (arith, ints)))
    (λ h. let p = unit-facts a ((span_of band).lo +ℤ pos i) h in
    let p0 = p.0 in let p1 = p.1 in
    facts-between first end i (omega (arith, ints)) (omega (arith, ints)))
