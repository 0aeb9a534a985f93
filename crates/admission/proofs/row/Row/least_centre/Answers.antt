use Rattle.std.proofs.Common.{◌≡◌, sym, ◌∙◌, ap, ℕ, ◌*◌, ◌^◌, ◌<◌, ◌≤◌, ℤ, pos, negsuc, ◌+ℤ◌, ◌-ℤ◌, ◌≤ℤ◌, FitsSigned, w16, w32, to_z, of_z, arith, true, length, find, take, Some}
use Rattle.std.proofs.lemmas.Int.{ints}
use Rattle.eon_model.specs.Grid.{unit_count, span_of, is_band}
use Rattle.eon_model.specs.FirstFit.{centres_in}
use Rattle.admission.specs.declared.row.Row.{Row}
use Rattle.admission.specs.Free.{EndsRun, IsFirstRun}
use Rattle.admission.proofs.WalkLaws.{has_room, first_centre, no_centre, no_width, centre_of, centre_low, centre_high, place_below}
use Rattle.admission.proofs.row.Row.least_centre.Goals as goal
use Rattle.eon_model.proofs.SpanLaws.{span-facts}

pub returns-then-m-eq0 : goal.returns-then-m-eq0
returns-then-m-eq0 c =
    let row = c.args.self.now in
    no_width row ∙ ap (λ m. find (has_room row m) (centres_in row.band)) (sym c.if-m-eq0.true)

pub returns-in_err-last : goal.returns-in_err-last
returns-in_err-last c =
    let row = c.args.self.now in
    let m = c.args.m in
    let some : 1 ≤ m = omega arith in
    let runs = take (unit_count (span_of row.band)) row.taken in
    let none : (i : ℕ) → i < length runs → ¬ EndsRun runs (2 * m) i =
    rw (← c.len.ensures.count, ← c.from.ensures) c.in_err-last.ensures in
    let few : unit_count (span_of row.band) ≤ length row.taken =
    let count = c.len.ensures.count in
    let few = c.len.ensures.few in omega arith in
    c.from_residual.ensures ∙ no_centre row m some c.lo.ensures.valid few none

-- the code's numbers are those of the law
module _ (row : Row) (m last : ℕ) (some : 1 ≤ m) (valid : is_band row.band ≡ true)
    (run : IsFirstRun (take (unit_count (span_of row.band)) row.taken) (2 * m) last)
    (lo width : ℤ) (at : lo ≡ (span_of row.band).lo) (wide : width ≡ pos m) (thin : m < 2 ^ 16) where
  abbrev centre : ℤ
  centre = centre_of row m some valid last

  abbrev computed : ℤ
  computed =
      to_z w32 (of_z w32 (to_z w32 (of_z w32 (to_z w32 (of_z w32 (to_z w32 (of_z w32 lo) +ℤ pos 1)) +ℤ to_z w32 last))
      -ℤ to_z w32 (of_z w32 width)))

  few : last < 1024
  few =
      let below = place_below row m some valid last run in
      let facts = span-facts row.band valid in
      let order = facts.order in
      let wide = facts.wide in omega (arith, ints)

  computed-is : (computed ≡ centre) × (negsuc 4095 ≤ℤ centre) × (centre ≤ℤ pos 4095)
  computed-is =
      let facts = span-facts row.band valid in
      let above = facts.low in
      let below = facts.high in
      let order = facts.order in
      let low = centre_low row m some valid last run in
      let high = centre_high row m some valid last run in
      let most = few in (omega (arith, ints), omega (arith, ints), omega (arith, ints))

  fits : FitsSigned w16 computed
  fits =
      let is = computed-is.0 in
      let low = computed-is.1 in
      let high = computed-is.2 in omega (arith, ints)

  kept : to_z w16 (of_z w16 computed) ≡ centre
  kept =
      let is = computed-is.0 in
      let low = computed-is.1 in
      let high = computed-is.2 in omega (arith, ints)

pub overflow_cast-result-2 : goal.overflow_cast-result-2
overflow_cast-result-2 c =
    let row = c.args.self.now in
    let m = c.args.m in
    let last = c.in_ok-last.last in
    let valid = c.lo.ensures.valid in
    let some : 1 ≤ m = omega arith in
    let runs = take (unit_count (span_of row.band)) row.taken in
    let run : IsFirstRun runs (2 * m) last =
    rw (← c.len.ensures.count, ← c.from.ensures) c.in_ok-last.ensures in
    let at : c.from-lo.result ≡ (span_of row.band).lo = let value = c.lo.ensures.value in omega (arith, ints) in
    fits row m last some valid run c.from-lo.result c.from-2.result at c.from-2.ensures c.ranges.m.fits

pub returns : goal.returns
returns c =
    let row = c.args.self.now in
    let m = c.args.m in
    let last = c.in_ok-last.last in
    let valid = c.lo.ensures.valid in
    let some : 1 ≤ m = omega arith in
    let runs = take (unit_count (span_of row.band)) row.taken in
    let run : IsFirstRun runs (2 * m) last =
    rw (← c.len.ensures.count, ← c.from.ensures) c.in_ok-last.ensures in
    let at : c.from-lo.result ≡ (span_of row.band).lo = let value = c.lo.ensures.value in omega (arith, ints) in
    ap (λ z. Some z)
    (kept row m last some valid run c.from-lo.result c.from-2.result at c.from-2.ensures c.ranges.m.fits)
    ∙ first_centre row m some valid last run
