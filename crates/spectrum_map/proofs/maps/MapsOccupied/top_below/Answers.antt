use Rattle.std.proofs.Common.{◌≡◌, ◌∙◌, sym, ap, subst, ℕ, ◌+◌, ◌-◌, ◌*◌, ◌<◌, ℤ, pos, negsuc, ◌+ℤ◌, ◌≤ℤ◌, ◌<ℤ◌, ◌||◌, List, Option, Some, arith, to_z, of_z, w32}
use Rattle.std.specs.Option.{option_map}
use Rattle.std.proofs.lemmas.Int.{ints, clamps}
use Rattle.eon_model.specs.Grid.{span_of}
use Rattle.eon_model.specs.Rows.{greatest_below, top_below}
use Rattle.spectrum_map.specs.Bits.{bit_of_either, IsHighest, IsHighestOf}
use Rattle.spectrum_map.specs.Kept.{Kept, rows_in, bit_at_unit}
use Rattle.eon_model.proofs.SpanLaws.{span-facts}
use Rattle.spectrum_map.proofs.QueryLaws.{stands, held_at, none_below, top_found, unit_told}
use Rattle.spectrum_map.proofs.maps.MapsOccupied.top_below.Goals as goal

pub returns-then-above-lo : goal.returns-then-above-lo
returns-then-above-lo c =
    let band = c.self.inside.band in
    let g = c.args.fibre in
    let fibres = c.self.inside.fibres in
    let lit = c.self.inside.lit.items in
    let held = c.self.inside.held.items in
    let on = subst (λ (v : Kept). c.args.fibre < v.fibres) (sym c.self.view_is) c.requires in
    let span = span-facts band c.self.invariant.band_is in
    let some = span.order in
    let lo_is = c.lo.ensures.value in
    let hi_is = c.hi.ensures.value in
    let least_is = c.min-above.ensures.value in
    let tail : greatest_below band (stands band fibres lit held g) c.args.unit
    ≡ top_below c.args.self.now.band (rows_in c.args.self.now) g c.args.unit =
    (λ i. greatest_below band (λ v. bit_at_unit band fibres lit g v
    || sym (held_at band fibres held c.self.inside.holders.items c.self.invariant.held_is g v) i) c.args.unit)
    ∙ ap (λ (v : Kept). top_below v.band (rows_in v) g c.args.unit) c.self.view_is in
    let under = c.if-above-lo.true in
    none_below band c.self.invariant.band_is fibres lit held g on c.args.unit (omega (arith, ints, clamps)) ∙ tail

pub place-requires-clause-high : goal.place-requires-clause-high
place-requires-clause-high c =
    let high = c.hi.ensures.value in
    let least = c.min-above.ensures.value in
    omega (arith, ints, clamps)

pub returns-in_err-top : goal.returns-in_err-top
returns-in_err-top c =
    let band = c.self.inside.band in
    let g = c.args.fibre in
    let fibres = c.self.inside.fibres in
    let lit = c.self.inside.lit.items in
    let held = c.self.inside.held.items in
    let on = subst (λ (v : Kept). c.args.fibre < v.fibres) (sym c.self.view_is) c.requires in
    let span = span-facts band c.self.invariant.band_is in
    let some = span.order in
    let lo_is = c.lo.ensures.value in
    let hi_is = c.hi.ensures.value in
    let least_is = c.min-above.ensures.value in
    let tail : greatest_below band (stands band fibres lit held g) c.args.unit
    ≡ top_below c.args.self.now.band (rows_in c.args.self.now) g c.args.unit =
    (λ i. greatest_below band (λ v. bit_at_unit band fibres lit g v
    || sym (held_at band fibres held c.self.inside.holders.items c.self.invariant.held_is g v) i) c.args.unit)
    ∙ ap (λ (v : Kept). top_below v.band (rows_in v) g c.args.unit) c.self.view_is in
    let above = to_z w32 (of_z w32 c.min-above.result) in
    let from = c.if-above-lo.false in
    let a : above ≤ℤ c.args.unit = omega (arith, ints, clamps) in
    let b : above ≤ℤ ((span_of band).hi +ℤ pos 1) = omega (arith, ints, clamps) in
    let d : (span_of band).lo ≤ℤ above = omega (arith, ints, clamps) in
    let least : (v : ℤ) → v <ℤ c.args.unit → v ≤ℤ (span_of band).hi → v <ℤ above =
    λ v p q. omega (arith, ints, clamps) in
    let found : IsHighestOf (bit_of_either lit held) (1024 * g) (1024 * g + c.place.result) c.highest_of_either.result =
    subst (λ (n : ℕ). IsHighestOf (bit_of_either lit held) (1024 * n) (1024 * n + c.place.result)
    c.highest_of_either.result) c.from-start.ensures
    (subst (λ (ws : List ℕ). IsHighestOf (bit_of_either lit ws) (1024 * c.from-start.result)
    (1024 * c.from-start.result + c.place.result) c.highest_of_either.result) c.deref-2.ensures.value
    (subst (λ (ws : List ℕ). IsHighestOf (bit_of_either ws c.deref-2.result.now) (1024 * c.from-start.result)
    (1024 * c.from-start.result + c.place.result) c.highest_of_either.result) c.deref.ensures.value
    c.highest_of_either.ensures)) in
    let is = top_found band c.self.invariant.band_is fibres lit held g on c.args.unit above a b least d
    (1024 * g + c.place.result) (ap (λ n. 1024 * g + n) c.place.ensures.place) c.highest_of_either.result found in
    c.from_residual.ensures
    ∙ ap (λ (o : Option ℕ). option_map (λ t. (span_of band).lo +ℤ pos (t - 1024 * g)) o) (sym c.in_err-top.was)
    ∙ is ∙ tail

pub overflow_cast-result-2 : goal.overflow_cast-result-2
overflow_cast-result-2 c =
    let band = c.self.inside.band in
    let h : IsHighest (bit_of_either c.deref.result.now c.deref-2.result.now) (1024 * c.from-start.result)
    (1024 * c.from-start.result + c.place.result) c.in_ok-top.top = c.in_ok-top.ensures in
    let low = h.low in
    let high = h.high in
    let few = c.place.ensures.few in
    omega (arith, ints)

pub returns : goal.returns
returns c =
    let band = c.self.inside.band in
    let g = c.args.fibre in
    let fibres = c.self.inside.fibres in
    let lit = c.self.inside.lit.items in
    let held = c.self.inside.held.items in
    let on = subst (λ (v : Kept). c.args.fibre < v.fibres) (sym c.self.view_is) c.requires in
    let span = span-facts band c.self.invariant.band_is in
    let some = span.order in
    let lo_is = c.lo.ensures.value in
    let hi_is = c.hi.ensures.value in
    let least_is = c.min-above.ensures.value in
    let tail : greatest_below band (stands band fibres lit held g) c.args.unit
    ≡ top_below c.args.self.now.band (rows_in c.args.self.now) g c.args.unit =
    (λ i. greatest_below band (λ v. bit_at_unit band fibres lit g v
    || sym (held_at band fibres held c.self.inside.holders.items c.self.invariant.held_is g v) i) c.args.unit)
    ∙ ap (λ (v : Kept). top_below v.band (rows_in v) g c.args.unit) c.self.view_is in
    let above = to_z w32 (of_z w32 c.min-above.result) in
    let from = c.if-above-lo.false in
    let a : above ≤ℤ c.args.unit = omega (arith, ints, clamps) in
    let b : above ≤ℤ ((span_of band).hi +ℤ pos 1) = omega (arith, ints, clamps) in
    let d : (span_of band).lo ≤ℤ above = omega (arith, ints, clamps) in
    let least : (v : ℤ) → v <ℤ c.args.unit → v ≤ℤ (span_of band).hi → v <ℤ above =
    λ v p q. omega (arith, ints, clamps) in
    let found : IsHighestOf (bit_of_either lit held) (1024 * g) (1024 * g + c.place.result) c.highest_of_either.result =
    subst (λ (n : ℕ). IsHighestOf (bit_of_either lit held) (1024 * n) (1024 * n + c.place.result)
    c.highest_of_either.result) c.from-start.ensures
    (subst (λ (ws : List ℕ). IsHighestOf (bit_of_either lit ws) (1024 * c.from-start.result)
    (1024 * c.from-start.result + c.place.result) c.highest_of_either.result) c.deref-2.ensures.value
    (subst (λ (ws : List ℕ). IsHighestOf (bit_of_either ws c.deref-2.result.now) (1024 * c.from-start.result)
    (1024 * c.from-start.result + c.place.result) c.highest_of_either.result) c.deref.ensures.value
    c.highest_of_either.ensures)) in
    let is = top_found band c.self.invariant.band_is fibres lit held g on c.args.unit above a b least d
    (1024 * g + c.place.result) (ap (λ n. 1024 * g + n) c.place.ensures.place) c.highest_of_either.result found in
    let h : IsHighest (bit_of_either c.deref.result.now c.deref-2.result.now) (1024 * c.from-start.result)
    (1024 * c.from-start.result + c.place.result) c.in_ok-top.top = c.in_ok-top.ensures in
    let start = c.from-start.ensures in
    let low = h.low in
    let high = h.high in
    let few = c.place.ensures.few in
    let lo : to_z w32 (of_z w32 c.from-lo.result) ≡ (span_of band).lo = omega (arith, ints) in
    let least16 : negsuc 32767 ≤ℤ (span_of band).lo = omega (arith, ints) in
    let most16 : (span_of band).hi ≤ℤ pos 32767 = omega (arith, ints) in
    let same = unit_told c.from-lo.result (span_of band).lo (span_of band).hi above c.in_ok-top.top
    c.from-start.result g c.place.result start lo least16 most16 b d c.place.ensures.place few low high in
    ap (λ (u : ℤ). Some u) same
    ∙ ap (λ (o : Option ℕ). option_map (λ t. (span_of band).lo +ℤ pos (t - 1024 * g)) o) (sym c.in_ok-top.was)
    ∙ is ∙ tail
