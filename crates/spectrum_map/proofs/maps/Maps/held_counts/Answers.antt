use Rattle.std.proofs.Common.{◌≡◌, ◌∙◌, sym, ap, subst, ◌+◌, ◌-◌, ◌*◌, ◌<◌, ◌≤ℤ◌, pos, ◌+ℤ◌, true, cond, arith, get_or, take, drop}
use Rattle.std.proofs.lemmas.Int.{ints}
use Rattle.std.proofs.lemmas.Bool.{and_from, lt-ltb}
use Rattle.std.proofs.lemmas.List.{get_or-take, get_or-drop}
use Rattle.eon_model.specs.Grid.{span_of, unit_count}
use Rattle.spectrum_map.specs.Kept.{Kept, holders_in, is_kept, index_of}
use Rattle.eon_model.proofs.SpanLaws.{span-facts}
use Rattle.spectrum_map.proofs.SpanLaws.{facts-unit}
use Rattle.spectrum_map.proofs.maps.Maps.held_counts.Goals as goal

pub returns-clause-counts : goal.returns-clause-counts
returns-clause-counts c i l =
    let band = c.self.inside.band in
    let span = span-facts band c.self.invariant.band_is in
    let some = span.order in
    let on = subst (λ (v : Kept). c.args.fibre < v.fibres) (sym c.self.view_is) c.requires in
    let near = subst (λ (v : Kept). i < unit_count (span_of v.band)) (sym c.self.view_is) l in
    let u = (span_of band).lo +ℤ pos i in
    let low : (span_of band).lo ≤ℤ u = omega (arith, ints) in
    let high : u ≤ℤ (span_of band).hi = omega (arith, ints) in
    let kept : is_kept band c.self.inside.fibres c.args.fibre u ≡ true =
    and_from _ _ (lt-ltb c.args.fibre c.self.inside.fibres on) (facts-unit (span_of band) u low high) in
    let place : 1024 * c.args.fibre + i ≡ index_of band c.args.fibre u = omega (arith, ints) in
    let count : (1024 * c.from-start.result + c.units.result) - 1024 * c.from-start.result ≡ unit_count (span_of band) =
    (let long : (1024 * c.from-start.result + c.units.result) - 1024 * c.from-start.result ≡ c.units.result = omega arith in
    long) ∙ c.units.ensures.value ∙ ap (λ (v : Kept). unit_count (span_of v.band)) (sym c.self.view_is) in
    (λ q. get_or (take (count q) (drop (1024 * c.from-start.ensures q) (c.deref.ensures.value q))) i 0)
    ∙ get_or-take (unit_count (span_of band)) (drop (1024 * c.args.fibre) c.self.inside.holders.items) i 0 near
    ∙ get_or-drop (1024 * c.args.fibre) c.self.inside.holders.items i 0
    ∙ ap (λ n. get_or c.self.inside.holders.items n 0) place
    ∙ (λ q. cond (sym kept q) (get_or c.self.inside.holders.items (index_of band c.args.fibre u) 0) 0)
    ∙ ap (λ (v : Kept). holders_in v c.args.fibre ((span_of v.band).lo +ℤ pos i)) c.self.view_is
