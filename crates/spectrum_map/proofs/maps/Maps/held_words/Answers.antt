use Rattle.std.proofs.Common.{◌≡◌, ◌∙◌, sym, ap, subst, ◌+◌, ◌-◌, ◌*◌, ◌<◌, pos, ◌+ℤ◌, ◌&&◌, not, nat_eq, take, drop, arith}
use Rattle.std.specs.Prelude.{nat_lt}
use Rattle.eon_model.specs.Grid.{span_of, unit_count}
use Rattle.spectrum_map.specs.Bits.{word_bit}
use Rattle.spectrum_map.specs.Kept.{Kept, holders_in, words_for}
use Rattle.eon_model.proofs.SpanLaws.{span-facts}
use Rattle.spectrum_map.proofs.QueryLaws.{row_bits, held_at}
use Rattle.spectrum_map.proofs.maps.Maps.held_words.Goals as goal

pub returns-clause-bits : goal.returns-clause-bits
returns-clause-bits c j i l =
    let band = c.self.inside.band in
    let on = subst (λ (v : Kept). c.args.fibre < v.fibres) (sym c.self.view_is) c.requires in
    let long : (16 * c.from-start.result + c.words.result) - 16 * c.from-start.result ≡ c.words.result = omega arith in
    let count = long ∙ c.words.ensures.value ∙ ap (λ (v : Kept). words_for v.band) (sym c.self.view_is) in
    (λ q. word_bit (take (count q) (drop (16 * c.from-start.ensures q) (c.deref.ensures.value q))) j i)
    ∙ row_bits band c.self.inside.fibres c.self.inside.held.items (span-facts band c.self.invariant.band_is)
    (λ n h. c.self.invariant.held_is.where_counted n
    ∙ ap (λ k. not (nat_eq k 0)) (c.self.invariant.free_past n h)) c.args.fibre on j i l
    ∙ ap (λ b. nat_lt (64 * j + i) (unit_count (span_of band)) && b) (sym (held_at band c.self.inside.fibres
    c.self.inside.held.items c.self.inside.holders.items c.self.invariant.held_is c.args.fibre
    ((span_of band).lo +ℤ pos (64 * j + i))))
    ∙ ap (λ (v : Kept). nat_lt (64 * j + i) (unit_count (span_of v.band)) && not (nat_eq (holders_in v c.args.fibre ((span_of v.band).lo +ℤ pos (64 * j + i))) 0))
    c.self.view_is
