use Rattle.std.proofs.Common.{◌≡◌, ◌∙◌, ap, subst, ℕ, ◌<◌, ◌/◌, ◌%◌, ℤ, pos, ◌+ℤ◌, ◌&&◌, ◌||◌, not, nat_eq, get_or, arith}
use Rattle.eon_model.specs.Grid.{Band, span_of, unit_count}
use Rattle.spectrum_map.specs.Bits.{is_between}
use Rattle.spectrum_map.specs.Kept.{is_unit_that, holders_in}
use Rattle.spectrum_map.proofs.WordLaws.{in_word}
use Rattle.spectrum_map.proofs.QueryLaws.{told_place}
use Rattle.backup_sharing.proofs.BarLaws.{left_marked}
use Rattle.backup_sharing.proofs.ClearLaws.{place_has, places_within}
use Rattle.backup_sharing.proofs.barred.held_besides.Goals as goal

pub clear_ones-requires-clause-counts : goal.clear_ones-requires-clause-counts
clear_ones-requires-clause-counts c =
    let count = c.held_counts.ensures.count ∙ ap (λ (b : Band). unit_count (span_of b)) c.requires.band in
    let near = places_within c.args.band.now c.args.own.now c.requires.own c.places_of-own.result.first
    c.places_of-own.result.end c.places_of-own.ensures in
    omega (arith, count, near)

pub returns : goal.returns
returns c i =
    let band = c.args.band.now in
    let first = c.places_of-own.result.first in
    let end = c.places_of-own.result.end in
    let held = λ (u : ℤ). not (nat_eq (holders_in c.args.map.now c.args.fibre u) 0) in
    let count = get_or c.held_counts.result.now i 0 in
    c.clear_ones.ensures i
    ∙ (λ k. (c.join.ensures i
    ∙ (λ j. c.empty-row.ensures i j || (c.held_words.ensures.bits (i / 64) (i % 64) (in_word i)
    ∙ told_place c.args.map.now.band held i
    ∙ ap (λ (b : Band). is_unit_that b held i) c.requires.band) j)) k
    && not (is_between first end i && nat_eq count 1))
    ∙ left_marked band c.args.own.now (holders_in c.args.map.now c.args.fibre) i count (is_between first end i)
    (subst (λ (b : Band). (i : ℕ) → i < unit_count (span_of b) →
    get_or c.held_counts.result.now i 0 ≡ holders_in c.args.map.now c.args.fibre ((span_of b).lo +ℤ pos i))
    c.requires.band c.held_counts.ensures.counts i)
    (λ l. place_has band c.args.own.now c.requires.own first end c.places_of-own.ensures i)
