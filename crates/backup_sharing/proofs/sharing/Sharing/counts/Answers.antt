use Rattle.std.proofs.Common.{◌≡◌, ◌∙◌, sym, ap, subst, ℕ, ◌<◌, pos, ◌+ℤ◌, length, get_or}
use Rattle.std.proofs.lemmas.List.{get_or_default}
use Rattle.eon_model.specs.Grid.{Band, span_of, unit_count}
use Rattle.eon_model.specs.Rows.{Holders, counts_among}
use Rattle.spectrum_map.specs.Kept.{Kept, holders_in}
use Rattle.backup_sharing.specs.Shared.{Sharers, IsHeldBy, blank}
use Rattle.backup_sharing.proofs.CountedLaws.{counted_for}
use Rattle.backup_sharing.proofs.sharing.Sharing.counts.Goals as goal

pub returns-clause-count : goal.returns-clause-count
returns-clause-count c =
    let maps = c.self.inside.maps.items in
    let near = subst (λ (v : Sharers). c.args.risk < v.groups) (sym c.self.view_is) c.requires.risk in
    let here = subst (λ (n : ℕ). n < length maps) (sym c.from.ensures) near in
    let same = c.index.ensures ∙ get_or_default maps c.from.result c.index.result.now blank here in
    let is = subst (λ (m : Kept). IsHeldBy c.self.inside.band c.self.inside.fibres
    (counted_for c.self.inside.added.reserves c.from.result) m) (sym same) (c.self.invariant.each c.from.result here) in
    c.held_counts.ensures.count ∙ ap (λ (b : Band). unit_count (span_of b)) is.band_is
    ∙ ap (λ (v : Sharers). unit_count (span_of v.band)) c.self.view_is

pub returns-clause-counts : goal.returns-clause-counts
returns-clause-counts c i l =
    let maps = c.self.inside.maps.items in
    let rs = c.self.inside.added.reserves in
    let near = subst (λ (v : Sharers). c.args.risk < v.groups) (sym c.self.view_is) c.requires.risk in
    let here = subst (λ (n : ℕ). n < length maps) (sym c.from.ensures) near in
    let same = c.index.ensures ∙ get_or_default maps c.from.result c.index.result.now blank here in
    let is = subst (λ (m : Kept). IsHeldBy c.self.inside.band c.self.inside.fibres (counted_for rs c.from.result) m) (sym same)
    (c.self.invariant.each c.from.result here) in
    subst (λ (b : Band). (i : ℕ) → i < unit_count (span_of b) →
    get_or c.held_counts.result.now i 0 ≡ holders_in c.index.result.now c.args.fibre ((span_of b).lo +ℤ pos i))
    (is.band_is ∙ ap (λ (v : Sharers). v.band) c.self.view_is) c.held_counts.ensures.counts i l
    ∙ ap (λ (h : Holders). h c.args.fibre ((span_of c.args.self.now.band).lo +ℤ pos i)) is.holders_are
    ∙ ap (λ g. counts_among rs c.args.fibre g ((span_of c.args.self.now.band).lo +ℤ pos i)) c.from.ensures
    ∙ ap (λ (v : Sharers). counts_among v.reserves c.args.fibre c.args.risk ((span_of c.args.self.now.band).lo +ℤ pos i))
    c.self.view_is
