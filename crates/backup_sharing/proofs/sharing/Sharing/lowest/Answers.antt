use Rattle.std.proofs.Common.{◌≡◌, ◌∙◌, sym, ap, subst, ℕ, ◌<◌, ℤ, true, false, ◌||◌, List, length, arith, to_z, of_z, w16}
use Rattle.std.proofs.lemmas.Int.{ints}
use Rattle.std.specs.List.{AllByRecursion, list_any}
use Rattle.eon_model.specs.FirstInRows.{least_shared}
use Rattle.eon_model.specs.Grid.{Band, span_of}
use Rattle.eon_model.specs.Rows.{counts_among}
use Rattle.eon_model.specs.Sets.{has_member}
use Rattle.spectrum_map.specs.Bits.{bit_of}
use Rattle.spectrum_map.specs.Kept.{Kept, is_unit_that, place_of}
use Rattle.spectrum_map.proofs.QueryLaws.{either_unit}
use Rattle.block_fit.specs.Blocks.{least_clear}
use Rattle.block_fit.proofs.LeastLaws.{least_agree, unit_marked}
use Rattle.backup_sharing.specs.Shared.{Sharers, bars, counts_beside, map_at}
use Rattle.backup_sharing.proofs.CountedLaws.{fibres_there}
use Rattle.backup_sharing.proofs.FitLaws.{own_there}
use Rattle.backup_sharing.proofs.LowestLaws.{stands_there, lowest-is}
use Rattle.backup_sharing.proofs.sharing.Sharing.lowest.Goals as goal

pub barred_units-row-requires : goal.barred_units-row-requires
barred_units-row-requires g c =
    let same = c.deref.ensures.value in
    let band = ap (λ (v : Sharers). v.band) c.self.view_is ∙ sym c.requires.band in
    record {
      few = let n = c.self.invariant.few_groups in let l = ap length same in omega (arith, n, l);
      band = subst (λ (ms : List Kept). (g : ℕ) → g < length ms → (map_at ms g).band ≡ c.args.band) (sym same)
          (λ g l. (c.self.invariant.each g l).band_is ∙ band);
      groups = subst (λ (ms : List Kept). (g : ℕ) → has_member c.args.risk.now g ≡ true → g < length ms) (sym same)
          (subst (λ (v : Sharers). (g : ℕ) → has_member c.args.risk.now g ≡ true → g < v.groups) (sym c.self.view_is)
          c.requires.groups);
      fibres = subst (λ (ms : List Kept). (g : ℕ) → g < length ms →
          AllByRecursion (λ f. f < (map_at ms g).fibres) c.args.fibres.now) (sym same)
          (fibres_there c.self.inside.band c.self.inside.fibres c.self.inside.maps.items c.self.inside.added.reserves
          c.self.invariant c.args.fibres.now (subst (λ (v : Sharers). AllByRecursion (λ f. f < v.fibres) c.args.fibres.now)
          (sym c.self.view_is) c.requires.fibres));
      own = own_there c.args.self.now c.args.band (sym c.requires.band) c.args.own c.requires.own;
    }

pub join_lit-requires : goal.join_lit-requires
join_lit-requires g c =
    subst (λ (n : ℕ). AllByRecursion (λ f. f < n) c.args.fibres.now) (sym c.requires.view_fibres) c.requires.fibres

pub returns : goal.returns
returns g c =
    let band = c.args.band in
    let rows = g.V.Occupied.rows c.args.view.now in
    let fs = c.args.fibres.now in
    let risk = c.args.risk.now in
    let maps = c.self.inside.maps.items in
    let rs = c.self.inside.added.reserves in
    let groups = subst (λ (v : Sharers). (g : ℕ) → has_member risk g ≡ true → g < v.groups) (sym c.self.view_is)
    c.requires.groups in
    let words = c.join_lit.new.row.words in
    let barred = λ (u : ℤ). list_any (λ fibre. bars maps risk c.args.own fibre u) fs in
    let lit = λ (u : ℤ). list_any (λ fibre. rows.lit fibre u) fs in
    let test = stands_there c.self.inside.band c.self.inside.fibres maps rs c.self.invariant c.args.own risk groups rows fs in
    let from : to_z w16 (of_z w16 c.lo.result) ≡ (span_of band).lo = let value = c.lo.ensures.value in omega (arith, ints) in
    let bits : (i : ℕ) → bit_of words i ≡ is_unit_that band test i =
    λ i. c.join_lit.ensures i
    ∙ (λ k. (c.barred_units-row.ensures i ∙ ap (λ (ms : List Kept). is_unit_that band (λ u. list_any (λ fibre. bars ms risk c.args.own fibre u) fs) i)
    c.deref.ensures.value) k || is_unit_that ((c.requires.view_band ∙ sym c.requires.band) k) lit i)
    ∙ either_unit false band barred lit i in
    c.lowest_unmarked.ensures
    ∙ ap (λ (z : ℤ). least_clear (λ u. bit_of words (place_of band u)) c.args.m band z) from
    ∙ least_agree (λ u. bit_of words (place_of band u)) test c.args.m band (span_of band).lo c.lo.ensures.valid
    (unit_marked band c.lo.ensures.valid words test bits)
    ∙ (let same : c.self.inside.band ≡ band = ap (λ (v : Sharers). v.band) c.self.view_is ∙ sym c.requires.band in
    ap (λ (b : Band). least_clear test c.args.m b (span_of b).lo) (sym same)
    ∙ lowest-is c.self.inside.band c.self.inside.fibres maps rs c.self.invariant c.args.own risk groups rows fs c.args.m
    ∙ ap (λ (b : Band). least_shared rows (counts_beside c.args.own (counts_among rs)) risk fs c.args.m b) same)
    ∙ ap (λ (v : Sharers). least_shared rows (counts_beside c.args.own (counts_among v.reserves)) risk fs c.args.m band)
    c.self.view_is
