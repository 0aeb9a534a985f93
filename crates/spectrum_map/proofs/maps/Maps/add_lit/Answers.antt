use Rattle.std.proofs.Common.{◌≡◌, ◌∙◌, sym, ap, subst, ℕ, ◌||◌, List, length, arith}
use Rattle.std.proofs.lemmas.List.{with_items_is}
use Rattle.std.specs.Vec.{with_items}
use Rattle.eon_model.specs.Rows.{with_lit}
use Rattle.spectrum_map.specs.Bits.{bit_of, is_on_rows}
use Rattle.spectrum_map.specs.Kept.{Kept, AreRows, Becomes, IsKeptThere, rows_in, holders_in, taken}
use Rattle.spectrum_map.proofs.KeptLaws.{rows_there, lighted-is, lighted-rows}
use Rattle.spectrum_map.proofs.maps.Maps.add_lit.Goals as goal

pub places_of-places-requires : goal.places_of-places-requires
places_of-places-requires c =
    (subst (λ (v : Kept). IsKeptThere v (taken c.args.fibres.now c.args.units)) (sym c.self.view_is)
    c.requires.there).units

pub set_in_rows-requires : goal.set_in_rows-requires
set_in_rows-requires c =
    let band = c.self.inside.band in
    let there = subst (λ (v : Kept). IsKeptThere v (taken c.args.fibres.now c.args.units)) (sym c.self.view_is)
    c.requires.there in
    let at = c.places_of-places.ensures in
    let count = ap length c.deref_mut.ensures.value ∙ c.self.invariant.lit_count in
    record {
      few = omega (arith, count, c.self.invariant.few);
      order = at.order;
      within = at.few;
      rows = rows_there c.self.inside.fibres (length c.deref_mut.result.now) c.args.fibres.now count there.fibres;
    }

pub invariant_of-self : goal.invariant_of-self
invariant_of-self c =
    let band = c.self.inside.band in
    let there = subst (λ (v : Kept). IsKeptThere v (taken c.args.fibres.now c.args.units)) (sym c.self.view_is)
    c.requires.there in
    let at = c.places_of-places.ensures in
    let bits : (i : ℕ) → bit_of c.set_in_rows.new.words i ≡ (bit_of c.self.inside.lit.items i || is_on_rows c.args.fibres.now c.places_of-places.result.first c.places_of-places.result.end i) =
    λ i. c.set_in_rows.ensures.bits i ∙ ap (λ (ws : List ℕ). bit_of ws i || is_on_rows c.args.fibres.now c.places_of-places.result.first c.places_of-places.result.end i) c.deref_mut.ensures.value in
    let len = c.set_in_rows.ensures.len ∙ ap length c.deref_mut.ensures.value in
    let whole = with_items_is c.self.inside.lit c.set_in_rows.new.words (c.set_in_rows.ensures.len ∙ c.deref_mut.ensures.len) in
    subst (λ (ws : List ℕ). AreRows band c.self.inside.fibres ws c.self.inside.held.items c.self.inside.holders.items)
    (sym whole) (lighted-rows band c.self.inside.fibres c.self.inside.lit.items c.self.inside.held.items
    c.self.inside.holders.items c.self.invariant c.args.fibres.now c.args.units at.some there.fibres there.units
    c.places_of-places.result.first c.places_of-places.result.end at.first_is at.end_is
    c.set_in_rows.new.words len bits)

pub returns : goal.returns
returns c =
    let band = c.self.inside.band in
    let there = subst (λ (v : Kept). IsKeptThere v (taken c.args.fibres.now c.args.units)) (sym c.self.view_is)
    c.requires.there in
    let at = c.places_of-places.ensures in
    let bits : (i : ℕ) → bit_of c.set_in_rows.new.words i ≡ (bit_of c.self.inside.lit.items i || is_on_rows c.args.fibres.now c.places_of-places.result.first c.places_of-places.result.end i) =
    λ i. c.set_in_rows.ensures.bits i ∙ ap (λ (ws : List ℕ). bit_of ws i || is_on_rows c.args.fibres.now c.places_of-places.result.first c.places_of-places.result.end i) c.deref_mut.ensures.value in
    let len = c.set_in_rows.ensures.len ∙ ap length c.deref_mut.ensures.value in
    let whole = with_items_is c.self.inside.lit c.set_in_rows.new.words (c.set_in_rows.ensures.len ∙ c.deref_mut.ensures.len) in
    let is = lighted-is band c.self.inside.fibres c.self.inside.lit.items c.self.inside.held.items
    c.self.inside.holders.items c.self.invariant c.args.fibres.now c.args.units at.some there.fibres there.units
    c.places_of-places.result.first c.places_of-places.result.end at.first_is at.end_is
    c.set_in_rows.new.words len bits in
    subst (λ (v : Kept). Becomes v (record {
      band = band;
      fibres = c.self.inside.fibres;
      words = (with_items c.self.inside.lit c.set_in_rows.new.words).items;
      counts = c.self.inside.holders.items;
    }) (with_lit (taken c.args.fibres.now c.args.units) (rows_in v)).lit (holders_in v)) c.self.view_is
    (subst (λ (ws : List ℕ). Becomes (record {
      band = band;
      fibres = c.self.inside.fibres;
      words = c.self.inside.lit.items;
      counts = c.self.inside.holders.items;
    }) (record { band = band; fibres = c.self.inside.fibres; words = ws; counts = c.self.inside.holders.items })
    (with_lit (taken c.args.fibres.now c.args.units) (rows_in (record {
      band = band;
      fibres = c.self.inside.fibres;
      words = c.self.inside.lit.items;
      counts = c.self.inside.holders.items;
    }))).lit (holders_in (record {
      band = band;
      fibres = c.self.inside.fibres;
      words = c.self.inside.lit.items;
      counts = c.self.inside.holders.items;
    }))) (sym whole) is)
