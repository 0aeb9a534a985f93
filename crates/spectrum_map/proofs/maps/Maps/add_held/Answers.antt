use Rattle.std.proofs.Common.{◌≡◌, ◌∙◌, sym, ap, subst, ℕ, ◌+◌, ◌<◌, true, cond, List, length, get_or, arith}
use Rattle.std.specs.Prelude.{nat_lt}
use Rattle.std.proofs.lemmas.Bool.{ltb-true}
use Rattle.std.proofs.lemmas.List.{with_items_is}
use Rattle.std.specs.Vec.{with_items}
use Rattle.eon_model.specs.Rows.{with_held, at_each}
use Rattle.spectrum_map.specs.Bits.{is_on_rows, AreHeld}
use Rattle.spectrum_map.specs.Kept.{Kept, AreRows, Becomes, IsKeptThere, lit_in, holders_in, taken}
use Rattle.spectrum_map.proofs.KeptLaws.{rows_there, at_places, changed-rows, held-is}
use Rattle.spectrum_map.proofs.maps.Maps.add_held.Goals as goal

pub places_of-places-requires : goal.places_of-places-requires
places_of-places-requires c =
    (subst (λ (v : Kept). IsKeptThere v (taken c.args.fibres.now c.args.units)) (sym c.self.view_is)
    c.requires.there).units

pub hold_in_rows-requires : goal.hold_in_rows-requires
hold_in_rows-requires c =
    let band = c.self.inside.band in
    let there = subst (λ (v : Kept). IsKeptThere v (taken c.args.fibres.now c.args.units)) (sym c.self.view_is)
    c.requires.there in
    let at = c.places_of-places.ensures in
    let tested = at_places band c.self.inside.fibres c.self.inside.lit.items c.self.inside.held.items
    c.self.inside.holders.items c.self.invariant c.args.fibres.now c.args.units at.some there.fibres there.units
    c.places_of-places.result.first c.places_of-places.result.end at.first_is at.end_is
    (λ n. nat_lt n 8192) (subst (λ (v : Kept). at_each (λ g u. nat_lt (holders_in v g u) 8192) (taken c.args.fibres.now c.args.units) ≡ true)
    (sym c.self.view_is) c.requires.room) in
    let words = ap length c.deref_mut-2.ensures.value ∙ c.self.invariant.held_count in
    let count = ap length c.deref_mut.ensures.value ∙ c.self.invariant.counts_count in
    record {
      few = omega (arith, words, c.self.invariant.few);
      words = omega (arith, words, count);
      order = at.order;
      within = at.few;
      rows = rows_there c.self.inside.fibres (length c.deref_mut-2.result.now) c.args.fibres.now words there.fibres;
      once = there.once;
      room = λ i h. let l = ltb-true (get_or c.self.inside.holders.items i 0) 8192 (tested i h) in
          subst (λ (ws : List ℕ). get_or ws i 0 < 65535) (sym c.deref_mut.ensures.value) (omega (arith, l));
      held = subst (λ (ws : List ℕ). AreHeld ws c.deref_mut.result.now) (sym c.deref_mut-2.ensures.value)
          (subst (λ (ws : List ℕ). AreHeld c.self.inside.held.items ws) (sym c.deref_mut.ensures.value)
          c.self.invariant.held_is);
    }

pub invariant_of-self : goal.invariant_of-self
invariant_of-self c =
    let band = c.self.inside.band in
    let there = subst (λ (v : Kept). IsKeptThere v (taken c.args.fibres.now c.args.units)) (sym c.self.view_is)
    c.requires.there in
    let at = c.places_of-places.ensures in
    let tested = at_places band c.self.inside.fibres c.self.inside.lit.items c.self.inside.held.items
    c.self.inside.holders.items c.self.invariant c.args.fibres.now c.args.units at.some there.fibres there.units
    c.places_of-places.result.first c.places_of-places.result.end at.first_is at.end_is
    (λ n. nat_lt n 8192) (subst (λ (v : Kept). at_each (λ g u. nat_lt (holders_in v g u) 8192) (taken c.args.fibres.now c.args.units) ≡ true)
    (sym c.self.view_is) c.requires.room) in
    let bits : (i : ℕ) → get_or c.hold_in_rows.new.counts i 0
    ≡ cond (is_on_rows c.args.fibres.now c.places_of-places.result.first c.places_of-places.result.end i)
    (get_or c.self.inside.holders.items i 0 + 1) (get_or c.self.inside.holders.items i 0) =
    λ i. c.hold_in_rows.ensures.counts i
    ∙ ap (λ (ws : List ℕ). cond (is_on_rows c.args.fibres.now c.places_of-places.result.first c.places_of-places.result.end i)
    (get_or ws i 0 + 1) (get_or ws i 0)) c.deref_mut.ensures.value in
    let whole = with_items_is c.self.inside.holders c.hold_in_rows.new.counts
    (c.hold_in_rows.ensures.len ∙ c.deref_mut.ensures.len) in
    let words = with_items_is c.self.inside.held c.hold_in_rows.new.held
    (c.hold_in_rows.ensures.words ∙ c.deref_mut-2.ensures.len) in
    subst (λ (ws : List ℕ). AreRows band c.self.inside.fibres c.self.inside.lit.items ws
    (with_items c.self.inside.holders c.hold_in_rows.new.counts).items) (sym words)
    (subst (λ (ws : List ℕ). AreRows band c.self.inside.fibres c.self.inside.lit.items c.hold_in_rows.new.held ws)
    (sym whole) (changed-rows band c.self.inside.fibres c.self.inside.lit.items c.self.inside.held.items
    c.self.inside.holders.items c.self.invariant c.args.fibres.now c.args.units at.some there.fibres there.units
    c.places_of-places.result.first c.places_of-places.result.end at.first_is at.end_is
    (λ n. n + 1) c.hold_in_rows.new.counts bits c.hold_in_rows.new.held
    (c.hold_in_rows.ensures.words ∙ ap length c.deref_mut-2.ensures.value)
    (c.hold_in_rows.ensures.len ∙ ap length c.deref_mut.ensures.value) c.hold_in_rows.ensures.held
    (λ i h. let l = ltb-true (get_or c.self.inside.holders.items i 0) 8192 (tested i h) in omega (arith, l))))

pub returns : goal.returns
returns c =
    let band = c.self.inside.band in
    let there = subst (λ (v : Kept). IsKeptThere v (taken c.args.fibres.now c.args.units)) (sym c.self.view_is)
    c.requires.there in
    let at = c.places_of-places.ensures in
    let bits : (i : ℕ) → get_or c.hold_in_rows.new.counts i 0
    ≡ cond (is_on_rows c.args.fibres.now c.places_of-places.result.first c.places_of-places.result.end i)
    (get_or c.self.inside.holders.items i 0 + 1) (get_or c.self.inside.holders.items i 0) =
    λ i. c.hold_in_rows.ensures.counts i
    ∙ ap (λ (ws : List ℕ). cond (is_on_rows c.args.fibres.now c.places_of-places.result.first c.places_of-places.result.end i)
    (get_or ws i 0 + 1) (get_or ws i 0)) c.deref_mut.ensures.value in
    let whole = with_items_is c.self.inside.holders c.hold_in_rows.new.counts
    (c.hold_in_rows.ensures.len ∙ c.deref_mut.ensures.len) in
    let is = held-is band c.self.inside.fibres c.self.inside.lit.items c.self.inside.held.items
    c.self.inside.holders.items c.self.invariant c.args.fibres.now c.args.units at.some there.fibres there.units
    c.places_of-places.result.first c.places_of-places.result.end at.first_is at.end_is
    c.hold_in_rows.new.counts bits in
    subst (λ (v : Kept). Becomes v (record {
      band = band;
      fibres = c.self.inside.fibres;
      words = c.self.inside.lit.items;
      counts = (with_items c.self.inside.holders c.hold_in_rows.new.counts).items;
    }) (lit_in v) (with_held (taken c.args.fibres.now c.args.units) (holders_in v))) c.self.view_is
    (subst (λ (ws : List ℕ). Becomes (record {
      band = band;
      fibres = c.self.inside.fibres;
      words = c.self.inside.lit.items;
      counts = c.self.inside.holders.items;
    }) (record { band = band; fibres = c.self.inside.fibres; words = c.self.inside.lit.items; counts = ws })
    (lit_in (record {
      band = band;
      fibres = c.self.inside.fibres;
      words = c.self.inside.lit.items;
      counts = c.self.inside.holders.items;
    })) (with_held (taken c.args.fibres.now c.args.units) (holders_in (record {
      band = band;
      fibres = c.self.inside.fibres;
      words = c.self.inside.lit.items;
      counts = c.self.inside.holders.items;
    })))) (sym whole) is)
