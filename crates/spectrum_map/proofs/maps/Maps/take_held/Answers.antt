use Rattle.std.proofs.Common.{◌≡◌, ◌∙◌, sym, ap, subst, ℕ, ◌-◌, ◌≤◌, true, cond, List, length, get_or, arith}
use Rattle.std.specs.Prelude.{nat_le}
use Rattle.std.proofs.lemmas.Bool.{leb-true}
use Rattle.std.proofs.lemmas.List.{with_items_is}
use Rattle.std.specs.Vec.{with_items}
use Rattle.eon_model.specs.Rows.{without_held, at_each}
use Rattle.spectrum_map.specs.Bits.{is_on_rows, AreHeld}
use Rattle.spectrum_map.specs.Kept.{Kept, AreRows, Becomes, IsKeptThere, lit_in, holders_in, taken}
use Rattle.spectrum_map.proofs.KeptLaws.{rows_there, at_places, changed-rows, let_go-is}
use Rattle.spectrum_map.proofs.maps.Maps.take_held.Goals as goal

pub places_of-places-requires : goal.places_of-places-requires
places_of-places-requires c =
    (subst (λ (v : Kept). IsKeptThere v (taken c.args.fibres.now c.args.units)) (sym c.self.view_is)
    c.requires.there).units

pub let_go_in_rows-requires : goal.let_go_in_rows-requires
let_go_in_rows-requires c =
    let band = c.self.inside.band in
    let there = subst (λ (v : Kept). IsKeptThere v (taken c.args.fibres.now c.args.units)) (sym c.self.view_is)
    c.requires.there in
    let at = c.places_of-places.ensures in
    let tested = at_places band c.self.inside.fibres c.self.inside.lit.items c.self.inside.held.items
    c.self.inside.holders.items c.self.invariant c.args.fibres.now c.args.units at.some there.fibres there.units
    c.places_of-places.result.first c.places_of-places.result.end at.first_is at.end_is
    (λ n. nat_le 1 n) (subst (λ (v : Kept). at_each (λ g u. nat_le 1 (holders_in v g u)) (taken c.args.fibres.now c.args.units) ≡ true)
    (sym c.self.view_is) c.requires.some) in
    let words = ap length c.deref_mut-2.ensures.value ∙ c.self.invariant.held_count in
    let count = ap length c.deref_mut.ensures.value ∙ c.self.invariant.counts_count in
    record {
      few = omega (arith, words, c.self.invariant.few);
      words = omega (arith, words, count);
      order = at.order;
      within = at.few;
      rows = rows_there c.self.inside.fibres (length c.deref_mut-2.result.now) c.args.fibres.now words there.fibres;
      once = there.once;
      some = λ i h. subst (λ (ws : List ℕ). 1 ≤ get_or ws i 0) (sym c.deref_mut.ensures.value)
          (leb-true 1 (get_or c.self.inside.holders.items i 0) (tested i h));
      held = subst (λ (ws : List ℕ). AreHeld ws c.deref_mut.result.now) (sym c.deref_mut-2.ensures.value)
          (subst (λ (ws : List ℕ). AreHeld c.self.inside.held.items ws) (sym c.deref_mut.ensures.value)
          c.self.invariant.held_is);
    }

pub invariant_of-self : goal.invariant_of-self
invariant_of-self c =
    let band = c.self.inside.band in
    let there = subst (λ (v : Kept). IsKeptThere v (taken c.args.fibres.now c.args.units)) (sym c.self.view_is)
    c.requires.there in
    let at = c.places_of-places.ensures in
    let tested = at_places band c.self.inside.fibres c.self.inside.lit.items c.self.inside.held.items
    c.self.inside.holders.items c.self.invariant c.args.fibres.now c.args.units at.some there.fibres there.units
    c.places_of-places.result.first c.places_of-places.result.end at.first_is at.end_is
    (λ n. nat_le 1 n) (subst (λ (v : Kept). at_each (λ g u. nat_le 1 (holders_in v g u)) (taken c.args.fibres.now c.args.units) ≡ true)
    (sym c.self.view_is) c.requires.some) in
    let bits : (i : ℕ) → get_or c.let_go_in_rows.new.counts i 0
    ≡ cond (is_on_rows c.args.fibres.now c.places_of-places.result.first c.places_of-places.result.end i)
    (get_or c.self.inside.holders.items i 0 - 1) (get_or c.self.inside.holders.items i 0) =
    λ i. c.let_go_in_rows.ensures.counts i
    ∙ ap (λ (ws : List ℕ). cond (is_on_rows c.args.fibres.now c.places_of-places.result.first c.places_of-places.result.end i)
    (get_or ws i 0 - 1) (get_or ws i 0)) c.deref_mut.ensures.value in
    let whole = with_items_is c.self.inside.holders c.let_go_in_rows.new.counts
    (c.let_go_in_rows.ensures.len ∙ c.deref_mut.ensures.len) in
    let words = with_items_is c.self.inside.held c.let_go_in_rows.new.held
    (c.let_go_in_rows.ensures.words ∙ c.deref_mut-2.ensures.len) in
    subst (λ (ws : List ℕ). AreRows band c.self.inside.fibres c.self.inside.lit.items ws
    (with_items c.self.inside.holders c.let_go_in_rows.new.counts).items) (sym words)
    (subst (λ (ws : List ℕ). AreRows band c.self.inside.fibres c.self.inside.lit.items c.let_go_in_rows.new.held ws)
    (sym whole) (changed-rows band c.self.inside.fibres c.self.inside.lit.items c.self.inside.held.items
    c.self.inside.holders.items c.self.invariant c.args.fibres.now c.args.units at.some there.fibres there.units
    c.places_of-places.result.first c.places_of-places.result.end at.first_is at.end_is
    (λ n. n - 1) c.let_go_in_rows.new.counts bits c.let_go_in_rows.new.held
    (c.let_go_in_rows.ensures.words ∙ ap length c.deref_mut-2.ensures.value)
    (c.let_go_in_rows.ensures.len ∙ ap length c.deref_mut.ensures.value) c.let_go_in_rows.ensures.held
    (λ i h. let l = c.self.invariant.few_held i in omega (arith, l))))

pub returns : goal.returns
returns c =
    let band = c.self.inside.band in
    let there = subst (λ (v : Kept). IsKeptThere v (taken c.args.fibres.now c.args.units)) (sym c.self.view_is)
    c.requires.there in
    let at = c.places_of-places.ensures in
    let bits : (i : ℕ) → get_or c.let_go_in_rows.new.counts i 0
    ≡ cond (is_on_rows c.args.fibres.now c.places_of-places.result.first c.places_of-places.result.end i)
    (get_or c.self.inside.holders.items i 0 - 1) (get_or c.self.inside.holders.items i 0) =
    λ i. c.let_go_in_rows.ensures.counts i
    ∙ ap (λ (ws : List ℕ). cond (is_on_rows c.args.fibres.now c.places_of-places.result.first c.places_of-places.result.end i)
    (get_or ws i 0 - 1) (get_or ws i 0)) c.deref_mut.ensures.value in
    let whole = with_items_is c.self.inside.holders c.let_go_in_rows.new.counts
    (c.let_go_in_rows.ensures.len ∙ c.deref_mut.ensures.len) in
    let is = let_go-is band c.self.inside.fibres c.self.inside.lit.items c.self.inside.held.items
    c.self.inside.holders.items c.self.invariant c.args.fibres.now c.args.units at.some there.fibres there.units
    c.places_of-places.result.first c.places_of-places.result.end at.first_is at.end_is
    c.let_go_in_rows.new.counts bits in
    subst (λ (v : Kept). Becomes v (record {
      band = band;
      fibres = c.self.inside.fibres;
      words = c.self.inside.lit.items;
      counts = (with_items c.self.inside.holders c.let_go_in_rows.new.counts).items;
    }) (lit_in v) (without_held (taken c.args.fibres.now c.args.units) (holders_in v))) c.self.view_is
    (subst (λ (ws : List ℕ). Becomes (record {
      band = band;
      fibres = c.self.inside.fibres;
      words = c.self.inside.lit.items;
      counts = c.self.inside.holders.items;
    }) (record { band = band; fibres = c.self.inside.fibres; words = c.self.inside.lit.items; counts = ws })
    (lit_in (record {
      band = band;
      fibres = c.self.inside.fibres;
      words = c.self.inside.lit.items;
      counts = c.self.inside.holders.items;
    })) (without_held (taken c.args.fibres.now c.args.units) (holders_in (record {
      band = band;
      fibres = c.self.inside.fibres;
      words = c.self.inside.lit.items;
      counts = c.self.inside.holders.items;
    })))) (sym whole) is)
