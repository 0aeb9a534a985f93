use Rattle.std.proofs.Common.{◌≡◌, ◌∙◌, refl, sym, ap, subst, ℕ, ◌<◌, true, List, ◌∷◌, length, arith}
use Rattle.std.specs.Vec.{with_items}
use Rattle.std.specs.Prelude.{nat_lt}
use Rattle.std.proofs.lemmas.List.{with_items_is}
use Rattle.eon_model.specs.Rows.{Reserved, at_each, counts_among, with_held, with_reserved}
use Rattle.eon_model.specs.Sets.{has_member}
use Rattle.spectrum_map.specs.Kept.{Kept, IsKeptThere, holders_in}
use Rattle.spectrum_map.proofs.SpanLaws.{some_units}
use Rattle.backup_sharing.specs.Shared.{Sharers, AreCounted, Becomes, GoTo, map_at, reserved}
use Rattle.backup_sharing.proofs.CountedLaws.{added_counts, kept_there, has_room, counted-added}
use Rattle.backup_sharing.proofs.sharing.Sharing.add.Goals as goal

pub add_to_groups-requires : goal.add_to_groups-requires
add_to_groups-requires c =
    let r = reserved c.args.risk.now c.args.fibres.now c.args.units in
    let band = c.self.inside.band in
    let fibres = c.self.inside.fibres in
    let maps = c.self.inside.maps.items in
    let rs = c.self.inside.added.reserves in
    let same = c.deref_mut.ensures.value in
    let some = some_units c.args.units c.lo.ensures.valid in
    let few = c.self.invariant.few_groups in
    let long = ap length same in
    record {
      few = omega (arith, few, long);
      there = subst (λ (ms : List Kept). (g : ℕ) → g < length ms → IsKeptThere (map_at ms g) r.taken) (sym same)
          (kept_there band fibres maps rs c.self.invariant r c.args.self.now (ap (λ (v : Sharers). v.band) (sym c.self.view_is))
          (ap (λ (v : Sharers). v.fibres) (sym c.self.view_is)) c.requires.there);
      room = subst (λ (ms : List Kept). (g : ℕ) → g < length ms → has_member r.risk g ≡ true →
          at_each (λ fibre u. nat_lt (holders_in (map_at ms g) fibre u) 8192) r.taken ≡ true) (sym same)
          (λ g l hit. has_room band fibres maps rs c.self.invariant r some
          (subst (λ (v : Sharers). length v.reserves < 8192) (sym c.self.view_is) c.requires.room) g l);
    }

pub invariant_of-self : goal.invariant_of-self
invariant_of-self c =
    let r = reserved c.args.risk.now c.args.fibres.now c.args.units in
    let band = c.self.inside.band in
    let fibres = c.self.inside.fibres in
    let maps = c.self.inside.maps.items in
    let rs = c.self.inside.added.reserves in
    let same = c.deref_mut.ensures.value in
    let some = some_units c.args.units c.lo.ensures.valid in
    let new = c.add_to_groups.new.maps in
    let whole = with_items_is c.self.inside.maps new (c.add_to_groups.ensures.len ∙ c.deref_mut.ensures.len) in
    let goes = subst (λ (ms : List Kept). GoTo (length ms) r.risk (with_held r.taken) ms new) same c.add_to_groups.ensures.maps in
    subst (AreCounted band fibres (with_items c.self.inside.maps new).items) (sym c.add.ensures)
    (subst (λ (ms : List Kept). AreCounted band fibres ms (r ∷ rs)) (sym whole)
    (counted-added band fibres maps rs c.self.invariant r new (c.add_to_groups.ensures.len ∙ ap length same) goes
    (subst (λ (v : Sharers). length v.reserves < 8192) (sym c.self.view_is) c.requires.room) some))

pub returns-clause-list : goal.returns-clause-list
returns-clause-list c =
    let r = reserved c.args.risk.now c.args.fibres.now c.args.units in
    let same = c.deref_mut.ensures.value in
    let new = c.add_to_groups.new.maps in
    let whole = with_items_is c.self.inside.maps new (c.add_to_groups.ensures.len ∙ c.deref_mut.ensures.len) in
    subst (λ (v : Sharers). Becomes v (record {
      band = c.self.inside.band;
      fibres = c.self.inside.fibres;
      groups = length (with_items c.self.inside.maps new).items;
      reserves = c.add.new.self.reserves;
    }) (r ∷ v.reserves)) c.self.view_is (record {
      band = refl;
      fibres = refl;
      groups = ap length whole ∙ c.add_to_groups.ensures.len ∙ ap length same;
      reserves_are = c.add.ensures;
    })

pub returns-clause-counts : goal.returns-clause-counts
returns-clause-counts c =
    let r = reserved c.args.risk.now c.args.fibres.now c.args.units in
    let before = c.args.self.now.reserves in
    subst (λ (rs : List Reserved). counts_among rs ≡ with_reserved r (counts_among before))
    (sym (c.add.ensures ∙ ap (λ (v : Sharers). r ∷ v.reserves) c.self.view_is)) (added_counts r before)
