use Rattle.std.proofs.Common.{◌≡◌, ◌∙◌, refl, sym, ap, subst, ℕ, ◌<◌, true, List, ◌∷◌, [], length, arith}
use Rattle.std.specs.Vec.{with_items}
use Rattle.std.specs.Prelude.{nat_le}
use Rattle.std.proofs.lemmas.List.{with_items_is}
use Rattle.eon_model.specs.Lists.{IsAmong}
use Rattle.eon_model.specs.Rows.{Reserved, at_each, counts_among, without_held, without_reserved}
use Rattle.eon_model.specs.Sets.{has_member}
use Rattle.eon_model.specs.Turnover.{Turns}
use Rattle.spectrum_map.specs.Kept.{Kept, IsKeptThere, holders_in}
use Rattle.spectrum_map.proofs.SpanLaws.{some_units}
use Rattle.backup_sharing.specs.Shared.{Sharers, AreCounted, Becomes, GoTo, map_at, reserved, without_one}
use Rattle.backup_sharing.proofs.SameLaws.{turns_out}
use Rattle.backup_sharing.proofs.CountedLaws.{taken_counts, kept_there, has_some, counted-taken}
use Rattle.backup_sharing.proofs.sharing.Sharing.take.Goals as goal

pub take_from_groups-requires : goal.take_from_groups-requires
take_from_groups-requires c =
    let r = reserved c.args.risk.now c.args.fibres.now c.args.units in
    let band = c.self.inside.band in
    let fibres = c.self.inside.fibres in
    let maps = c.self.inside.maps.items in
    let rs = c.self.inside.added.reserves in
    let same = c.deref_mut.ensures.value in
    let some = some_units c.args.units c.lo.ensures.valid in
    let few = c.self.invariant.few_groups in
    let long = ap length same in
    record {
      few = omega (arith, few, long);
      there = subst (λ (ms : List Kept). (g : ℕ) → g < length ms → IsKeptThere (map_at ms g) r.taken) (sym same)
          (kept_there band fibres maps rs c.self.invariant r c.args.self.now (ap (λ (v : Sharers). v.band) (sym c.self.view_is))
          (ap (λ (v : Sharers). v.fibres) (sym c.self.view_is)) c.requires.there);
      some = subst (λ (ms : List Kept). (g : ℕ) → g < length ms → has_member r.risk g ≡ true →
          at_each (λ fibre u. nat_le 1 (holders_in (map_at ms g) fibre u)) r.taken ≡ true) (sym same)
          (has_some band fibres maps rs c.self.invariant r some
          (subst (λ (v : Sharers). IsAmong r v.reserves) (sym c.self.view_is) c.requires.added));
    }

pub invariant_of-self : goal.invariant_of-self
invariant_of-self c =
    let r = reserved c.args.risk.now c.args.fibres.now c.args.units in
    let band = c.self.inside.band in
    let fibres = c.self.inside.fibres in
    let maps = c.self.inside.maps.items in
    let rs = c.self.inside.added.reserves in
    let same = c.deref_mut.ensures.value in
    let some = some_units c.args.units c.lo.ensures.valid in
    let new = c.take_from_groups.new.maps in
    let whole = with_items_is c.self.inside.maps new (c.take_from_groups.ensures.len ∙ c.deref_mut.ensures.len) in
    let goes = subst (λ (ms : List Kept). GoTo (length ms) r.risk (without_held r.taken) ms new) same c.take_from_groups.ensures.maps in
    subst (AreCounted band fibres (with_items c.self.inside.maps new).items) (sym c.take.ensures)
    (subst (λ (ms : List Kept). AreCounted band fibres ms (without_one r rs)) (sym whole)
    (counted-taken band fibres maps rs c.self.invariant r new (c.take_from_groups.ensures.len ∙ ap length same) goes
    (subst (λ (v : Sharers). IsAmong r v.reserves) (sym c.self.view_is) c.requires.added)))

pub returns-clause-list : goal.returns-clause-list
returns-clause-list c =
    let r = reserved c.args.risk.now c.args.fibres.now c.args.units in
    let same = c.deref_mut.ensures.value in
    let new = c.take_from_groups.new.maps in
    let whole = with_items_is c.self.inside.maps new (c.take_from_groups.ensures.len ∙ c.deref_mut.ensures.len) in
    subst (λ (v : Sharers). Becomes v (record {
      band = c.self.inside.band;
      fibres = c.self.inside.fibres;
      groups = length (with_items c.self.inside.maps new).items;
      reserves = c.take.new.self.reserves;
    }) (without_one r v.reserves)) c.self.view_is (record {
      band = refl;
      fibres = refl;
      groups = ap length whole ∙ c.take_from_groups.ensures.len ∙ ap length same;
      reserves_are = c.take.ensures;
    })

pub returns-clause-turns : goal.returns-clause-turns
returns-clause-turns c =
    let r = reserved c.args.risk.now c.args.fibres.now c.args.units in
    subst (λ (rs : List Reserved). Turns c.args.self.now.reserves rs (r ∷ []) [])
    (sym (c.take.ensures ∙ ap (λ (v : Sharers). without_one r v.reserves) c.self.view_is))
    (turns_out r c.args.self.now.reserves c.requires.added)

pub returns-clause-counts : goal.returns-clause-counts
returns-clause-counts c =
    let r = reserved c.args.risk.now c.args.fibres.now c.args.units in
    let before = c.args.self.now.reserves in
    subst (λ (rs : List Reserved). counts_among rs ≡ without_reserved r (counts_among before))
    (sym (c.take.ensures ∙ ap (λ (v : Sharers). without_one r v.reserves) c.self.view_is))
    (taken_counts r before c.requires.added)
