use Rattle.std.proofs.Common.{◌≡◌, ◌∙◌, sym, ap, subst, true, ◌∷◌}
use Rattle.std.specs.Prelude.{nat_lt}
use Rattle.eon_model.specs.Services.{Path, Leg}
use Rattle.eon_model.specs.Occupied.{taken_of, reserved_of}
use Rattle.eon_model.specs.Rows.{Taken, Reserved, at_each, with_held}
use Rattle.spectrum_map.specs.Kept.{Becomes, holders_in, lit_in, taken}
use Rattle.backup_sharing.specs.Shared.{Becomes as SharersBecome, reserved}
use Rattle.kept_rows.specs.Standing.{reserve_at}
use Rattle.kept_rows.proofs.HeldLaws.{has_room, reserves_in}
use Rattle.kept_rows.proofs.rows.KeptRows.hold_units.Goals as goal

pub add_held-requires-clause-room : goal.add_held-requires-clause-room
add_held-requires-clause-room c =
    let r = c.args.self.now in
    let x = reserve_at c.args.leg.now c.args.back.now c.args.units in
    let fs = c.fibres-fibres.ensures ∙ ap (λ (p : Path). p.route.fibres) c.back.view_is in
    let t : taken c.fibres-fibres.result.now c.args.units ≡ taken_of x.backup =
    λ i. record { fibres = fs i; units = c.args.units } in
    subst (λ (t : Taken). at_each (λ fibre u. nat_lt (holders_in r.maps fibre u) 8192) t ≡ true) (sym t)
    (has_room r x c.requires)

pub returns : goal.returns
returns c =
    let r = c.args.self.now in
    let x = reserve_at c.args.leg.now c.args.back.now c.args.units in
    let maps = c.add_held.new.self in
    let sharing = c.add.new.self in
    let fs = c.fibres-fibres.ensures ∙ ap (λ (p : Path). p.route.fibres) c.back.view_is in
    let t : taken c.fibres-fibres.result.now c.args.units ≡ taken_of x.backup =
    λ i. record { fibres = fs i; units = c.args.units } in
    let risk = c.risk.ensures ∙ ap (λ (p : Path). p.route.risk) c.work.view_is
    ∙ ap (λ (l : Leg). l.work.route.risk) c.leg.view_is in
    let y : reserved c.risk.result c.fibres-fibres.result.now c.args.units ≡ reserved_of x =
    λ i. reserved (risk i) (fs i) c.args.units in
    record {
      maps = subst (λ (t : Taken). Becomes r.maps maps (lit_in r.maps) (with_held t (holders_in r.maps))) t
          c.add_held.ensures;
      sharing = reserves_in r.sharing sharing (reserved_of x)
          (subst (λ (y : Reserved). SharersBecome r.sharing sharing (y ∷ r.sharing.reserves)) y c.add.ensures.list);
    }
