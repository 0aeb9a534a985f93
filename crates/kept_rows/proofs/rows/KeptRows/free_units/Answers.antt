use Rattle.std.proofs.Common.{◌≡◌, ◌∙◌, sym, ap, subst, true, [], ◌∷◌}
use Rattle.std.specs.Prelude.{nat_le}
use Rattle.eon_model.specs.Lists.{IsAmong}
use Rattle.eon_model.specs.Services.{Path, Leg}
use Rattle.eon_model.specs.Occupied.{taken_of, reserved_of}
use Rattle.eon_model.specs.Rows.{Taken, Reserved, at_each, without_held}
use Rattle.eon_model.specs.Turnover.{Turns}
use Rattle.spectrum_map.specs.Kept.{Becomes, holders_in, lit_in, taken}
use Rattle.backup_sharing.specs.Shared.{Becomes as SharersBecome, reserved, without_one}
use Rattle.kept_rows.specs.Standing.{reserve_at}
use Rattle.kept_rows.proofs.HeldLaws.{has_some, is_among, reserves_out}
use Rattle.kept_rows.proofs.rows.KeptRows.free_units.Goals as goal

pub take_held-requires-clause-some : goal.take_held-requires-clause-some
take_held-requires-clause-some c =
    let r = c.args.self.now in
    let x = reserve_at c.args.leg.now c.args.back.now c.args.units in
    let fs = c.fibres-fibres.ensures ∙ ap (λ (p : Path). p.route.fibres) c.back.view_is in
    let t : taken c.fibres-fibres.result.now c.args.units ≡ taken_of x.backup =
    λ i. record { fibres = fs i; units = c.args.units } in
    subst (λ (t : Taken). at_each (λ fibre u. nat_le 1 (holders_in r.maps fibre u)) t ≡ true) (sym t)
    (has_some r x c.requires)

pub take-requires-clause-added : goal.take-requires-clause-added
take-requires-clause-added c =
    let r = c.args.self.now in
    let x = reserve_at c.args.leg.now c.args.back.now c.args.units in
    let fs = c.fibres-fibres.ensures ∙ ap (λ (p : Path). p.route.fibres) c.back.view_is in
    let risk = c.risk.ensures ∙ ap (λ (p : Path). p.route.risk) c.work.view_is
    ∙ ap (λ (l : Leg). l.work.route.risk) c.leg.view_is in
    let y : reserved c.risk.result c.fibres-fibres.result.now c.args.units ≡ reserved_of x =
    λ i. reserved (risk i) (fs i) c.args.units in
    subst (λ (y : Reserved). IsAmong y r.sharing.reserves) (sym y) (is_among r x c.requires)

pub returns : goal.returns
returns c =
    let r = c.args.self.now in
    let x = reserve_at c.args.leg.now c.args.back.now c.args.units in
    let maps = c.take_held.new.self in
    let sharing = c.take.new.self in
    let fs = c.fibres-fibres.ensures ∙ ap (λ (p : Path). p.route.fibres) c.back.view_is in
    let t : taken c.fibres-fibres.result.now c.args.units ≡ taken_of x.backup =
    λ i. record { fibres = fs i; units = c.args.units } in
    let risk = c.risk.ensures ∙ ap (λ (p : Path). p.route.risk) c.work.view_is
    ∙ ap (λ (l : Leg). l.work.route.risk) c.leg.view_is in
    let y : reserved c.risk.result c.fibres-fibres.result.now c.args.units ≡ reserved_of x =
    λ i. reserved (risk i) (fs i) c.args.units in
    record {
      maps = subst (λ (t : Taken). Becomes r.maps maps (lit_in r.maps) (without_held t (holders_in r.maps))) t
          c.take_held.ensures;
      sharing = reserves_out r.sharing sharing (reserved_of x)
          (subst (λ (y : Reserved). SharersBecome r.sharing sharing (without_one y r.sharing.reserves)) y c.take.ensures.list)
          (subst (λ (y : Reserved). Turns r.sharing.reserves sharing.reserves (y ∷ []) []) y c.take.ensures.turns);
    }
