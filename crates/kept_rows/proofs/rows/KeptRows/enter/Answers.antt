use Rattle.std.proofs.Common.{sym, subst}
use Rattle.eon_model.specs.Listings.{lit_by}
use Rattle.eon_model.specs.Occupied.{reserves_by}
use Rattle.kept_rows.specs.Standing.{CanBeHeld, IsHeldBy, of_class}
use Rattle.kept_rows.proofs.HeldLaws.{reserves_by_is}
use Rattle.kept_rows.proofs.TurnLaws.{with_maps, can_be_lit, can_be_held, has_come}
use Rattle.kept_rows.proofs.rows.KeptRows.enter.Goals as goal

pub light-requires : goal.light-requires
light-requires c =
    let l = of_class c.args.class c.args.leg.now in
    can_be_lit c.args.self.now (lit_by l) (reserves_by l) c.requires

pub hold-requires : goal.hold-requires
hold-requires c =
    let l = of_class c.args.class c.args.leg.now in
    let m = c.light.new.maps in
    subst (CanBeHeld (with_maps m c.args.self.now)) (reserves_by_is c.args.class c.args.leg.now)
    (can_be_held c.args.self.now (lit_by l) (reserves_by l) c.requires m c.light.ensures)

pub returns : goal.returns
returns c =
    let l = of_class c.args.class c.args.leg.now in
    let m = c.light.new.maps in
    let after = c.hold.new.self in
    has_come c.args.self.now (lit_by l) (reserves_by l) c.requires m after c.light.ensures
    (subst (IsHeldBy (with_maps m c.args.self.now) after) (sym (reserves_by_is c.args.class c.args.leg.now)) c.hold.ensures)
