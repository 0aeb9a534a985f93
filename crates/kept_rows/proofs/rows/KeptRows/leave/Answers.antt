use Rattle.std.proofs.Common.{sym, subst}
use Rattle.eon_model.specs.Listings.{lit_by}
use Rattle.eon_model.specs.Occupied.{reserves_by}
use Rattle.kept_rows.specs.Standing.{CanGoFree, IsFreeBy, of_class}
use Rattle.kept_rows.proofs.HeldLaws.{reserves_by_is}
use Rattle.kept_rows.proofs.TurnLaws.{with_maps, can_go_free, has_gone}
use Rattle.kept_rows.proofs.rows.KeptRows.leave.Goals as goal

pub darken-requires : goal.darken-requires
darken-requires c = c.requires.lit_out

pub free-requires : goal.free-requires
free-requires c =
    let l = of_class c.args.class c.args.leg.now in
    let m = c.darken.new.maps in
    subst (CanGoFree (with_maps m c.args.self.now)) (reserves_by_is c.args.class c.args.leg.now)
    (can_go_free c.args.self.now (lit_by l) (reserves_by l) c.requires m c.darken.ensures)

pub returns : goal.returns
returns c =
    let l = of_class c.args.class c.args.leg.now in
    let m = c.darken.new.maps in
    let after = c.free.new.self in
    has_gone c.args.self.now (lit_by l) (reserves_by l) c.requires m after c.darken.ensures
    (subst (IsFreeBy (with_maps m c.args.self.now) after) (sym (reserves_by_is c.args.class c.args.leg.now)) c.free.ensures)
