use Rattle.std.proofs.Common.{◌≡◌, ◌∙◌, sym, ap, subst, [], ◌∷◌, map, Option, Some, None}
use Rattle.std.specs.Option.{option_to_list}
use Rattle.eon_model.specs.Grid.{Units, units_of}
use Rattle.eon_model.specs.Services.{Path, Leg}
use Rattle.kept_rows.specs.Standing.{CanBeHeld, IsFreeBy, HasTurned, MayTurn, reserve_at, reserves_on}
use Rattle.kept_rows.proofs.HeldLaws.{turned_none}
use Rattle.kept_rows.proofs.TurnLaws.{can_be_held_there}
use Rattle.kept_rows.proofs.rows.KeptRows.move_back.Goals as goal

pub hold_units-requires : goal.hold_units-requires
hold_units-requires c =
    let r = c.args.self.now in
    let l = c.args.leg.now in
    let b = c.in-Some.back in
    let mid = c.free_units.new.self in
    let back : l.back ≡ Some b = ap (λ (l : Leg). l.back) (sym c.leg.view_is) ∙ c.in-Some.is in
    let may = subst (λ (o : Option Path). MayTurn r (record {
      lit_out = [];
      lit_in = [];
      held_out = reserves_on l o;
      held_in = map (λ p. reserve_at l p c.args.units.now) (option_to_list o);
    })) back c.requires in
    let us = c.units.ensures.value ∙ ap (λ (p : Path). units_of p.slot) c.back.view_is in
    let free = subst (λ (u : Units). IsFreeBy r mid (reserve_at l b u ∷ [])) us c.free_units.ensures in
    subst (λ (u : Units). CanBeHeld mid (reserve_at l b u ∷ [])) (sym c.units_in.ensures)
    (can_be_held_there r mid (reserve_at l b (units_of b.slot)) (reserve_at l b c.args.units.now) may free)

pub returns-in_default : goal.returns-in_default
returns-in_default c =
    let r = c.args.self.now in
    let l = c.args.leg.now in
    let none : l.back ≡ None = ap (λ (l : Leg). l.back) (sym c.leg.view_is) ∙ c.in_default.is in
    subst (λ (o : Option Path). HasTurned r r (record {
      lit_out = [];
      lit_in = [];
      held_out = reserves_on l o;
      held_in = map (λ p. reserve_at l p c.args.units.now) (option_to_list o);
    })) (sym none) (turned_none r)
