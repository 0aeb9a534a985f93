use Rattle.std.proofs.Common.{sym, ap, ◌∙◌, w16}
use Rattle.std.proofs.lemmas.Int.{to_z-of_z}
use Rattle.eon_model.specs.Events.{Event}
use Rattle.eon_model.specs.Grid.{units_of, moved_to}
use Rattle.eon_model.specs.Services.{Leg}
use Rattle.row_events.proofs.RowEventLaws.{turn-refit, no-refit, may-change, has-changed}
use Rattle.row_events.proofs.moves.refit.Goals as goal

pub move_back-requires : goal.move_back-requires
move_back-requires c =
    may-change (λ name. Event.Refit name c.args.n) c.args.service.now _
    (turn-refit _ c.args.service.now c.service.view_is c.args.n _ (ap (λ (l : Leg). l.back) (sym c.leg.view_is) ∙ c.in-Some.is) _
    (c.around.ensures.units
    ∙ (λ i. units_of (moved_to (c.path.view_is i).slot (to_z-of_z w16 c.args.n c.ranges.n i))))) c.args.rows.now c.requires

pub returns-in-Some : goal.returns-in-Some
returns-in-Some c =
    has-changed (λ name. Event.Refit name c.args.n) c.args.service.now _
    (turn-refit _ c.args.service.now c.service.view_is c.args.n _ (ap (λ (l : Leg). l.back) (sym c.leg.view_is) ∙ c.in-Some.is) _
    (c.around.ensures.units
    ∙ (λ i. units_of (moved_to (c.path.view_is i).slot (to_z-of_z w16 c.args.n c.ranges.n i))))) c.args.rows.now c.move_back.new.self
    c.move_back.ensures

pub returns-in_default : goal.returns-in_default
returns-in_default c =
    no-refit _ c.args.service.now c.service.view_is c.args.n (ap (λ (l : Leg). l.back) (sym c.leg.view_is) ∙ c.in_default.is) c.args.rows.now c.args.rows.now
