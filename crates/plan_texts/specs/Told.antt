-- Moves and plans of the code as those of the planner's definitions.
use Rattle.std.specs.Prelude.{◌≡◌, ⊤, ℕ, List, map}
use Rattle.eon_model.specs.Plan as model
use Rattle.eon_model.specs.PlanReadings.{PlanFault, plan_reading}
use Rattle.plan_texts.specs.declared.moves.Rest.{Rest}
use Rattle.plan_texts.specs.declared.moves.Rest.TheVariants as rest
use Rattle.plan_texts.specs.declared.moves.Move.{Move}
use Rattle.plan_texts.specs.declared.plan.Plan.{Plan}
use Rattle.plan_texts.specs.declared.plan.PlanRefusal.{PlanRefusal}
use Rattle.plan_texts.specs.declared.plan.PlanRefusal.TheVariants as refusal

abbrev pub rest_told : Rest → model.Rest
rest_told rest.Floor = model.Floor
rest_told (rest.On name) = model.On name
rest_told (rest.Over name) = model.Over name

abbrev pub move_told : Move → model.Move
move_told m = record {
  batch = m.batch;
  name = m.name;
  from = m.from;
  to = m.to;
  rest = rest_told m.rest;
  after = m.after;
}

abbrev pub moves_told : List Move → List model.Move
moves_told moves = map move_told moves

abbrev pub plan_told : Plan → model.Plan
plan_told p = record { batches = p.batches; moves = moves_told p.moves.items }

-- want of memory, or the first line that is wrong
abbrev pub IsRefusalOf : List ℕ → PlanRefusal → Type 0
IsRefusalOf bytes refusal.Memory = ⊤
IsRefusalOf bytes (refusal.Form line) = plan_reading bytes ≡ PlanFault line
