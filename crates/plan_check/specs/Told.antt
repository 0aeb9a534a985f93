-- What is told of a plan, in the words of the planner's definitions.
use Rattle.eon_model.specs.PlanCheck as model
use Rattle.plan_check.specs.declared.bad.Bad.{Bad}
use Rattle.plan_check.specs.declared.bad.Bad.TheVariants as bad
use Rattle.plan_check.specs.declared.bad.BadMove.{BadMove}

abbrev pub bad_told : Bad → model.Bad
bad_told bad.Unknown = model.Unknown
bad_told bad.Twice = model.Twice
bad_told bad.From = model.From
bad_told bad.Same = model.Same
bad_told bad.Band = model.Band
bad_told (bad.Clash other) = model.Clash other

abbrev pub bad_move_told : BadMove → model.BadMove
bad_move_told b = record { number = b.at; name = b.name; bad = bad_told b.bad }
