use Rattle.eon_model.specs.Commands.{Command}
use Rattle.make_rule.specs.Told.{make_told}
use Rattle.plan_core.proofs.MadeLaws.{found-listed, outcome-in_range}
use Rattle.plan_core.proofs.moves.second_leg.Goals as goal

pub make-requires-clause-listed : goal.make-requires-clause-listed
make-requires-clause-listed c =
    found-listed c.args.setup.now c.args.services.now.list c.args.name.now c.requires.in_range c.requires.named c.requires.legal

pub made-requires : goal.made-requires
made-requires c =
    outcome-in_range c.args.setup.now c.args.services.now.list (Command.Make c.args.name.now c.args.avoid.now)
    (make_told c.args.name.now c.in_ok-decided.decided) c.requires.in_range c.requires.legal c.requires.right
    c.in_ok-decided.ensures.is
