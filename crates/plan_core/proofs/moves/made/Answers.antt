use Rattle.plan_core.proofs.MadeLaws.{started-in_range}
use Rattle.plan_core.proofs.moves.made.Goals as goal

pub make-requires : goal.make-requires
make-requires c =
    started-in_range c.args.name.now c.args.decided c.in-Started.class c.in-Started.leg c.in-Started.is c.requires
