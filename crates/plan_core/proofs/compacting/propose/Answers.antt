use Rattle.std.proofs.Common.{◌∙◌, sym}
use Rattle.command_text.specs.Told.{told}
use Rattle.plan_core.proofs.CompactSteps.{compact-proposed, other-proposed}
use Rattle.plan_core.proofs.compacting.propose.Goals as goal

pub returns-then-is_compact-clause-proposed : goal.returns-then-is_compact-clause-proposed
returns-then-is_compact-clause-proposed c =
    compact-proposed c.args.setup.now c.args.services.now.list (told c.args.command.now) c.in_ok-reply.reply c.say.result
    (sym c.is_compact.ensures ∙ c.if-is_compact.true) c.in_ok-reply.ensures c.say.ensures.decision c.say.ensures.prepared

pub returns-clause-proposed : goal.returns-clause-proposed
returns-clause-proposed c =
    other-proposed c.args.setup.now c.args.services.now.list (told c.args.command.now) c.proposal_for.result c.requires.setup
    c.requires.in_range c.requires.legal (sym c.is_compact.ensures ∙ c.if-is_compact.false) c.proposal_for.ensures.is
    c.proposal_for.ensures.prepared
