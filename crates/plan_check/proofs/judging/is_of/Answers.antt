use Rattle.std.proofs.Common.{◌∙◌}
use Rattle.std.specs.Cmp.Lexicographic.{texts_ties}
use Rattle.plan_check.proofs.judging.is_of.Goals as goal

pub returns : goal.returns
returns c = c.eq.ensures ∙ texts_ties c.args.earlier.now.name c.args.name.now
