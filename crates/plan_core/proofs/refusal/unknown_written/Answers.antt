use Rattle.std.proofs.Common.{◌∙◌, sym}
use Rattle.plan_core.proofs.NameSteps.{written_here, written_back}
use Rattle.plan_core.proofs.refusal.unknown_written.Goals as goal

pub returns-in-Some : goal.returns-in-Some
returns-in-Some c = written_here c.args.net.now c.args.work.now c.args.back.now c.in-Some.name (sym c.unknown_fibre.ensures ∙ c.in-Some.is)

pub returns-in-Some-back : goal.returns-in-Some-back
returns-in-Some-back c = written_back c.args.net.now c.args.work.now c.args.back.now c.in-Some-back.words
    c.unknown_fibre-in-Some-back.result c.in-Some-back.is (sym c.unknown_fibre.ensures ∙ c.in_default.is)
    c.unknown_fibre-in-Some-back.ensures
