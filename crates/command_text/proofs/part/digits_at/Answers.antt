use Rattle.std.proofs.Common.{sym, ◌∙◌}
use Rattle.command_text.specs.Parts.{positive_scan}
use Rattle.command_text.proofs.CodeSteps.{munch-goes, munch-halts, munch-ends}
use Rattle.command_text.proofs.part.digits_at.Goals as goal

pub returns-in-None-clause-end : goal.returns-in-None-clause-end
returns-in-None-clause-end c =
    sym c.loop-byte.invariant.read
    ∙ munch-halts (positive_scan c.args.most) c.loop-byte.number c.in-Some.byte.now c.loop-byte.rest.now c.in-Some.others.now c.in-Some.ensures.cases.0 c.in-None.ensures.value

pub loop-byte-preserved : goal.loop-byte-preserved
loop-byte-preserved c = record {
  read = sym (munch-goes (positive_scan c.args.most) c.loop-byte.number c.in-Some-longer_number.longer c.in-Some.byte.now c.loop-byte.rest.now c.in-Some.others.now c.in-Some.ensures.cases.0 c.in-Some-longer_number.ensures.value)
      ∙ c.loop-byte.invariant.read;
  few = c.in-Some-longer_number.ensures.few;
}

pub returns-clause-end : goal.returns-clause-end
returns-clause-end c = sym c.loop-byte.invariant.read ∙ munch-ends
    (positive_scan c.args.most) c.loop-byte.number c.loop-byte.rest.now c.in_default.ensures.cases
