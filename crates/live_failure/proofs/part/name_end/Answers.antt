use Rattle.std.proofs.Common.{sym, ◌∙◌, arith}
use Rattle.command_text.specs.Parts.{name_scan}
use Rattle.command_text.proofs.CodeSteps.{munch-goes, munch-halts, munch-ends}
use Rattle.live_failure.proofs.part.name_end.Goals as goal

pub returns-in-None-clause-end : goal.returns-in-None-clause-end
returns-in-None-clause-end c =
    sym c.loop-byte.invariant.read ∙ munch-halts name_scan c.loop-byte.len c.in-Some.byte.now c.loop-byte.rest.now c.in-Some.others.now c.in-Some.ensures.cases.0 c.in-None.ensures.value

pub loop-byte-preserved : goal.loop-byte-preserved
loop-byte-preserved c = record {
  read = sym (munch-goes name_scan c.loop-byte.len c.in-Some-longer_name.longer c.in-Some.byte.now c.loop-byte.rest.now c.in-Some.others.now c.in-Some.ensures.cases.0 c.in-Some-longer_name.ensures.value)
      ∙ c.loop-byte.invariant.read;
  count = let e = c.in-Some-longer_name.ensures.len in let l = c.in-Some.ensures.cases.1 in omega arith;
}

pub returns-clause-end : goal.returns-clause-end
returns-clause-end c = sym c.loop-byte.invariant.read
    ∙ munch-ends name_scan c.loop-byte.len c.loop-byte.rest.now c.in_default.ensures.cases
