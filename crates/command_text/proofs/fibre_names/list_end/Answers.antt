use Rattle.std.proofs.Common.{sym, ◌∙◌, arith}
use Rattle.command_text.specs.Parts.{fibre_scan}
use Rattle.command_text.proofs.CodeSteps.{munch-goes, munch-halts, munch-ends}
use Rattle.command_text.proofs.fibre_names.list_end.Goals as goal

pub returns-in-None-clause-end : goal.returns-in-None-clause-end
returns-in-None-clause-end c =
    sym c.loop-byte.invariant.read ∙ munch-halts fibre_scan c.loop-byte.name_len c.in-Some.byte.now c.loop-byte.rest.now c.in-Some.others.now c.in-Some.ensures.cases.0 c.in-None.ensures

pub loop-byte-preserved : goal.loop-byte-preserved
loop-byte-preserved c = record {
  read = sym (munch-goes fibre_scan c.loop-byte.name_len c.in-Some-longer_list.longer c.in-Some.byte.now c.loop-byte.rest.now c.in-Some.others.now c.in-Some.ensures.cases.0 c.in-Some-longer_list.ensures)
      ∙ c.loop-byte.invariant.read;
  few = let l = c.in-Some.ensures.cases.1 in omega arith;
}

pub returns-clause-end : goal.returns-clause-end
returns-clause-end c = sym c.loop-byte.invariant.read
    ∙ munch-ends fibre_scan c.loop-byte.name_len c.loop-byte.rest.now c.in_default.ensures.cases
