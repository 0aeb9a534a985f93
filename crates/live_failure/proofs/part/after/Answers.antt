use Rattle.std.proofs.Common.{sym, ◌∙◌}
use Rattle.command_text.proofs.CodeSteps.{after-goes, after-halts, after-short, after-done}
use Rattle.live_failure.proofs.part.after.Goals as goal
use Rattle.live_failure.proofs.part.after.Goals.{in_default-via-in-Some+else-byte-expected, in_default-via-in_default}

pub returns-in_default : goal.returns-in_default
returns-in_default c =
    let word = c.args.word.now in
    let rest = c.loop-expected.rest.now in
    sym c.loop-expected.invariant ∙ elim c.in_default.branch [
      | in_default-via-in-Some+else-byte-expected w ↦ after-halts word rest _ c.loop-expected.expected-index _ c.loop-expected-test.true w.in-Some.ensures.cases.0 w.if-byte-expected.false
      | in_default-via-in_default w ↦ after-short word rest c.loop-expected.expected-index c.loop-expected-test.true w.in_default.ensures.cases
    ]

pub loop-expected-preserved : goal.loop-expected-preserved
loop-expected-preserved c =
    sym (after-goes c.args.word.now c.loop-expected.rest.now c.in-Some.others.now c.loop-expected.expected-index c.in-Some.byte.now c.loop-expected-test.true c.in-Some.ensures.cases.0 c.if-byte-expected.true)
    ∙ c.loop-expected.invariant

pub returns : goal.returns
returns c = sym c.loop-expected.invariant ∙ after-done c.args.word.now c.loop-expected.rest.now c.loop-expected.expected-index c.loop-expected-test.false
