use Rattle.std.proofs.Common.{sym, ◌∙◌, ap, drop, ◌+◌}
use Rattle.room_lines.specs.Lines.{verb_among}
use Rattle.room_lines.proofs.VerbSteps.{among-here, among-later, among-end}
use Rattle.room_lines.proofs.verb.verb_among.Goals as goal

pub returns-in-Ok : goal.returns-in-Ok
returns-in-Ok c =
    sym c.loop-verb.invariant
    ∙ among-here c.loop-verb.left c.loop-verb.verb-index c.args.verbs.now c.args.bytes.now c.word.result.now c.in-Ok.rest.now c.loop-verb-test.true c.word.ensures c.in-Ok.ensures

pub loop-verb-preserved : goal.loop-verb-preserved
loop-verb-preserved c =
    ap (λ k. verb_among k (drop (c.loop-verb.verb-index + 1) c.args.verbs.now) c.args.bytes.now) c.min-left.ensures
    ∙ sym (among-later c.loop-verb.left c.loop-verb.verb-index c.args.verbs.now c.args.bytes.now c.word.result.now c.in-Err.stuck.left c.loop-verb-test.true c.word.ensures c.in-Err.ensures)
    ∙ c.loop-verb.invariant

pub returns : goal.returns
returns c = sym c.loop-verb.invariant ∙ among-end c.loop-verb.left c.loop-verb.verb-index c.args.verbs.now c.args.bytes.now c.loop-verb-test.false
