use Rattle.std.proofs.Common.{sym, ◌∙◌}
use Rattle.plan_journal.proofs.HeadReads.{differs-short}
use Rattle.plan_journal.proofs.head.first_difference.Goals as goal

pub returns-then-i-bytes : goal.returns-then-i-bytes
returns-then-i-bytes c =
    sym (c.loop-i.invariant
    ∙ differs-short c.args.wanted.now c.args.bytes.now c.loop-i.i c.loop-i-test.true c.if-i-bytes.true)
