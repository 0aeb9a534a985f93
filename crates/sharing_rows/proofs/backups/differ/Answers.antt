use Rattle.std.proofs.Common.{sym, ◌∙◌, arith}
use Rattle.sharing_rows.proofs.BackupLaws.{differ_next}
use Rattle.sharing_rows.proofs.backups.differ.Goals as goal

pub loop-at-preserved : goal.loop-at-preserved
loop-at-preserved c =
    let near = c.loop-at-test.true in
    differ_next c.args.fibres.now c.loop-at.at 0 (omega (arith, near)) c.loop-at.invariant
    (sym c.contains.ensures.value ∙ c.if-contains.false)
