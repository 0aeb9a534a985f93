use Rattle.std.proofs.Common.{arith}
use Rattle.sharing_rows.proofs.BackupLaws.{none_below, more_below}
use Rattle.sharing_rows.proofs.backups.risk_of.Goals as goal

pub loop-number-init : goal.loop-number-init
loop-number-init c = none_below c.args.groups c.empty-risk.result c.empty-risk.ensures

pub loop-number-preserved : goal.loop-number-preserved
loop-number-preserved c =
    let low = c.if-number-groups.false in
    more_below c.args.groups _ c.loop-number.risk _ c.loop-number.invariant (omega (arith, low)) c.with-risk.ensures
