use Rattle.admission.proofs.HoldingLaws.{backup_taken, backup_shared}
use Rattle.admission.proofs.taken.take_for_back.Goals as goal

pub returns-then-not-shares : goal.returns-then-not-shares
returns-then-not-shares c =
    backup_taken c.args.route.now c.args.leg.now c.args.row.now c.take_channel.new.row c.take_backup.new.row
    c.args.shares c.if-not-shares.true c.take_channel.ensures c.take_backup.ensures

pub returns-else-not-shares : goal.returns-else-not-shares
returns-else-not-shares c =
    backup_shared c.args.route.now c.args.leg.now c.args.row.now c.take_channel.new.row c.args.shares
    c.if-not-shares.false c.take_channel.ensures
