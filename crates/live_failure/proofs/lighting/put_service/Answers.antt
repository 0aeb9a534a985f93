use Rattle.live_failure.proofs.TextLaws.{both_lit, work_alone}
use Rattle.live_failure.proofs.lighting.put_service.Goals as goal

pub returns-then-lights_backup : goal.returns-then-lights_backup
returns-then-lights_backup g c =
    both_lit c.args.net.now c.args.failed.now c.args.service.now.name c.args.service.now.class c.args.service.now.leg.work
    c.args.service.now.leg.back _ _ _ c.put_work.ensures c.put_back.ensures c.if-lights_backup.ensures

pub returns-else-lights_backup : goal.returns-else-lights_backup
returns-else-lights_backup g c =
    work_alone c.args.net.now c.args.failed.now c.args.service.now.name c.args.service.now.class c.args.service.now.leg.work
    c.args.service.now.leg.back _ _ c.put_work.ensures c.if-lights_backup.ensures
