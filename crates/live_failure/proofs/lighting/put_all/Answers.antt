use Rattle.line_writer.proofs.TakesLaws.{takes-both}
use Rattle.live_failure.proofs.TextLaws.{few-services}
use Rattle.live_failure.proofs.lighting.put_all.Goals as goal

pub light_count-requires : goal.light_count-requires
light_count-requires g c = few-services c.args.setup.now c.args.services.now.list c.requires.setup c.requires.legal

pub returns : goal.returns
returns g c =
    let first = rw c.light_count.ensures at c.put_count.ensures in
    takes-both _ _ _ _ _ first c.put_services.ensures
