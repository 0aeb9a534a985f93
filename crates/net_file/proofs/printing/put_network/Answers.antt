use Rattle.line_writer.proofs.TakesLaws.{takes-both}
use Rattle.net_file.proofs.printing.put_network.Goals as goal

pub returns : goal.returns
returns g c =
    takes-both _ _ _ _ _ (takes-both _ _ _ _ _ c.put_nodes.ensures c.put_fibres.ensures) c.put_groups.ensures
