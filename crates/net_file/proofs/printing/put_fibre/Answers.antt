use Rattle.std.proofs.Common.{ap, arith}
use Rattle.eon_model.specs.Network.{Fibre}
use Rattle.net_file.proofs.PrintGroups.{ends-below}
use Rattle.net_file.proofs.printing.put_fibre.Goals as goal

pub node_name-a-requires : goal.node_name-a-requires
node_name-a-requires g c =
    let e = ap (λ (f : Fibre). f.a) c.fibre-fibre.ensures in
    let l = (ends-below c.args.net.now c.args.fibre c.requires.graph c.requires.fibre).0 in omega arith

pub node_name-b-requires : goal.node_name-b-requires
node_name-b-requires g c =
    let e = ap (λ (f : Fibre). f.b) c.fibre-fibre.ensures in
    let l = (ends-below c.args.net.now c.args.fibre c.requires.graph c.requires.fibre).1 in omega arith
