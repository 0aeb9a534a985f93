use Rattle.std.proofs.Common.{refl}
use Rattle.plan_serve.proofs.TopLaws.{long_file}
use Rattle.plan_serve.proofs.network.read_text.Goals as goal

pub returns-in-Ok-Long-clause-network : goal.returns-in-Ok-Long-clause-network
returns-in-Ok-Long-clause-network g c =
    let h = rw c.in-Ok-Long.field-0-is at c.in-Ok-Long.ensures.long in
    (c.in-Ok-Long.ensures.counts, long_file (g.H.Shelf.files c.args.shelf.now) c.args.name.now (h refl))
