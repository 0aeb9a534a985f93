use Rattle.std.proofs.Common.{rules}
use Rattle.std.proofs.lemmas.Fn.{always_returns_same}
use Rattle.eon_model.specs.Names.{name_cmp}
use Rattle.net_graph.proofs.NameOrder.{found_number, no_number}
use Rattle.net_graph.proofs.named.number_of.Goals as goal

pub returns-in-Ok : goal.returns-in-Ok
returns-in-Ok g c =
    found_number g.T.Named.named c.args.list.now c.args.name.now c.in-Ok.i c.requires.rise c.in-Ok.ensures.bound
    (c.in-Ok.ensures.position (λ x. name_cmp (g.T.Named.named x) c.args.name.now)
    (always_returns_same _ _ _ (λ a r f' k. search rules)))

pub returns-in-Err : goal.returns-in-Err
returns-in-Err g c =
    no_number g.T.Named.named c.args.list.now c.args.name.now c.in-Err.field-0 c.requires.rise
    (c.in-Err.ensures.position (λ x. name_cmp (g.T.Named.named x) c.args.name.now)
    (always_returns_same _ _ _ (λ a r f' k. search rules)))
