use Rattle.std.proofs.Common.{sym, ◌∙◌}
use Rattle.eon_model.specs.Names.{is_above}
use Rattle.net_graph.proofs.NameOrder.{bytes_below, after_last, after_none}
use Rattle.net_graph.proofs.named.is_above_last.Goals as goal

pub returns-in-Some-clause-above : goal.returns-in-Some-clause-above
returns-in-Some-clause-above g c =
    c.lt.ensures ∙ bytes_below c.bytes.result.now c.bytes-bytes.result.now
    ∙ (λ i. is_above (c.bytes-bytes.ensures.value i) ((c.bytes.ensures.value ∙ c.name.ensures) i))
    ∙ sym (after_last g.T.Named.named c.args.list.now c.args.name.now c.in-Some.last.now (sym c.in-Some.ensures.value))

pub returns-in-None-clause-above : goal.returns-in-None-clause-above
returns-in-None-clause-above g c =
    sym (after_none g.T.Named.named c.args.list.now c.args.name.now (sym c.in-None.ensures.value))
