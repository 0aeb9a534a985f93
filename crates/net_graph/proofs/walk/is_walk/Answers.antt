use Rattle.std.proofs.Common.{◌∙◌, sym, ap, length, arith}
use Rattle.std.proofs.lemmas.Bool.{eqb-false}
use Rattle.net_graph.proofs.RouteSums.{graph-ends}
use Rattle.net_graph.proofs.StandLaws.{stands_at, walks-stand, walks-nowhere}
use Rattle.net_graph.proofs.walk.is_walk.Goals as goal

pub returns-then-s-nodes-clause-walk : goal.returns-then-s-nodes-clause-walk
returns-then-s-nodes-clause-walk c =
    sym (walks-nowhere c.args.net.now c.args.s c.args.t c.args.fibres.now (graph-ends c.args.net.now c.nodes.ensures.graph)
    (λ there. absurd (omega (arith, there, c.if-s-nodes.true, c.nodes.ensures.count))))

pub returns-in-Some-clause-walk : goal.returns-in-Some-clause-walk
returns-in-Some-clause-walk c =
    let some = eqb-false (length c.args.fibres.now) 0 (sym c.is_empty.ensures ∙ c.if-is_empty.false) in
    sym (walks-stand c.args.net.now.fibres c.args.s c.args.t c.args.fibres.now some
    ∙ ap (stands_at c.args.t) (sym c.stand_at.ensures ∙ c.in-Some.is))

pub returns-in-None-clause-walk : goal.returns-in-None-clause-walk
returns-in-None-clause-walk c =
    let some = eqb-false (length c.args.fibres.now) 0 (sym c.is_empty.ensures ∙ c.if-is_empty.false) in
    sym (walks-stand c.args.net.now.fibres c.args.s c.args.t c.args.fibres.now some
    ∙ ap (stands_at c.args.t) (sym c.stand_at.ensures ∙ c.in-None.is))
