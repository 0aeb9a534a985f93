use Rattle.std.proofs.Common.{sym, ◌∙◌, ap, arith}
use Rattle.std.proofs.lemmas.Result.{IfOk-weaker}
use Rattle.eon_model.specs.Sets.{has_member}
use Rattle.net_graph.specs.Walks.{route_from}
use Rattle.route_list.proofs.LeastLaws.{closed-source, closed-target, too-far, least-made}
use Rattle.route_list.proofs.least.least_walk_in_rounds.Goals as goal
use Rattle.route_list.proofs.least.least_walk_in_rounds.Goals.{then-has-via-then-has, then-has-via-else-has+then-has-2}

pub returns-then-has-clause-route : goal.returns-then-has-clause-route
returns-then-has-clause-route g c =
    let net = c.args.net.now in
    let banned = has_member c.args.banned.now in
    let closed = has_member c.args.closed.now in
    elim c.then-has.branch [
      | then-has-via-then-has w ↦
          closed-source net c.nodes.ensures.graph c.args.s c.args.t banned closed c.args.max_km
          (sym c.has.ensures ∙ w.if-has.true)
      | then-has-via-else-has+then-has-2 w ↦
          closed-target net c.nodes.ensures.graph c.args.s c.args.t banned closed c.args.max_km
          (sym w.has-else-has.ensures ∙ w.if-has-2.true)
    ]

pub returns-then-away-s-clause-route : goal.returns-then-away-s-clause-route
returns-then-away-s-clause-route g c =
    too-far c.args.net.now c.nodes.ensures.graph c.args.s c.args.t (has_member c.args.banned.now)
    (has_member c.args.closed.now) c.args.max_km c.distances-away.result c.distances-away.ensures.settled
    (omega (arith, c.if-away-s.true))

pub returns-clause-route : goal.returns-clause-route
returns-clause-route g c =
    let net = c.args.net.now in
    let made = least-made net c.nodes.ensures.graph c.args.s c.args.t (has_member c.args.banned.now)
    (has_member c.args.closed.now) c.args.max_km c.distances-away.result c.distances-away.ensures.settled
    c.in_ok-fibres.fibres.items (sym c.has.ensures ∙ c.if-has.false) (omega (arith, c.if-away-s.false))
    c.in_ok-fibres.ensures in
    IfOk-weaker c.make.result _ _ (λ r e. e ∙ ap (route_from net c.args.s c.args.t) c.deref.ensures.value ∙ made)
    c.make.ensures.route
