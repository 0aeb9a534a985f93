use Rattle.std.proofs.Common.{sym, ◌∙◌, ap, subst, ℕ, ◌∷◌, [], ◌++◌, List, arith, append_assoc, append-nil}
use Rattle.eon_model.specs.Sets.{has_member}
use Rattle.net_graph.proofs.GraphParts.{parts_of}
use Rattle.route_list.specs.Ways.{IsLeastWay}
use Rattle.route_list.proofs.WayLaws.{not-none, way-step}
use Rattle.route_list.proofs.least.least_way.Goals as goal

pub unreachable-requires : goal.unreachable-requires
unreachable-requires c =
    let few = (parts_of c.args.net.now c.nodes.ensures.graph).nodes_few in
    not-none c.args.net.now c.nodes.ensures.graph (has_member c.args.banned.now) (has_member c.args.closed.now) c.args.t
    c.args.max_km c.args.away.now c.requires.settled c.loop-node.node
    (omega (arith, few, c.loop-node.invariant.known)) c.loop-node-test.true c.loop-node.invariant.within
    c.in_default.ensures

pub loop-node-smaller : goal.loop-node-smaller
loop-node-smaller c =
    (way-step c.args.net.now c.nodes.ensures.graph (has_member c.args.banned.now) (has_member c.args.closed.now)
    c.args.t c.args.max_km c.args.away.now c.requires.settled c.loop-node.node c.in-Some.fibre c.in-Some-far_end.next
    c.in-Some.ensures (sym c.in-Some-far_end.ensures.value)).1

pub loop-node-preserved : goal.loop-node-preserved
loop-node-preserved c =
    let net = c.args.net.now in
    let banned = has_member c.args.banned.now in
    let closed = has_member c.args.closed.now in
    let away = c.args.away.now in
    let t = c.args.t in
    let i = c.in-Some.fibre in
    let to = sym c.in-Some-far_end.ensures.value in
    let step = way-step net c.nodes.ensures.graph banned closed t c.args.max_km away c.requires.settled
    c.loop-node.node i c.in-Some-far_end.next c.in-Some.ensures to in
    record {
      known = step.0;
      within = omega (arith, step.1, c.loop-node.invariant.within);
      way = λ rest w. subst (λ (xs : List ℕ). IsLeastWay net banned closed away t c.args.s xs)
          (sym (ap (λ xs. xs ++ rest) c.in_ok-push.ensures.items ∙ append_assoc c.loop-node.fibres.items (i ∷ []) rest))
          (c.loop-node.invariant.way (i ∷ rest) (
            c.loop-node-test.true,
            c.in-Some.ensures,
            λ n e. subst (λ (m : ℕ). IsLeastWay net banned closed away t m rest)
                (let both = sym to ∙ e in cc) w,
          ));
    }

pub returns : goal.returns
returns c =
    subst (λ (xs : List ℕ). IsLeastWay c.args.net.now (has_member c.args.banned.now) (has_member c.args.closed.now)
    c.args.away.now c.args.t c.args.s xs) (append-nil c.loop-node.fibres.items)
    (c.loop-node.invariant.way [] c.loop-node-test.false)
