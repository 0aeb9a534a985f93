use Rattle.std.proofs.Common.{◌≡◌, sym, subst, refl, ℕ, length, arith}
use Rattle.eon_model.specs.Sets.{has_member}
use Rattle.route_list.specs.Distance.{Reached, Rounds}
use Rattle.route_list.proofs.DistanceLaws.{Below, at-first, settled}
use Rattle.route_list.proofs.RoundLaws.{IsNear, near-first, near-more, near-settled}
use Rattle.route_list.proofs.distance.distances.Goals as goal

pub loop-round-init : goal.loop-round-init
loop-round-init g c =
    let net = c.args.net.now in
    let banned = has_member c.args.banned.now in
    let closed = has_member c.args.closed.now in
    let reached = subst (Reached net banned closed c.args.t c.args.max_km) (sym c.at_first-away.ensures)
    (at-first net banned closed c.args.t c.args.max_km (search arith)) in
    record {
      reached = reached;
      near = near-first net banned closed c.args.t c.at_first-away.result reached.target;
      counted = omega arith;
    }

pub loop-round-preserved : goal.loop-round-preserved
loop-round-preserved g c =
    let net = c.args.net.now in
    let banned = has_member c.args.banned.now in
    let closed = has_member c.args.closed.now in
    let reached = c.relax_all.ensures.round.reached in
    record {
      reached = reached;
      near = near-more net banned closed c.args.t c.loop-round._round c.loop-round.away c.relax_all.new.away
          reached.target c.loop-round.invariant.near c.relax_all.ensures.lower;
      counted = omega (arith, c.loop-round.invariant.counted, c.tick.ensures);
    }

pub returns-then-not-relax_all-clause-settled : goal.returns-then-not-relax_all-clause-settled
returns-then-not-relax_all-clause-settled g c =
    let net = c.args.net.now in
    let banned = has_member c.args.banned.now in
    let closed = has_member c.args.closed.now in
    settled net banned closed c.args.t c.args.max_km _ c.loop-round.away c.relax_all.new.away
    (subst (Rounds net banned closed c.args.t c.args.max_km (Below net banned closed c.args.t c.args.max_km _)
    c.loop-round.away c.relax_all.new.away) c.if-not-relax_all.true c.relax_all.ensures.round) refl

pub returns-then-not-relax_all-clause-rounds : goal.returns-then-not-relax_all-clause-rounds
returns-then-not-relax_all-clause-rounds g c =
    omega (arith, c.tick.ensures, c.loop-round.invariant.counted, c.loop-round-test.true, c.nodes-nodes.ensures.count)

pub returns : goal.returns
returns g c =
    let net = c.args.net.now in
    let banned = has_member c.args.banned.now in
    let closed = has_member c.args.closed.now in
    let all : c.loop-round._round ≡ length net.nodes =
    omega (arith, c.loop-round-test.false, c.loop-round.auto._round-end, c.nodes-nodes.ensures.count) in
    record {
      settled = near-settled net banned closed c.nodes-nodes.ensures.graph c.args.t c.args.max_km c.loop-round.away
          c.loop-round.invariant.reached (subst (λ (r : ℕ). IsNear net banned closed c.args.t r c.loop-round.away) all
          c.loop-round.invariant.near);
      rounds = omega (arith, c.loop-round.invariant.counted, all);
    }
