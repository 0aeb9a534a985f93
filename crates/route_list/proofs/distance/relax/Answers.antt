use Rattle.std.proofs.Common.{sym, ◌∙◌, ap, subst, ◌||◌, Bool, arith}
use Rattle.eon_model.specs.Sets.{has_member}
use Rattle.net_graph.specs.Rows.{fibre_seen}
use Rattle.net_graph.proofs.RouteSums.{ends-small}
use Rattle.route_list.specs.Distance.{Rounds, IsRelaxed}
use Rattle.route_list.proofs.DistanceLaws.{over-both}
use Rattle.route_list.proofs.RoundLaws.{lowers-over}
use Rattle.route_list.proofs.distance.relax.Goals as goal

pub shorten-there-requires-clause-node : goal.shorten-there-requires-clause-node
shorten-there-requires-clause-node c =
    let ends = ends-small c.args.net.now c.args.fibre c.fibres.ensures.graph c.requires.known in
    omega (arith, ends.0, ap (λ f. f.a) c.fibre-ends.ensures)

pub shorten-there-requires-clause-next : goal.shorten-there-requires-clause-next
shorten-there-requires-clause-next c =
    let ends = ends-small c.args.net.now c.args.fibre c.fibres.ensures.graph c.requires.known in
    omega (arith, ends.1, ap (λ f. f.b) c.fibre-ends.ensures)

pub shorten-back-requires-clause-node : goal.shorten-back-requires-clause-node
shorten-back-requires-clause-node c =
    let ends = ends-small c.args.net.now c.args.fibre c.fibres.ensures.graph c.requires.known in
    omega (arith, ends.1, ap (λ f. f.b) c.fibre-ends.ensures)

pub shorten-back-requires-clause-next : goal.shorten-back-requires-clause-next
shorten-back-requires-clause-next c =
    let ends = ends-small c.args.net.now c.args.fibre c.fibres.ensures.graph c.requires.known in
    omega (arith, ends.0, ap (λ f. f.a) c.fibre-ends.ensures)

pub returns-then-there-clause-round : goal.returns-then-there-clause-round
returns-then-there-clause-round c =
    let net = c.args.net.now in
    let banned = has_member c.args.banned.now in
    let closed = has_member c.args.closed.now in
    let i = c.args.fibre in
    let ends = ends-small net i c.fibres.ensures.graph c.requires.known in
    let a = ap (λ f. f.a) c.fibre-ends.ensures in
    let b = ap (λ f. f.b) c.fibre-ends.ensures in
    subst (Rounds net banned closed c.args.t c.args.max_km (IsRelaxed net banned closed i) c.args.away.now
    c.shorten-back.new.away) (ap (λ there. there || c.shorten-back.result) c.if-there.true ∙ sym c.if-there.true)
    (over-both net banned closed c.args.t c.args.max_km i (fibre_seen c.fibre-ends.result) c.fibre-ends.ensures
    c.requires.known (sym c.is_free.ensures ∙ c.if-not-is_free.false) (omega (arith, ends.0, a))
    (omega (arith, ends.1, b)) c.args.away.now c.shorten-there.new.away c.shorten-back.new.away c.shorten-there.result
    c.shorten-back.result c.requires.reached c.shorten-there.ensures.away c.shorten-there.ensures.shorter
    c.shorten-back.ensures.away c.shorten-back.ensures.shorter)

pub returns-else-there-clause-round : goal.returns-else-there-clause-round
returns-else-there-clause-round c =
    let net = c.args.net.now in
    let banned = has_member c.args.banned.now in
    let closed = has_member c.args.closed.now in
    let i = c.args.fibre in
    let ends = ends-small net i c.fibres.ensures.graph c.requires.known in
    let a = ap (λ f. f.a) c.fibre-ends.ensures in
    let b = ap (λ f. f.b) c.fibre-ends.ensures in
    subst (λ (there : Bool). Rounds net banned closed c.args.t c.args.max_km (IsRelaxed net banned closed i)
    c.args.away.now c.shorten-back.new.away (there || c.shorten-back.result)) c.if-there.false
    (over-both net banned closed c.args.t c.args.max_km i (fibre_seen c.fibre-ends.result) c.fibre-ends.ensures
    c.requires.known (sym c.is_free.ensures ∙ c.if-not-is_free.false) (omega (arith, ends.0, a))
    (omega (arith, ends.1, b)) c.args.away.now c.shorten-there.new.away c.shorten-back.new.away c.shorten-there.result
    c.shorten-back.result c.requires.reached c.shorten-there.ensures.away c.shorten-there.ensures.shorter
    c.shorten-back.ensures.away c.shorten-back.ensures.shorter)

pub returns-then-there-clause-lower : goal.returns-then-there-clause-lower
returns-then-there-clause-lower c =
    let net = c.args.net.now in
    let ends = ends-small net c.args.fibre c.fibres.ensures.graph c.requires.known in
    let a = ap (λ f. f.a) c.fibre-ends.ensures in
    let b = ap (λ f. f.b) c.fibre-ends.ensures in
    lowers-over net (has_member c.args.banned.now) (has_member c.args.closed.now) c.args.fibre
    (fibre_seen c.fibre-ends.result) c.fibre-ends.ensures c.requires.known c.args.away.now c.shorten-there.new.away
    c.shorten-back.new.away (omega (arith, ends.0, a)) (omega (arith, ends.1, b)) c.shorten-there.ensures.away
    c.shorten-back.ensures.away

pub returns-else-there-clause-lower : goal.returns-else-there-clause-lower
returns-else-there-clause-lower c =
    let net = c.args.net.now in
    let ends = ends-small net c.args.fibre c.fibres.ensures.graph c.requires.known in
    let a = ap (λ f. f.a) c.fibre-ends.ensures in
    let b = ap (λ f. f.b) c.fibre-ends.ensures in
    lowers-over net (has_member c.args.banned.now) (has_member c.args.closed.now) c.args.fibre
    (fibre_seen c.fibre-ends.result) c.fibre-ends.ensures c.requires.known c.args.away.now c.shorten-there.new.away
    c.shorten-back.new.away (omega (arith, ends.0, a)) (omega (arith, ends.1, b)) c.shorten-there.ensures.away
    c.shorten-back.ensures.away
