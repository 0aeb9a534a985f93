use Rattle.std.proofs.Common.{sym, ◌∙◌, arith}
use Rattle.eon_model.specs.Network.{no_fibre}
use Rattle.eon_model.specs.Wider.{same_fibre}
use Rattle.net_graph.specs.Rows.{fibre_seen}
use Rattle.net_widening.proofs.SameLists.{stands-at, same-here, other-here}
use Rattle.net_widening.proofs.network.same_fibres.Goals as goal

pub returns-then-not-same_fibre : goal.returns-then-not-same_fibre
returns-then-not-same_fibre c =
    let a = c.fibres.ensures.count in
    let b = c.fibres-2.ensures.count in
    let n = c.fibres-i-end.ensures.count in
    let same = c.if-fibres.false in
    let more = c.loop-i-test.true in
    let x = (fibre_seen c.fibre.result) in
    let y = (fibre_seen c.fibre-in-loop-i.result) in
    other-here same_fibre c.args.net.now.fibres c.args.other.now.fibres c.loop-i.i x y c.loop-i.invariant
    (stands-at c.args.net.now.fibres c.loop-i.i no_fibre x (omega arith) c.fibre.ensures)
    (stands-at c.args.other.now.fibres c.loop-i.i no_fibre y (omega arith) c.fibre-in-loop-i.ensures)
    (sym c.same_fibre.ensures ∙ c.if-not-same_fibre.true)

pub loop-i-preserved : goal.loop-i-preserved
loop-i-preserved c =
    let a = c.fibres.ensures.count in
    let b = c.fibres-2.ensures.count in
    let n = c.fibres-i-end.ensures.count in
    let same = c.if-fibres.false in
    let more = c.loop-i-test.true in
    let x = (fibre_seen c.fibre.result) in
    let y = (fibre_seen c.fibre-in-loop-i.result) in
    same-here same_fibre c.args.net.now.fibres c.args.other.now.fibres c.loop-i.i x y c.loop-i.invariant
    (stands-at c.args.net.now.fibres c.loop-i.i no_fibre x (omega arith) c.fibre.ensures)
    (stands-at c.args.other.now.fibres c.loop-i.i no_fibre y (omega arith) c.fibre-in-loop-i.ensures)
    (sym c.same_fibre.ensures ∙ c.if-not-same_fibre.false)
