use Rattle.std.proofs.Common.{length, arith}
use Rattle.eon_model.specs.NetworkText.{fibre_line}
use Rattle.eon_model.specs.Network.{fibre_at, no_fibre}
use Rattle.line_writer.proofs.TakesLaws.{takes-none}
use Rattle.net_file.proofs.PrintNumbers.{below-taken, below-end, below-all}
use Rattle.net_file.proofs.printing.put_fibres.Goals as goal

pub loop-i-init : goal.loop-i-init
loop-i-init g c = takes-none _

pub loop-i-preserved : goal.loop-i-preserved
loop-i-preserved g c =
    below-taken _ _ _ (λ i. fibre_line c.args.net.now.nodes (fibre_at c.args.net.now.fibres i)) c.loop-i.i c.loop-i.invariant
    (c.put_fibre.ensures)

pub returns : goal.returns
returns g c =
    let count = c.fibres-i-end.ensures.count in
    let past = c.loop-i-test.false in
    let end = c.loop-i.auto.i-end in
    below-end _ _ (λ i. fibre_line c.args.net.now.nodes (fibre_at c.args.net.now.fibres i)) c.loop-i.i (length c.args.net.now.fibres) _ (omega arith)
    (below-all (fibre_line c.args.net.now.nodes) no_fibre c.args.net.now.fibres) c.loop-i.invariant
