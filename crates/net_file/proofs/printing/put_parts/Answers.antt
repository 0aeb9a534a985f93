use Rattle.std.proofs.Common.{ap, length, slice_index_or, arith}
use Rattle.eon_model.specs.NetworkText.{band_line}
use Rattle.flex_grid.specs.Padded.{blank}
use Rattle.line_writer.proofs.TakesLaws.{takes-none, takes-same}
use Rattle.net_file.proofs.PrintNumbers.{below-taken, below-end, below-each}
use Rattle.net_file.proofs.printing.put_parts.Goals as goal

pub loop-i-init : goal.loop-i-init
loop-i-init g c = takes-none _

pub loop-i-preserved : goal.loop-i-preserved
loop-i-preserved g c =
    below-taken _ _ _ (λ i. band_line (slice_index_or c.args.band.now i blank)) c.loop-i.i c.loop-i.invariant
    (takes-same _ _ _ _ (ap band_line c.part.ensures.value) c.put_part.ensures)

pub returns : goal.returns
returns g c =
    let count = c.parts-i-end.ensures.value in
    let past = c.loop-i-test.false in
    let end = c.loop-i.auto.i-end in
    below-end _ _ (λ i. band_line (slice_index_or c.args.band.now i blank)) c.loop-i.i (length c.args.band.now) _ (omega arith)
    (below-each band_line blank c.args.band.now) c.loop-i.invariant
