use Rattle.std.proofs.Common.{slice_index_or}
use Rattle.eon_model.specs.NetworkText.{band_line}
use Rattle.flex_grid.specs.Padded.{blank}
use Rattle.line_writer.specs.Sent.{Takes}
use Rattle.net_file.specs.PrintWords.{each_below}
use Rattle.net_file.proofs.printing.put_parts.Given as goal

abbrev pub invariant-loop-i : goal.invariant-loop-i
invariant-loop-i g l =
    Takes (g.W.TextSink.sent l.fn.out) (g.W.TextSink.sent l.out) (each_below (λ i. band_line (slice_index_or l.band i blank)) l.i)
