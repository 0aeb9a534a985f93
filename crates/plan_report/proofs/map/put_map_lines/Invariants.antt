use Rattle.std.proofs.Common.{take}
use Rattle.std.specs.List.{flat_map}
use Rattle.eon_model.specs.Listings.{map_line}
use Rattle.line_writer.specs.Sent.{Takes}
use Rattle.plan_report.specs.Mapped.{lines_seen}
use Rattle.plan_report.proofs.map.put_map_lines.Given as goal

abbrev pub invariant-loop-line : goal.invariant-loop-line
invariant-loop-line g l = Takes (g.W.TextSink.sent l.fn.out) (g.W.TextSink.sent l.out)
    (flat_map map_line (lines_seen (take l.line-index l.lines)))
