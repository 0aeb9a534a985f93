use Rattle.std.proofs.Common.{sym, ap, length, Option, arith}
use Rattle.std.specs.Option.{unwrap_or}
use Rattle.eon_model.specs.Formats.{Format}
use Rattle.eon_model.specs.NetworkText.{format_line}
use Rattle.net_file.specs.PrintWords.{no_format, format_at}
use Rattle.line_writer.proofs.TakesLaws.{takes-none, takes-same}
use Rattle.net_file.proofs.PrintNumbers.{below-taken, below-end, below-all}
use Rattle.net_file.proofs.printing.put_formats.Goals as goal

pub loop-i-init : goal.loop-i-init
loop-i-init g c = takes-none _

pub loop-i-preserved : goal.loop-i-preserved
loop-i-preserved g c =
    below-taken _ _ _ (λ i. format_line (format_at c.args.table.now.rows i)) c.loop-i.i c.loop-i.invariant
    (takes-same _ _ _ _ (ap (λ (o : Option Format). format_line (unwrap_or o no_format)) (sym c.row.ensures)) c.put_format.ensures)

pub returns : goal.returns
returns g c =
    let count = c.len-i-end.ensures.value in
    let past = c.loop-i-test.false in
    let end = c.loop-i.auto.i-end in
    below-end _ _ (λ i. format_line (format_at c.args.table.now.rows i)) c.loop-i.i (length c.args.table.now.rows) _ (omega arith)
    (below-all format_line no_format c.args.table.now.rows) c.loop-i.invariant
