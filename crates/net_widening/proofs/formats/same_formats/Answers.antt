use Rattle.std.proofs.Common.{sym, ◌∙◌}
use Rattle.eon_model.specs.Wider.{same_format}
use Rattle.net_widening.proofs.SameLists.{same-here, other-here}
use Rattle.net_widening.proofs.formats.same_formats.Goals as goal

pub returns-then-not-same_format : goal.returns-then-not-same_format
returns-then-not-same_format c =
    let x = c.row.result in
    let y = c.row-in-loop-i.result in
    other-here same_format c.args.table.now.rows c.args.other.now.rows c.loop-i.i x y c.loop-i.invariant
    c.row.ensures
    c.row-in-loop-i.ensures
    (sym c.same_format.ensures ∙ c.if-not-same_format.true)

pub loop-i-preserved : goal.loop-i-preserved
loop-i-preserved c =
    let x = c.row.result in
    let y = c.row-in-loop-i.result in
    same-here same_format c.args.table.now.rows c.args.other.now.rows c.loop-i.i x y c.loop-i.invariant
    c.row.ensures
    c.row-in-loop-i.ensures
    (sym c.same_format.ensures ∙ c.if-not-same_format.false)
