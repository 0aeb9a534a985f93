use Rattle.std.proofs.Common.{◌+◌, arith, ap, ◌∙◌, Some}
use Rattle.std.specs.Int.{div_ceil}
use Rattle.eon_model.specs.NetworkText.{is_format}
use Rattle.reach_table.proofs.BestLaws.{all-got}
use Rattle.reach_table.proofs.TableLaws.{positive_per, rows_in_range, need_is}
use Rattle.reach_table.proofs.table.need.Goals as goal

pub div_ceil-requires : goal.div_ceil-requires
div_ceil-requires c =
    let some = positive_per c.row-row.result (all-got is_format c.args.table.now.rows c.in_ok-pick.field-0 c.row-row.result
    c.row-row.ensures (rows_in_range c.args.table.now c.guard-guard.ensures.valid)) in
    let per = ap (λ f. f.per) c.row.view_is in
    omega (arith, some, per, c.from.ensures)

pub returns : goal.returns
returns c =
    let some = positive_per c.row-row.result (all-got is_format c.args.table.now.rows c.in_ok-pick.field-0 c.row-row.result
    c.row-row.ensures (rows_in_range c.args.table.now c.guard-guard.ensures.valid)) in
    let per = c.from.ensures ∙ ap (λ f. f.per) c.row.view_is in
    ap (λ g. Some (c.div_ceil.result + g)) c.guard-guard.ensures.value
    ∙ need_is c.args.table.now.rows c.args.table.now.guard c.args.rate c.args.km c.in_ok-pick.field-0
    c.div_ceil.result c.row-row.result c.in_ok-pick.ensures.row c.row-row.ensures some
    (c.div_ceil.ensures ∙ ap (div_ceil c.args.rate) per)
