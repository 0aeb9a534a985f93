use Rattle.std.proofs.Common.{◌+◌, ◌<◌, sym, ap, ◌∙◌, length, arith, Some}
use Rattle.eon_model.specs.Formats.{Format}
use Rattle.eon_model.specs.NetworkText.{is_format}
use Rattle.reach_table.proofs.BestLaws.{IsBest-taken, IsBest-kept, IsBest-along, all-at}
use Rattle.reach_table.proofs.TableLaws.{positive_per}
use Rattle.reach_table.proofs.table.best_row.Goals as goal
use Rattle.reach_table.proofs.table.best_row.Goals.{then-is_better, else-is_better}

pub loop-i-preserved : goal.loop-i-preserved
loop-i-preserved c =
    let rows = c.args.rows.now in
    let x : Format = c.index-rows-i.result in
    let i = c.loop-i.i in
    let within : i < length rows = omega (arith, c.loop-i-test.true) in
    let per = ap (λ f. f.per) c.row.view_is in
    let some = positive_per x (all-at is_format rows i x within c.index-rows-i.is c.requires.formats) in
    elim c.if-is_better.branch [
      | then-is_better w ↦ IsBest-along rows c.args.km (i + 1) (Some i) c.if-is_better.best x.per c.if-is_better.most
          w.best-is (w.most-is ∙ per)
          (IsBest-taken rows c.args.km i x c.loop-i.best c.loop-i.most within c.index-rows-i.is c.loop-i.invariant
          (sym c.is_better.ensures ∙ w.if-is_better.true))
      | else-is_better w ↦ IsBest-along rows c.args.km (i + 1) c.loop-i.best c.if-is_better.best c.loop-i.most c.if-is_better.most
          w.best-is w.most-is
          (IsBest-kept rows c.args.km i x c.loop-i.best c.loop-i.most within c.index-rows-i.is some c.loop-i.invariant
          (sym c.is_better.ensures ∙ w.if-is_better.false))
    ]
