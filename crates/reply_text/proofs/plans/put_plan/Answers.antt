use Rattle.std.proofs.Common.{◌∙◌, sym}
use Rattle.std.proofs.lemmas.List.{length-map}
use Rattle.compact_plan.specs.Told.{move_told}
use Rattle.line_writer.proofs.TakesLaws.{takes-both}
use Rattle.reply_text.proofs.plans.put_plan.Goals as goal

pub returns : goal.returns
returns g c =
    let count = c.len.ensures ∙ sym (length-map c.args.plan.now.moves.list.items move_told) in
    let first = rw count at c.put_plan_line.ensures in
    takes-both _ _ _ _ _ first c.put_each_move.ensures
