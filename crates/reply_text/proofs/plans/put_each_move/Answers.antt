use Rattle.std.proofs.Common.{ap, ◌∙◌, ◌≤◌, subst, List, map, length, arith}
use Rattle.std.specs.List.{flat_map}
use Rattle.eon_model.specs.Plan as plan
use Rattle.line_writer.specs.Sent.{Takes}
use Rattle.std.specs.Option.{option_map}
use Rattle.std.proofs.lemmas.Option.{slice_get-map}
use Rattle.std.proofs.lemmas.List.{length-map, take_all}
use Rattle.eon_model.specs.ReplyText.{move_line}
use Rattle.compact_plan.specs.Told.{move_told, moves_told}
use Rattle.reply_text.proofs.ListingLaws.{next_text}
use Rattle.reply_text.proofs.plans.put_each_move.Goals as goal

pub loop-i-preserved : goal.loop-i-preserved
loop-i-preserved g c =
    next_text move_line (moves_told c.args.moves.now) c.loop-i.i (move_told c.at.result.now) _ _ _
    (slice_get-map move_told c.args.moves.now.list.items c.loop-i.i ∙ ap (option_map move_told) c.at.ensures)
    c.loop-i.invariant c.put_move.ensures

pub returns : goal.returns
returns g c =
    let moves = c.args.moves.now.list.items in
    let count = length-map moves move_told in
    let len = c.len-i-end.ensures in
    let test = c.loop-i-test.false in
    let past : length (map move_told moves) ≤ c.loop-i.i = omega arith in
    subst (λ (ms : List plan.Move). Takes (g.W.TextSink.sent c.args.out.now) (g.W.TextSink.sent c.loop-i.out) (flat_map move_line ms))
    (take_all c.loop-i.i (map move_told moves) past) c.loop-i.invariant
