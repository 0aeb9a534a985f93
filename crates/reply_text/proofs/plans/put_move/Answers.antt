use Rattle.std.proofs.Common.{[], ◌∷◌, w16, rules}
use mir.Val.{SFits}
use Rattle.std.specs.Fmt.{signed_decimal}
use Rattle.std.proofs.lemmas.Int.{to_z-of_z}
use Rattle.line_writer.proofs.WordLaws.{line_taken, word_then, words_both}
use Rattle.reply_text.proofs.plans.put_move.Goals as goal

pub returns : goal.returns
returns g c =
    let m = c.args.target.now in
    let low : SFits w16 m.from = search rules in
    let high : SFits w16 m.to = search rules in
    let centres = rw (to_z-of_z w16 m.from low, to_z-of_z w16 m.to high) at c.put_centres.ensures in
    line_taken _ _ _ _ _ _ c.put.ensures
    (word_then _ _ _ _ _ c.put_number.ensures
    (word_then _ _ _ _ _ c.put_name.ensures
    (words_both _ _ _ (signed_decimal m.from ∷ signed_decimal m.to ∷ []) _ centres
    (words_both _ _ _ _ _ c.put_rest.ensures c.put_after.ensures)))) c.end_line.ensures
