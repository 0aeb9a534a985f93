use Rattle.std.proofs.Common.{[], ◌∷◌, codes, w16}
use Rattle.std.proofs.lemmas.Int.{to_z-of_z}
use Rattle.line_writer.proofs.WordLaws.{line_on}
use Rattle.reply_text.proofs.printing.put_moved.Goals as goal

pub returns : goal.returns
returns g c =
    let centres = rw (to_z-of_z w16 c.args.from c.ranges.from, to_z-of_z w16 c.args.to c.ranges.to) at c.put_centres.ensures in
    line_on _ _ _ _ (codes "ok") (c.args.word.now ∷ c.args.name.now ∷ []) _ c.begin_ok.ensures centres c.end_line.ensures
