use Rattle.std.proofs.Common.{w16}
use Rattle.std.proofs.lemmas.Int.{to_z-of_z}
use Rattle.line_writer.proofs.WordLaws.{word_then}
use Rattle.reply_text.proofs.words.put_centres.Goals as goal

pub returns : goal.returns
returns g c =
    let from = rw (to_z-of_z w16 c.args.from c.ranges.from) at c.put_centre.ensures in
    let to = rw (to_z-of_z w16 c.args.to c.ranges.to) at c.put_centre-2.ensures in
    word_then _ _ _ _ _ from to
