use Rattle.line_writer.proofs.WordLaws.{line_taken, word_then}
use Rattle.reply_text.proofs.listing.put_route.Goals as goal

pub returns : goal.returns
returns g c =
    let km = rw c.km-km.ensures at c.put_number-2.ensures in
    let format = rw c.km-km.ensures at c.put_format.ensures in
    let fibres = rw c.fibres.ensures at c.put_fibres.ensures in
    rw (← c.setup.view_is) (line_taken _ _ _ _ _ _ c.put.ensures
    (word_then _ _ _ _ _ c.put_number.ensures (word_then _ _ _ _ _ km (word_then _ _ _ _ _ format fibres)))
    c.end_line.ensures)
