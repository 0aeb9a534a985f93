use Rattle.line_writer.proofs.WordLaws.{word_then}
use Rattle.live_failure.proofs.paths.put_path.Goals as goal

pub returns : goal.returns
returns g c =
    let fibres = rw c.fibres.ensures at c.put_fibres.ensures in
    rw (← c.path.view_is) (word_then _ _ _ _ _ fibres c.put_slot.ensures)
