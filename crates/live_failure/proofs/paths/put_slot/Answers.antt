use Rattle.std.proofs.Common.{w16}
use Rattle.std.proofs.lemmas.Int.{to_z-of_z}
use Rattle.line_writer.proofs.WordLaws.{word_then}
use Rattle.live_failure.proofs.paths.put_slot.Goals as goal

pub returns : goal.returns
returns g c =
    let centre = rw (to_z-of_z w16 c.n.result (record { sfits = c.n.type_inv }), c.n.ensures.value) at c.put_centre.ensures in
    let width = rw c.m.ensures.value at c.put_number.ensures in
    word_then _ _ _ _ _ centre width
