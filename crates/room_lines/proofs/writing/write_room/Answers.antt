use Rattle.room_lines.proofs.TextLaws.{told_whole, told_part}
use Rattle.room_lines.proofs.writing.write_room.Goals as goal

pub returns-clause-bytes : goal.returns-clause-bytes
returns-clause-bytes g c = told_whole c.write_text.result _ _ c.args.r.now c.write_text.ensures.bytes

pub returns-clause-part : goal.returns-clause-part
returns-clause-part g c = told_part c.write_text.result _ _ c.args.r.now c.write_text.ensures.part
