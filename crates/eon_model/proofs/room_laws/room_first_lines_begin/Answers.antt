use Rattle.eon_model.proofs.RoomStreamLaws.{room-first_lines}
use Rattle.eon_model.proofs.room_laws.room_first_lines_begin.Goals as goal

pub returns : goal.returns
returns c = room-first_lines
