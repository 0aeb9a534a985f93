use Rattle.std.proofs.Common.{subst}
use Rattle.eon_model.specs.Legal.{Setup}
use Rattle.make_room.specs.Rooms.{IsRoom}
use Rattle.room_lines.proofs.rooms.block_reply.Goals as goal

pub returns : goal.returns
returns c = (
  c.in_ok-room.room,
  subst (λ (s : Setup). IsRoom s.band c.args.services.now.list c.args.block.now c.in_ok-room.room) c.setup.view_is c.in_ok-room.ensures,
  c.said.ensures,
)
