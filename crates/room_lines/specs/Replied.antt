-- The replies of the code as replies of the planner's definitions.
use Rattle.std.specs.Prelude.{◌≡◌, ℕ, List, [], ◌∷◌, ◌++◌, codes, length, map}
use Rattle.std.specs.Fmt.{decimal}
use Rattle.std.specs.List.{flat_map}
use Rattle.eon_model.specs.declared.Part.TheVariants.{Work}
use Rattle.eon_model.specs.Grid.{Band}
use Rattle.eon_model.specs.Replies.{Reply}
use Rattle.eon_model.specs.ReplyText.{word_line}
use Rattle.eon_model.specs.RoomReplies as said
use Rattle.eon_model.specs.Spelling.{line}
use Rattle.eon_model.specs.Services.{Path, State}
use Rattle.make_room.specs.declared.room.Room.{Room}
use Rattle.make_room.specs.Rooms.{room_told, IsRoom}
use Rattle.make_room.specs.Shifts.{shift_told}
use Rattle.room_lines.specs.declared.reply.RoomReply.{RoomReply}
use Rattle.room_lines.specs.declared.reply.RoomReply.TheVariants as reply

-- the reply that it is
abbrev pub reply_told : RoomReply → said.RoomReply
reply_told (reply.Line at) = said.RoomReply.Plain (Reply.Line at)
reply_told (reply.Unknown name) = said.RoomReply.Plain (Reply.Unknown name)
reply_told reply.Path = said.RoomReply.Plain (Reply.Path Work)
reply_told reply.Reach = said.RoomReply.Plain (Reply.Reach Work)
reply_told reply.Band = said.RoomReply.Plain (Reply.Band Work)
reply_told (reply.Busy name) = said.RoomReply.Plain (Reply.Busy name)
reply_told (reply.Over name) = said.RoomReply.Over name
reply_told (reply.At name) = said.RoomReply.At name
reply_told (reply.Moves shifts) = said.RoomReply.Moves (map shift_told shifts.list.items)
reply_told reply.Memory = said.RoomReply.Plain Reply.Memory
reply_told reply.Bye = said.RoomReply.Plain Reply.Bye

-- it is what becomes of the wish for the block
abbrev pub TellsRoom : Band → State → Path → RoomReply → Type 0
TellsRoom band state block r = (room : Room) × IsRoom band state block room × (reply_told r ≡ room_told room)

-- the bytes of a reply, which reads the same whatever the services are
abbrev pub text_of : RoomReply → List ℕ
text_of (reply.Line at) = word_line (codes "line") (decimal at)
text_of (reply.Unknown name) = word_line (codes "unknown") name
text_of reply.Path = word_line (codes "path") (codes "work")
text_of reply.Reach = word_line (codes "reach") (codes "work")
text_of reply.Band = word_line (codes "band") (codes "work")
text_of (reply.Busy name) = word_line (codes "busy") name
text_of (reply.Over name) = line (codes "noroom" ∷ codes "over" ∷ name ∷ [])
text_of (reply.At name) = line (codes "noroom" ∷ codes "at" ∷ name ∷ [])
text_of (reply.Moves shifts) =
    word_line (codes "room") (decimal (length (map shift_told shifts.list.items)))
    ++ flat_map said.shift_line (map shift_told shifts.list.items)
text_of reply.Memory = line (codes "memory" ∷ [])
text_of reply.Bye = line (codes "bye" ∷ [])
