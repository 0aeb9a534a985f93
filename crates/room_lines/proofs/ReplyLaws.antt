-- What is answered to a question.
use Rattle.std.proofs.Common.{◌≡◌, refl, sym, ◌∙◌, ap, subst, true, find, Option, Some, None, Ok, Err}
use Rattle.std.specs.Option.{option_map}
use Rattle.eon_model.specs.Names.{Name}
use Rattle.eon_model.specs.Services.{Path, Service, State, is_moving}
use Rattle.eon_model.specs.Legal.{Setup, Legal}
use Rattle.eon_model.specs.NetworkText.{is_setup}
use Rattle.eon_model.specs.Replies.{Reply}
use Rattle.eon_model.specs.RoomCommands.{Question, RoomCommand}
use Rattle.eon_model.specs.RoomAnswers.{fault_of, RoomFor, RepliesFor, RepliesTo}
use Rattle.eon_model.specs.RoomReplies as said
use Rattle.eon_model.proofs.SetupFacts.{setup-facts}
use Rattle.make_room.specs.declared.room.Room.{Room}
use Rattle.make_room.specs.declared.room.Room.TheVariants as room
use Rattle.make_room.specs.Rooms.{first_moving, room_told, IsRoom}
use Rattle.room_lines.specs.declared.reply.RoomReply.{RoomReply}
use Rattle.room_lines.specs.Asking.{IsBlockFor}
use Rattle.room_lines.specs.Replied.{reply_told, TellsRoom}

-- the first service that moves, as it is told
abbrev busy : Option Service → Option Reply
busy o = option_map (λ (s : Service). Reply.Busy s.name) o

abbrev name_in : Option Service → Option Name
name_in o = option_map (λ (s : Service). s.name) o

busy_with : (o : Option Service) (name : Name) → name_in o ≡ Some name → busy o ≡ Some (Reply.Busy name)
busy_with None name h = cc
busy_with (Some s) name h = let same : s.name ≡ name = cc in ap (λ (n : Name). Some (Reply.Busy n)) same

busy_none : (o : Option Service) → name_in o ≡ None → busy o ≡ None
busy_none None h = refl
busy_none (Some s) h = cc

module _ (setup : Setup) (state : State) (q : Question) where
  plain_reply : (o : Option Reply) (r : said.RoomReply) → option_map said.RoomReply.Plain o ≡ Some r →
      RepliesFor setup state q o r
  plain_reply None r h = absurd cc
  plain_reply (Some fault) r h = let same : said.RoomReply.Plain fault ≡ r = cc in sym same

  -- the fault of a question
  pub fault-replied : (r : RoomReply) → IsBlockFor setup q (Err r) → RepliesTo setup state (RoomCommand.Room q) (reply_told r)
  fault-replied r h = plain_reply (fault_of setup state q) (reply_told r) (h (busy (find is_moving state)))

  module _ (ok : is_setup setup ≡ true) (legal : Legal setup state) (block : Path) (asks : IsBlockFor setup q (Ok block)) where
    by_room : (reply : said.RoomReply) → first_moving state ≡ None → RoomFor setup state block reply →
        RepliesTo setup state (RoomCommand.Room q) reply
    by_room reply none h =
        subst (λ (o : Option Reply). RepliesFor setup state q o reply)
        (sym (asks.0 (busy (find is_moving state)) ∙ busy_none (find is_moving state) none))
        (subst (λ (p : Path). RoomFor setup state p reply) asks.1 h)

    told_room : (r : Room) → IsRoom setup.band state block r → RepliesTo setup state (RoomCommand.Room q) (room_told r)
    told_room (room.Busy name) h =
        subst (λ (o : Option Reply). RepliesFor setup state q o (said.RoomReply.Plain (Reply.Busy name)))
        (sym (asks.0 (busy (find is_moving state)) ∙ busy_with (find is_moving state) name h)) refl
    told_room (room.Over name) h = by_room _ h.0 (h.1 setup refl (setup-facts setup ok).band legal)
    told_room (room.At name) h = by_room _ h.0 (h.1 setup refl (setup-facts setup ok).band legal)
    told_room (room.Moves shifts) h = by_room _ h.0 (h.1 setup refl (setup-facts setup ok).band legal)

    -- what becomes of the wish for the block
    pub block-replied : (r : RoomReply) → TellsRoom setup.band state block r →
        RepliesTo setup state (RoomCommand.Room q) (reply_told r)
    block-replied r h = subst (λ (v : said.RoomReply). RepliesTo setup state (RoomCommand.Room q) v) (sym h.2) (told_room h.0 h.1)
