-- What becomes of the wish for a block.
use Rattle.std.specs.Prelude.{◌≡◌, ℕ, ◌≤◌, All, Bool, ◌&&◌, not, List, length, map, find, Option, Some, None, IsTrue}
use Rattle.std.specs.Option.{option_map}
use Rattle.eon_model.specs.Grid.{Band, is_band}
use Rattle.eon_model.specs.Names.{Name}
use Rattle.eon_model.specs.Route.{share_fibre}
use Rattle.eon_model.specs.Services.{Path, State, is_moving}
use Rattle.eon_model.specs.Legal.{Setup, Legal}
use Rattle.eon_model.specs.Places.{AtRest}
use Rattle.eon_model.specs.Replies.{Reply}
use Rattle.eon_model.specs.Room.{first_over}
use Rattle.eon_model.specs.RoomAnswers.{RoomFor}
use Rattle.eon_model.specs.RoomReplies.{RoomReply}
use Rattle.make_room.specs.declared.heights.Side.TheVariants.{Floor, Ceiling}
use Rattle.make_room.specs.declared.room.Room.{Room}
use Rattle.make_room.specs.declared.room.Room.TheVariants as room
use Rattle.make_room.specs.declared.targets.Targets.{Targets}
use Rattle.make_room.specs.Shifts.{shift_told}
use Rattle.make_room.specs.Sides.{ends_so}

-- it shares a fibre with the block, and can be neither below nor above it
abbrev pub stuck_so : Path → Path → ℕ → ℕ → Bool
stuck_so block path low high =
    share_fibre path.route block.route && not (ends_so Floor block path low) && not (ends_so Ceiling block path high)

-- a height in the grid for each service
pub record AreHeights (state : State) (heights : List ℕ) : Type 0 where
  pub long : length heights ≡ length state
  pub small : All (λ h. h ≤ 8192) heights

-- so for each list
pub record AreAllHeights (state : State) (t : Targets) : Type 0 where
  pub lows : AreHeights state t.lows.items
  pub highs : AreHeights state t.highs.items
  pub downs : AreHeights state t.downs.items
  pub ups : AreHeights state t.ups.items

-- the name of the first service that moves
abbrev pub first_moving : State → Option Name
first_moving state = option_map (λ s. s.name) (find is_moving state)

-- the reply that it is
abbrev pub room_told : Room → RoomReply
room_told (room.Busy name) = RoomReply.Plain (Reply.Busy name)
room_told (room.Over name) = RoomReply.Over name
room_told (room.At name) = RoomReply.At name
room_told (room.Moves shifts) = RoomReply.Moves (map shift_told shifts.list.items)

-- it is the reply for the block, on whatever network of this band
abbrev pub IsRoomFor : Band → State → Path → Room → Type 0
IsRoomFor band state block r =
    (setup : Setup) → setup.band ≡ band → IsTrue (is_band band) → Legal setup state → RoomFor setup state block (room_told r)

-- where nothing moves, and no backup lies over the block
abbrev pub IsClearedFor : Band → State → Path → Room → Type 0
IsClearedFor band state block r = AtRest state → first_over block state ≡ None → IsRoomFor band state block r

-- then it is the channel that can be neither below nor above the block, or the moves
abbrev pub IsRoomBeside : Band → State → Path → Room → Type 0
IsRoomBeside band state block (room.Busy name) = ⊥
IsRoomBeside band state block (room.Over name) = ⊥
IsRoomBeside band state block (room.At name) = IsClearedFor band state block (room.At name)
IsRoomBeside band state block (room.Moves shifts) = IsClearedFor band state block (room.Moves shifts)

-- busy with the first service that moves, or else the reply for the block
abbrev pub IsRoom : Band → State → Path → Room → Type 0
IsRoom band state block (room.Busy name) = first_moving state ≡ Some name
IsRoom band state block (room.Over name) = (first_moving state ≡ None) × IsRoomFor band state block (room.Over name)
IsRoom band state block (room.At name) = (first_moving state ≡ None) × IsRoomFor band state block (room.At name)
IsRoom band state block (room.Moves shifts) = (first_moving state ≡ None) × IsRoomFor band state block (room.Moves shifts)
