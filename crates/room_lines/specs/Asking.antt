-- Which block is asked for, or what is answered in its place.
use Rattle.std.specs.Prelude.{◌≡◌, ℕ, ℤ, not, find, List, [], ◌∷◌, Option, Some, None, Result, Ok, Err, if◌then◌else◌}
use Rattle.std.specs.Option.{option_map, option_or}
use Rattle.eon_model.specs.declared.Part.TheVariants.{Work}
use Rattle.eon_model.specs.Grid.{Slot, Band, units_of, lies_in_band}
use Rattle.eon_model.specs.Names.{Name}
use Rattle.eon_model.specs.Network.{Network}
use Rattle.eon_model.specs.Route.{Route}
use Rattle.eon_model.specs.Services.{Path}
use Rattle.eon_model.specs.Legal.{Setup, need_of}
use Rattle.eon_model.specs.Replies.{Reply}
use Rattle.eon_model.specs.RoomCommands.{Question}
use Rattle.eon_model.specs.RoomAnswers.{demand_of, block_of}
use Rattle.eon_model.specs.RoomReplies as said
use Rattle.eon_model.specs.Step.{asked, is_node, is_fibre, unknown_in, fault_in, node_numbered, fibres_numbered, walks_between, reaches_end, is_in_band}
use Rattle.net_graph.specs.Walks.{route_from}
use Rattle.room_lines.specs.declared.reply.RoomReply.{RoomReply}
use Rattle.room_lines.specs.declared.reply.RoomReply.TheVariants as reply
use Rattle.room_lines.specs.Replied.{reply_told}

-- ---- names, and the route

-- the first end that is no node, or else the first name that is no fibre
abbrev pub first_unknown : Network → Name → Name → List Name → Option Name
first_unknown net src dst names =
    option_or (find (λ name. not (is_node net name)) (src ∷ dst ∷ [])) (find (λ name. not (is_fibre net name)) names)

-- the route of the fibres, where they are one between the ends
abbrev pub route_asked : Network → Question → Option Route
route_asked net q =
    route_from net (node_numbered net q.src) (node_numbered net q.dst) (fibres_numbered net q.work.fibres)

-- ---- the slot

-- the slot with this centre and width, where it lies in the band
abbrev pub slot_in_band : Band → ℤ → ℕ → Option Slot
slot_in_band band n m =
    let s : Slot = record { n = n; m = m } in if lies_in_band band (units_of s) then Some s else None

-- no format reaches so far, or the slot that the rate needs does not lie in the band
abbrev pub IsFaultAt : Setup → ℕ → ℤ → Route → RoomReply → Type 0
IsFaultAt setup rate n route reply.Reach = need_of setup rate route.km ≡ None
IsFaultAt setup rate n route reply.Band =
    (m : ℕ) × (need_of setup rate route.km ≡ Some m) × (slot_in_band setup.band n m ≡ None)
IsFaultAt setup rate n route _ = ⊥

-- The path on this route with the slot that the rate needs, which lies in the band; or its fault.
abbrev pub IsBlockAt : Setup → ℕ → ℤ → Route → Result Path RoomReply → Type 0
IsBlockAt setup rate n route (Ok path) =
    (m : ℕ) × (need_of setup rate route.km ≡ Some m) × (slot_in_band setup.band n m ≡ Some path.slot) × (path.route ≡ route)
IsBlockAt setup rate n route (Err r) = IsFaultAt setup rate n route r

-- ---- the question

-- the faults that lie in the question, and then another one
abbrev pub fault_before : Setup → Question → Option Reply → Option Reply
fault_before setup q other =
    let net = setup.network in
    let d = demand_of [] q in
    let p = asked net Work q.work in
    option_or (unknown_in (is_node net) (q.src ∷ q.dst ∷ []))
    (option_or (unknown_in (is_fibre net) q.work.fibres)
    (option_or (fault_in Reply.Path (λ p. not (walks_between net d p)) (p ∷ []))
    (option_or (fault_in Reply.Reach (λ p. not (reaches_end setup d p)) (p ∷ []))
    (option_or (fault_in Reply.Band (λ p. not (is_in_band setup d p)) (p ∷ [])) other))))

-- the block that is asked for, or the first fault of the question
abbrev pub IsBlockFor : Setup → Question → Result Path RoomReply → Type 0
IsBlockFor setup q (Ok path) =
    ((other : Option Reply) → fault_before setup q other ≡ other) × (path ≡ block_of setup q)
IsBlockFor setup q (Err r) =
    (other : Option Reply) → option_map said.RoomReply.Plain (fault_before setup q other) ≡ Some (reply_told r)
