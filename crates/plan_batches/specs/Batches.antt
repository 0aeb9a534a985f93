-- Moves in their least batches.
use Rattle.std.specs.Prelude.{◌≡◌, ℕ, ◌+◌, ◌^◌, ◌<◌, All, List, map, set, fold, slice_get, length, Option, Some, None, is_some, IsTrue}
use Rattle.std.specs.List.{list_all, AllZip, Contains}
use Rattle.std.specs.Option.{option_map}
use Rattle.eon_model.specs.Names.{Name}
use Rattle.eon_model.specs.Lists.{IsAmong}
use Rattle.eon_model.specs.Services.{Service, State, service_of}
use Rattle.eon_model.specs.Legal.{Setup, Legal}
use Rattle.eon_model.specs.Places.{AtRest}
use Rattle.eon_model.specs.Plan as plan
use Rattle.eon_model.specs.Plan.{has_least_batch, waited_for, name_of, IsPlan}
use Rattle.compact_plan.specs.declared.answers.Move.{Move}
use Rattle.compact_plan.specs.Told.{AreTargets}
use Rattle.std.specs.declared.alloc.Global.{Global}
use Rattle.std.specs.Prelude.{Vec}
use Rattle.plan_batches.specs.declared.mover.Mover.{Mover}
use Rattle.plan_batches.specs.declared.turn.Turn.{Turn}
use Rattle.plan_batches.specs.Awaited.{awaited}
use Rattle.plan_batches.specs.Movers.{IsMover}
use Rattle.plan_batches.specs.Rows.{row, turns_on, GainsOn}

-- ---- what is promised

-- each move is that of a live service
abbrev pub AreLive : State → List Move → Type 0
AreLive state moves = All (λ m. IsTrue (is_some (service_of state m.name))) moves

-- where these are the targets of a legal state at rest, the plan is the one of that state
abbrev pub MakesPlan : State → List plan.Move → plan.Plan → Type 0
MakesPlan state targets p =
    (setup : Setup) → Legal setup state → AtRest state → AreTargets setup state targets → IsPlan setup state p

-- ---- on the way

-- the mover is the channel of a service, and stands at the place of its move
pub record IsMoverOf (state : State) (moves : List Move) (m : Mover) : Type 0 where
  pub move : Move
  pub there : slice_get moves m.place ≡ Some move
  pub service : Service
  pub found : service_of state move.name ≡ Some service
  pub mover : IsMover service move.to m

-- the channels of all moves
pub record AreMovers (state : State) (moves : List Move) (movers : List Mover) : Type 0 where
  pub only : All (IsMoverOf state moves) movers
  pub all : (p : ℕ) → p < length moves → (m : Mover) × Contains movers m × (m.place ≡ p)

-- the batch after that of the move that is waited for, and 1 for none
abbrev pub batch_after : Option Turn → ℕ
batch_after None = 1
batch_after (Some t) = t.batch + 1

-- the move with its batch, and with the name of the one that it waits for
abbrev pub move_given : Move → Option Turn → Move
move_given m first = record m { batch = batch_after first; after = option_map (λ t. t.name) first }

-- the mover has its batch
abbrev pub turn_given : Mover → Name → Option Turn → Turn
turn_given m name first = record { place = m.place; name = name; batch = batch_after first; end = m.end }

-- what the mover waits for, of the moves on the fibres of the service
abbrev pub first_for : List (Vec Turn Global) → Mover → Service → Option Turn
first_for rows m s = fold (awaited m) None (turns_on rows s.leg.work.route.fibres)

-- the batches on the rows can be counted on
abbrev pub AreFew : List (Vec Turn Global) → Type 0
AreFew rows = (fibre : ℕ) (t : Turn) → IsAmong t (row rows fibre) → t.batch + 1 < 2 ^ 64

-- the mover has its batch, and stands on its fibres
pub record GivesTurn (state : State) (rows rows' : List (Vec Turn Global)) (moves moves' : List Move)
    (m : Mover) : Type 0 where
  pub move : Move
  pub there : slice_get moves m.place ≡ Some move
  pub service : Service
  pub found : service_of state move.name ≡ Some service
  pub is : moves' ≡ set moves m.place (move_given move (first_for rows m service))
  pub gains : GainsOn rows rows' service.leg.work.route.fibres (turn_given m move.name (first_for rows m service))

-- the move without its batch
abbrev pub bare : Move → Move
bare m = record m { batch = 1; after = None }

-- the turn is that of this move
pub record IsTurnOf (state : State) (u : plan.Turn) (m : Move) : Type 0 where
  pub found : service_of state m.name ≡ Some u.channel.service
  pub name : m.name ≡ name_of u
  pub to : m.to ≡ u.channel.target

-- the turns are those of these moves, each with its least batch
pub record AreTurnsOf (state : State) (moves : List Move) (turns : List plan.Turn) : Type 0 where
  pub each : AllZip (IsTurnOf state) turns moves
  pub least : IsTrue (list_all (has_least_batch turns) turns)

-- the move is told in the batch of its turn, after the one that this names
pub record IsGiven (turns : List plan.Turn) (u : plan.Turn) (m : Move) : Type 0 where
  pub batch : m.batch ≡ u.batch
  pub after : m.after ≡ waited_for turns u

-- nothing but batches is new, and whatever turns have least batches, the moves have those
pub record AreGiven (state : State) (old new : List Move) : Type 0 where
  pub same : map bare new ≡ map bare old
  pub given : (turns : List plan.Turn) → AreTurnsOf state old turns → AllZip (IsGiven turns) turns new
