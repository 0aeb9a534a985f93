-- How a move is judged in the state that the moves before it have led to.
use Rattle.std.specs.Prelude.{ℕ, nat_lt, Bool, ◌&&◌, not, List, map, slice_get, Option, Some, None}
use Rattle.std.specs.Bool.{then_some}
use Rattle.std.specs.Option.{option_or, option_map_or}
use Rattle.std.specs.List.{list_any}
use Rattle.std.specs.Ordering.{int_eq}
use Rattle.eon_model.specs.Names.{same_name}
use Rattle.eon_model.specs.Services.{Service, State, service_of}
use Rattle.eon_model.specs.Legal.{Setup}
use Rattle.eon_model.specs.Changes.{with_leg, drifting_to, standing_at}
use Rattle.eon_model.specs.Plan.{Move}
use Rattle.eon_model.specs.Replies.{Reply}
use Rattle.eon_model.specs.Step.{Outcome, Say, push}
use Rattle.eon_model.specs.PlanCheck.{Bad, Unknown, Twice, From, Same, Band, Clash, move_of}

-- why a push is refused, where it leaves the band or is not clear
abbrev pub refused_by : Reply → Option Bad
refused_by (Reply.Band part) = Some Band
refused_by (Reply.Clash other) = Some (Clash other)
refused_by _ = None

abbrev pub refusal_of : Outcome → Option Bad
refusal_of (Say reply) = refused_by reply
refusal_of _ = None

-- why the move of this service is bad, by what its push comes to
abbrev pub bad_seen : Setup → State → List Move → Move → Option Service → Option Bad
bad_seen setup now earlier m None = Some Unknown
bad_seen setup now earlier m (Some s) =
    option_or (then_some (list_any (λ o. same_name o.name m.name) earlier) Twice)
    (option_or (then_some (not (int_eq m.from s.leg.work.slot.n)) From)
    (option_or (then_some (int_eq m.to m.from) Same) (refusal_of (push setup now m.name m.to))))

-- why the move is bad, in this state
abbrev pub bad_now : Setup → State → List Move → Move → Option Bad
bad_now setup now earlier m = bad_seen setup now earlier m (service_of now m.name)

-- the batch of the move at this place
abbrev pub batch_at : List Move → ℕ → ℕ
batch_at moves i = option_map_or (λ m. m.batch) (slice_get moves i) 0

-- whether the first move that has not landed comes before this one, in a lower batch
abbrev pub is_due : List Move → ℕ → ℕ → Bool
is_due moves landed at = nat_lt landed at && nat_lt (batch_at moves landed) (batch_at moves at)

-- ---- the state

-- the service after its move: landed, or under way, or as it was
abbrev pub after_move : Option Move → Option Move → Service → Service
after_move (Some m) drifting s = with_leg (standing_at m.to) s
after_move None (Some m) s = with_leg (drifting_to m.to) s
after_move None None s = s

-- the state with these moves landed and those under way
abbrev pub state_with : List Move → List Move → State → State
state_with landed drifting state =
    map (λ s. after_move (move_of landed s.name) (move_of drifting s.name) s) state
