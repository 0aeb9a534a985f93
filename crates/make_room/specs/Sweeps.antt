-- What a sweep over all channels leaves.
use Rattle.std.specs.Prelude.{◌≡◌, ℕ, ◌+◌, ◌-◌, ◌<◌, ◌≤◌, ℤ, Bool, List, [], ◌∷◌, length, max, slice_get, slice_index_or, Some, if◌then◌else◌}
use Rattle.eon_model.specs.Grid.{Units, Band, units_of}
use Rattle.eon_model.specs.Services.{Service, State}
use Rattle.make_room.specs.declared.heights.Side.{Side}
use Rattle.make_room.specs.Heights.{begin_of, end_of, base_of, backup_end_of, IsMaxTo, centre_from}
use Rattle.make_room.specs.Settling.{HasSettled}

-- A number for each of the first n services, in list order.
pub record IsEach (P : ℕ → Service → ℕ → Type 0) (state : State) (n : ℕ) (xs : List ℕ) : Type 0 where
  pub count : length xs ≡ n
  pub each : (j : ℕ) (s : Service) → j < n → slice_get state j ≡ Some s → P j s (slice_index_or xs j 0)

-- where the channel of the service begins
abbrev pub Begins : Side → Service → ℕ → Type 0
Begins from s x = (x ≡ begin_of from (units_of s.leg.work.slot)) × (x ≤ 8192)

-- the least height at which it may begin
abbrev pub BeginsLeast : Side → Band → State → Service → ℕ → Type 0
BeginsLeast from band state s x =
    IsMaxTo (backup_end_of from s.leg.work) state (base_of from band s.leg.work) (length state) x

-- All channels settled at their least heights.
pub record SettlesLeast (from : Side) (band : Band) (state : State) (settled : List ℕ) : Type 0 where
  pub starts : List ℕ
  pub starts_are : IsEach (λ j. Begins from) state (length state) starts
  pub limits : List ℕ
  pub limits_are : IsEach (λ j. BeginsLeast from band state) state (length state) limits
  pub settles : HasSettled state starts limits starts settled

-- the centres of the channels at these heights
abbrev pub centres_from : Side → State → List ℕ → List ℤ
centres_from from [] ts = []
centres_from from (s ∷ state) [] = []
centres_from from (s ∷ state) (t ∷ ts) = centre_from from s.leg.work.slot.m t ∷ centres_from from state ts

-- its own height, and behind the block where it goes beyond it
abbrev pub clear_begin : Side → Units → Bool → Service → ℕ
clear_begin from block goes s =
    if goes then max (begin_of from (units_of s.leg.work.slot)) (end_of from block)
    else begin_of from (units_of s.leg.work.slot)

-- how far a channel may go that is at its least height from the other side
abbrev pub bound_of : Service → ℕ → ℕ
bound_of s t = 8192 - (t + (s.leg.work.slot.m + s.leg.work.slot.m))

-- where it may begin at the least, by whether it goes beyond the block
abbrev pub BeginsClear : Side → Units → (ℕ → Service → Bool) → ℕ → Service → ℕ → Type 0
BeginsClear from block goes j s x = x ≡ clear_begin from block (goes j s) s

-- where it may begin at the most
abbrev pub BeginsWithin : List ℕ → ℕ → Service → ℕ → Type 0
BeginsWithin bounds j s x = (x ≡ bound_of s (slice_index_or bounds j 0)) × (x ≤ 8192)

-- All channels settled as near to their own heights as the block lets them, no further than their bounds.
pub record SettlesClear (from : Side) (state : State) (block : Units) (goes : ℕ → Service → Bool) (bounds settled : List ℕ)
    : Type 0 where
  pub starts : List ℕ
  pub starts_are : IsEach (λ j. Begins from) state (length state) starts
  pub limits : List ℕ
  pub limits_are : IsEach (BeginsClear from block goes) state (length state) limits
  pub caps : List ℕ
  pub caps_are : IsEach (BeginsWithin bounds) state (length state) caps
  pub settles : HasSettled state starts limits caps settled
