-- What was printed of a text.
use Rattle.std.specs.Prelude.{◌≡◌, ℕ, Bool, true, false, List, [], Option, None, if◌then◌else◌}
use Rattle.std.specs.Io.KnownBytes.{Appends}
use Rattle.eon_outside.specs.Faults.{Standing, with_fault}
use Rattle.eon_outside.specs.Writing.{AppendsPart}

-- Which reference the text is printed behind, how many bytes stood there before it, the bytes given, where they are
-- told, the standing of what they are given to, and whether it stopped.
pub record Sent : Type 0 where
  pub place : ℕ
  pub begins : ℕ
  pub given : Option (List ℕ)
  pub standing : Standing
  pub stopped : Bool

abbrev pub sent_by : ℕ → ℕ → Option (List ℕ) → Standing → Bool → Sent
sent_by place begins given standing stopped =
    record { place = place; begins = begins; given = given; standing = standing; stopped = stopped }

-- memory that ran out, or did not: a fault that is counted once
abbrev pub memory_standing : Bool → Standing
memory_standing stopped = record { faults = if stopped then 1 else 0; room = None; through = [] }

-- these bytes were given
pub record Took (a b : Sent) (bytes : List ℕ) : Type 0 where
  pub given : Appends a.given b.given bytes
  pub stands : b.standing ≡ a.standing

-- a call failed, and a proper front of these bytes was given
pub record Stopped (a b : Sent) (bytes : List ℕ) : Type 0 where
  pub part : AppendsPart a.given b.given bytes
  pub stands : b.standing ≡ with_fault a.standing

-- whether it had stopped before and now: once it has, nothing is given any more
abbrev pub TakesUnless : Bool → Bool → Sent → Sent → List ℕ → Type 0
TakesUnless false false a b bytes = Took a b bytes
TakesUnless false true a b bytes = Stopped a b bytes
TakesUnless true false a b bytes = ⊥
TakesUnless true true a b bytes = (b.given ≡ a.given) × (b.standing ≡ a.standing)

-- the same text took these bytes, unless it stopped
pub record Takes (a b : Sent) (bytes : List ℕ) : Type 0 where
  pub place : b.place ≡ a.place
  pub begins : b.begins ≡ a.begins
  pub taken : TakesUnless a.stopped b.stopped a b bytes
