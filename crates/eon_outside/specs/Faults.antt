-- Counts of faults. Each object outside keeps one: a call that fails raises it by one, every other call leaves it.
use Rattle.std.specs.Prelude.{◌≡◌, ℕ, ◌+◌, ◌-◌, ◌^◌, ◌<◌, ◌≤◌, min, List, length, Option, IfSome, Result, Ok, Err}

-- one more, up to the count's last value, where a count stays
abbrev pub counted : ℕ → ℕ
counted n = min (n + 1) (2 ^ 64 - 1)

-- the count after a call: one more where the call failed, and as before where it did not
abbrev pub Counts : {T E : Type 0} → ℕ → ℕ → Result T E → Type 0
Counts before now (Ok _) = now ≡ before
Counts before now (Err _) = now ≡ counted before

-- What a sink says of itself, of which calls change the count alone. `room` says for how many bytes in all it is sure to
-- have room: none of its calls fails before so many were given. Where it is not sure, `room` is None. `through` are the
-- references that it has: to the sinks below it, and to the bytes that it holds back.
pub record Standing : Type 0 where
  pub faults : ℕ
  pub room : Option ℕ
  pub through : List ℕ

-- with one more fault
abbrev pub with_fault : Standing → Standing
with_fault standing = record standing { faults = counted standing.faults }

-- the standing after a call: one more fault where the call failed, and as before where it did not
abbrev pub Stands : {T E : Type 0} → Standing → Standing → Result T E → Type 0
Stands before now (Ok _) = now ≡ before
Stands before now (Err _) = now ≡ with_fault before

-- where there was a fault, as many bytes were given as there is room for
abbrev pub IsSure : Standing → Option (List ℕ) → Type 0
IsSure standing given = IfSome standing.room (λ room. 0 < standing.faults → IfSome given (λ bytes. room ≤ length bytes))
