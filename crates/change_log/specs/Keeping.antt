-- What is told of a log that was to keep an event.
use Rattle.std.specs.Prelude.{◌≡◌, ℕ, ◌<◌, ◌≤◌, Bool, true, false, Option, None, Some, IfSome, Result, Ok, Err}
use Rattle.eon_model.specs.Events.{Event}
use Rattle.change_log.specs.declared.log.Unkept.{Unkept}
use Rattle.change_log.specs.declared.log.Unkept.TheVariants.{Full, Disk}

-- It is full exactly where the event takes more bytes than are left. Where nothing is counted, nothing is refused and
-- nothing fails.
abbrev pub TellsRoom : {T : Type 0} → Option ℕ → ℕ → Result T Unkept → Type 0
TellsRoom left need (Ok x) = IfSome left (λ bytes. need ≤ bytes)
TellsRoom left need (Err (Full n l)) = (left ≡ Some l) × (n ≡ need) × (l < need)
TellsRoom left need (Err Disk) = (bytes : ℕ) × (left ≡ Some bytes) × (need ≤ bytes)

-- the event, where it was kept
abbrev pub kept_by : {T : Type 0} → Event → Result T Unkept → Option Event
kept_by e (Ok x) = Some e
kept_by e (Err (Full need left)) = None
kept_by e (Err Disk) = None

-- the event, where it may be kept or not
abbrev pub doubt_by : {T : Type 0} → Event → Result T Unkept → Option Event
doubt_by e (Ok x) = None
doubt_by e (Err (Full need left)) = None
doubt_by e (Err Disk) = Some e

-- whether a call of the disk failed
abbrev pub keep_failed : {T : Type 0} → Result T Unkept → Bool
keep_failed (Ok x) = false
keep_failed (Err (Full need left)) = false
keep_failed (Err Disk) = true
