-- What a function answers is what reading answers.
use Rattle.std.specs.Prelude.{◌≡◌, ℕ, List, Result, Ok, Err}
use Rattle.eon_model.specs.EventFault as told
use Rattle.journal_record.specs.declared.fault.EventFault.{EventFault}
use Rattle.journal_record.specs.declared.fault.EventFault.TheVariants as fault
use Rattle.journal_record.specs.Reading.{Read}

-- the fault that it is
abbrev pub fault_told : EventFault → told.EventFault
fault_told fault.Short = told.EventFault.Short
fault_told fault.Kind = told.EventFault.Kind
fault_told (fault.Field at) = told.EventFault.FieldAt at
fault_told fault.Rest = told.EventFault.Rest

abbrev pub Gives : {X Y : Type 0} → (X → Y) → Result X EventFault → Result Y told.EventFault → Type 0
Gives view (Ok x) read = read ≡ Ok (view x)
Gives view (Err e) read = read ≡ Err (fault_told e)

-- the same, where the offset and the bytes behind the value are these
abbrev pub Leaves : {X Y : Type 0} → (X → Y) → Result X EventFault → ℕ → List ℕ → Read Y → Type 0
Leaves view (Ok x) at rest read = read ≡ Ok (view x, (at, rest))
Leaves view (Err e) at rest read = read ≡ Err (fault_told e)
