-- The count of a disk's faults after a call of the journal, which ends at its first fault.
use Rattle.std.specs.Prelude.{ℕ, Bool, true, false, Result, Ok, Err, if◌then◌else◌}
use Rattle.eon_outside.specs.Faults.{counted}
use Rattle.plan_journal.specs.declared.fault.InitFault.{InitFault}
use Rattle.plan_journal.specs.declared.fault.AppendFault.{AppendFault}
use Rattle.plan_journal.specs.declared.fault.OpenFault.{OpenFault}
use Rattle.plan_journal.specs.declared.fault.NextFault.{NextFault}
use Rattle.plan_journal.specs.declared.fault.InitFault.TheVariants as init
use Rattle.plan_journal.specs.declared.fault.OpenFault.TheVariants as open_fault
use Rattle.plan_journal.specs.declared.fault.NextFault.TheVariants as next
use Rattle.plan_journal.specs.declared.fault.AppendFault.TheVariants as append

-- one more where the disk failed, and as before else
abbrev pub counted_if : Bool → ℕ → ℕ
counted_if is_disk n = if is_disk then counted n else n

abbrev pub init_failed : {T : Type 0} → Result T InitFault → Bool
init_failed (Err init.Disk) = true
init_failed (Err (init.NotEmpty len)) = false
init_failed (Ok x) = false

abbrev pub append_failed : {T : Type 0} → Result T AppendFault → Bool
append_failed (Err append.Disk) = true
append_failed (Err (append.Full need left)) = false
append_failed (Ok x) = false

abbrev pub open_failed : {T : Type 0} → Result T OpenFault → Bool
open_failed (Err open_fault.Disk) = true
open_failed (Err (open_fault.BadHead at)) = false
open_failed (Err (open_fault.Other kept own)) = false
open_failed (Ok x) = false

abbrev pub next_failed : {T : Type 0} → Result T NextFault → Bool
next_failed (Err next.Disk) = true
next_failed (Err (next.BadRecord at)) = false
next_failed (Ok x) = false
