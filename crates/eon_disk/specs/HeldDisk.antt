-- What contracts see of a disk that is held in memory.
use Rattle.std.specs.Prelude.{ℕ, ◌+◌, ◌-◌, nat_le, nat_lt, Bool, true, false, ◌&&◌, ◌||◌, not, List, length, Option, Some, if◌then◌else◌}
use Rattle.std.specs.Option.{option_map_or}
use Rattle.eon_outside.specs.Faults.{counted}
use Rattle.eon_outside.specs.Memory.{CallPlan, is_due, after_call}
use Rattle.eon_disk.specs.Asked.{Asked}
use Rattle.eon_disk.specs.HeldBytes.{HeldBytes, with_piece}

-- Its bytes, the room that is left for calls, which calls fail, and what it was asked to attach.
pub record HeldDisk : Type 0 where
  pub held : HeldBytes
  pub room : ℕ
  pub plan : CallPlan
  pub stop : Option ℕ
  pub asked : Option Asked

-- whether the next call comes at the stop or later
abbrev pub is_stopped : HeldDisk → Bool
is_stopped disk = option_map_or (λ stop. nat_le stop (counted disk.plan.calls)) disk.stop false

-- whether it comes later than the stop
abbrev pub is_past_stop : HeldDisk → Bool
is_past_stop disk = option_map_or (λ stop. nat_lt stop (counted disk.plan.calls)) disk.stop false

-- whether the next call fails that needs this much room
abbrev pub fails : HeldDisk → ℕ → Bool
fails disk needs = is_due disk.plan || is_stopped disk || nat_lt disk.room needs

-- whether the next write takes place, also where it fails at the stop
abbrev pub takes_place : HeldDisk → ℕ → Bool
takes_place disk needs = not (is_due disk.plan) && not (is_past_stop disk) && nat_le needs disk.room

-- what a write of this piece needs
abbrev pub room_for_write : List ℕ → ℕ
room_for_write piece = 64 + length piece

-- after a call that has this answer, and nothing else
abbrev pub after_no_change : Bool → HeldDisk → HeldDisk
after_no_change is_fault disk = record disk { plan = after_call disk.plan is_fault }

-- after a call that took this much room, and left these bytes
abbrev pub after_change : Bool → ℕ → HeldBytes → HeldDisk → HeldDisk
after_change is_fault needs held disk =
    record disk { held = held; room = disk.room - needs; plan = after_call disk.plan is_fault }

-- after a write
abbrev pub after_write_call : Bool → ℕ → List ℕ → HeldDisk → HeldDisk
after_write_call is_fault at piece disk =
    let needs = room_for_write piece in
    if takes_place disk needs then after_change is_fault needs (with_piece at piece disk.held) disk
    else after_no_change is_fault disk

-- after a cut or a sync, which leaves these bytes where it does not fail
abbrev pub after_step_call : Bool → HeldBytes → HeldDisk → HeldDisk
after_step_call is_fault held disk =
    if is_fault then after_no_change true disk else after_change false 64 held disk

-- after a request to attach
abbrev pub after_attach : Bool → Asked → HeldDisk → HeldDisk
after_attach is_fault asked disk = record (after_no_change is_fault disk) { asked = Some asked }
