-- What is told of a disk on which a fresh journal was to be made.
use Rattle.std.specs.Prelude.{◌≡◌, ⊤, ℕ, ◌<◌, List, [], length, Option, Some, Result, Ok, Err}
use Rattle.eon_model.specs.Disk.{Only}
use Rattle.eon_model.specs.Journal.{journal_of}
use Rattle.plan_journal.specs.declared.fault.InitFault.{InitFault}
use Rattle.plan_journal.specs.declared.fault.InitFault.TheVariants.{NotEmpty, Disk}

-- From these bytes: they were none, and the journal without events is all that there is. Or there were so many, and they
-- stand as they did.
abbrev pub IsMade : {T : Type 0} → List ℕ → List ℕ → Option (List ℕ) → (List ℕ → Type 0) → Result T InitFault → Type 0
IsMade own bytes now images (Ok x) =
    (bytes ≡ []) × (now ≡ Some (journal_of own [])) × Only (journal_of own []) images
IsMade own bytes now images (Err (NotEmpty len)) = (len ≡ length bytes) × (0 < len) × (now ≡ Some bytes)
IsMade own bytes now images (Err Disk) = ⊤

-- this holds where there were bytes
abbrev pub OnNotEmpty : {T : Type 0} → Result T InitFault → Type 0 → Type 0
OnNotEmpty (Ok x) P = ⊤
OnNotEmpty (Err (NotEmpty len)) P = P
OnNotEmpty (Err Disk) P = ⊤
