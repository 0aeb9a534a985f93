-- What contracts see of the files, the output and the journal's disk at one moment.
use Rattle.std.specs.Prelude.{◌≡◌, ℕ, List, Option}
use Rattle.eon_disk.specs.Asked.{Asked}
use Rattle.eon_outside.specs.Faults.{Standing}
use Rattle.eon_outside.specs.Reading.{NamedFiles}

-- The files by name, the names that were opened, what is left of the open file, the bytes that were given, and how many
-- calls failed of those that read and of those that write. Files and bytes are None where they are not told.
pub record Outside : Type 0 where
  pub files : Option NamedFiles
  pub opened : List (List ℕ)
  pub left : Option (List ℕ)
  pub given : Option (List ℕ)
  pub read_faults : ℕ
  pub write_faults : ℕ

-- by what a shelf and a sink tell
abbrev pub outside : Option NamedFiles → List (List ℕ) → Option (List ℕ) → ℕ → Option (List ℕ) → Standing → Outside
outside files opened left faults given standing = record {
  files = files;
  opened = opened;
  left = left;
  given = given;
  read_faults = faults;
  write_faults = standing.faults;
}

-- no call failed
abbrev pub NoFault : Outside → Outside → Type 0
NoFault before now = (now.read_faults ≡ before.read_faults) × (now.write_faults ≡ before.write_faults)

-- nothing was opened or read
abbrev pub NotRead : Outside → Outside → Type 0
NotRead before now =
    (now.opened ≡ before.opened) × (now.left ≡ before.left) × (now.read_faults ≡ before.read_faults)

-- The bytes that were given, None where they are not told, and how many writes failed.
pub record Output : Type 0 where
  pub given : Option (List ℕ)
  pub faults : ℕ

-- by what a sink tells
abbrev pub output : Option (List ℕ) → Standing → Output
output given standing = record { given = given; faults = standing.faults }

abbrev pub output_of : Outside → Output
output_of outside = record { given = outside.given; faults = outside.write_faults }

-- The bytes that a read of the disk gives, None where they are not told; all that a crash may leave of them; what was asked
-- for; and how many calls failed.
pub record DiskSeen : Type 1 where
  pub bytes : Option (List ℕ)
  pub images : List ℕ → Type 0
  pub asked : Option Asked
  pub faults : ℕ

-- by what a disk tells
abbrev pub disk_seen : Option (List ℕ) → (List ℕ → Type 0) → Option Asked → ℕ → DiskSeen
disk_seen bytes images asked faults = record { bytes = bytes; images = images; asked = asked; faults = faults }
