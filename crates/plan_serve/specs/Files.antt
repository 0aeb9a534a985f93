-- What the files say, where they are told.
use Rattle.std.specs.Prelude.{◌≡◌, ℕ, ◌<◌, ◌≤◌, ⊤, List, length, Option, Some, None, Result, Ok, Err}
use Rattle.eon_model.specs.Legal.{Setup}
use Rattle.eon_model.specs.NetworkText.{IsNetworkTextOf}
use Rattle.eon_model.specs.NetworkFault.{Why, network_fault}
use Rattle.eon_model.specs.Modes.{network_limit}
use Rattle.file_digest.specs.Digest.{digest}
use Rattle.net_file.specs.Told.{why_told}
use Rattle.plan_serve.specs.declared.network.BoundNetwork.{BoundNetwork}
use Rattle.plan_serve.specs.declared.status.Status.{Status}
use Rattle.plan_serve.specs.declared.status.Status.TheVariants.{NetRefused, NetLong, ReadFault, Memory}
use Rattle.eon_outside.specs.Faults.{counted}
use Rattle.eon_outside.specs.Reading.{NamedFiles}
use Rattle.eon_outside.specs.WholeFile.{IsFile}

-- these bytes are still to come of the open file
abbrev pub IsLeft : Option (List ℕ) → List ℕ → Type 0
IsLeft None rest = ⊤
IsLeft (Some left) rest = left ≡ rest

-- the bytes are the text of this setup, and not too long
pub record IsAcceptedText (bytes : List ℕ) (setup : Setup) : Type 0 where
  pub short : length bytes ≤ network_limit
  pub text : IsNetworkTextOf bytes setup

-- the file of this name is the text of this setup
abbrev pub IsAcceptedFile : Option NamedFiles → List ℕ → Setup → Type 0
IsAcceptedFile files name setup = (bytes : List ℕ) × IsFile files name bytes × IsAcceptedText bytes setup

-- the first fault of the file of this name
pub record IsRefusedFile (files : Option NamedFiles) (name : List ℕ) (number : ℕ) (why : Why) : Type 0 where
  pub bytes : List ℕ
  pub told : IsFile files name bytes
  pub short : length bytes ≤ network_limit
  pub fault : network_fault bytes ≡ Some (number, why)
  pub no_text : (setup : Setup) → ¬ IsNetworkTextOf bytes setup

-- the file of this name is too long
abbrev pub IsLongFile : Option NamedFiles → List ℕ → Type 0
IsLongFile files name = (bytes : List ℕ) × IsFile files name bytes × (network_limit < length bytes)

-- the file of this name is the text of this setup, and has this digest
pub record IsDigestedFile (files : Option NamedFiles) (name : List ℕ) (setup : Setup) (own : List ℕ) : Type 0 where
  pub bytes : List ℕ
  pub told : IsFile files name bytes
  pub accepted : IsAcceptedText bytes setup
  pub digested : own ≡ digest bytes

-- why the network of this name is not read, and the count of faults before and after
abbrev pub IsNotRead : Option NamedFiles → List ℕ → ℕ → ℕ → Status → Type 0
IsNotRead files name before now (NetRefused number why) =
    (now ≡ before) × IsRefusedFile files name number (why_told why)
IsNotRead files name before now NetLong = (now ≡ before) × IsLongFile files name
IsNotRead files name before now Memory = now ≡ before
IsNotRead files name before now ReadFault = now ≡ counted before
IsNotRead files name before now _ = ⊥

-- What came of reading the network of this name: its setup, or the status with which the call ends.
abbrev pub ReadsNetwork : Option NamedFiles → List ℕ → ℕ → ℕ → Result Setup Status → Type 0
ReadsNetwork files name before now (Ok setup) = (now ≡ before) × IsAcceptedFile files name setup
ReadsNetwork files name before now (Err status) = IsNotRead files name before now status

-- the same, where these are the bytes of the file
abbrev pub ReadsText : Option NamedFiles → List ℕ → ℕ → ℕ → List ℕ → Result Setup Status → Type 0
ReadsText files name before now text (Ok setup) =
    (now ≡ before) × IsFile files name text × IsAcceptedText text setup
ReadsText files name before now text (Err status) = IsNotRead files name before now status

-- the same, with the digest of the file
abbrev pub ReadsBound : Option NamedFiles → List ℕ → ℕ → ℕ → Result BoundNetwork Status → Type 0
ReadsBound files name before now (Ok network) = (now ≡ before) × IsDigestedFile files name network.setup network.digest
ReadsBound files name before now (Err status) = IsNotRead files name before now status
