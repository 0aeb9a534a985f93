-- Files that are read whole. Where the outside does not tell its files, nothing is claimed of them.
use Rattle.std.specs.Prelude.{◌≡◌, ℕ, ◌<◌, List, length, Option, None, Some, Result, Err, IsSomeAnd, ⊤}
use Rattle.std.specs.FinMap.{get}
use Rattle.eon_outside.specs.declared.whole_file.ReadFault.{ReadFault}
use Rattle.eon_outside.specs.declared.whole_file.ReadFault.TheVariants.{Failed}
use Rattle.eon_outside.specs.Faults.{counted}
use Rattle.eon_outside.specs.Reading.{NamedFiles}

-- the file of this name is there, and these are its bytes
abbrev pub IsFile : Option NamedFiles → List ℕ → List ℕ → Type 0
IsFile None name bytes = ⊤
IsFile (Some files) name bytes = get files name ≡ Some bytes

-- the file of this name is there, and has more than `limit` bytes
abbrev pub IsLonger : Option NamedFiles → List ℕ → ℕ → Type 0
IsLonger None name limit = ⊤
IsLonger (Some files) name limit = IsSomeAnd (get files name) (λ bytes. limit < length bytes)

-- the count after reading: one more where the shelf failed, and else as before
abbrev pub CountsFailed : {T : Type 0} → ℕ → ℕ → Result T ReadFault → Type 0
CountsFailed before now (Err Failed) = now ≡ counted before
CountsFailed before now _ = now ≡ before

-- the shelf did not fail
abbrev pub NotFailed : {T : Type 0} → Result T ReadFault → Type 0
NotFailed (Err Failed) = ⊥
NotFailed _ = ⊤
