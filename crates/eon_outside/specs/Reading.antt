-- Files by name, and what opening and reading one gives. Where the outside does not tell its files, nothing is claimed.
use Rattle.std.specs.Prelude.{◌≡◌, ℕ, Bool, List, [], Option, None, Some, Result, Ok, Err, IsSome, IsTrue, is_ok, ⊤}
use Rattle.std.specs.Ordering.{nat_cmp}
use Rattle.std.specs.Cmp.Lexicographic.{slice_cmp}
use Rattle.std.specs.FinMap.{FinMap, get}

-- the bytes of each file by its name
abbrev pub NamedFiles : Type 0
NamedFiles = FinMap (slice_cmp nat_cmp) (List ℕ)

-- the bytes to read after `open(name)`: the file's at Ok, and none at Err
abbrev pub Opens : {T E : Type 0} → Option NamedFiles → List ℕ → Option (List ℕ) → Result T E → Type 0
Opens None name left result = ⊤
Opens (Some files) name left (Ok _) = IsSome left × (left ≡ get files name)
Opens (Some files) name left (Err _) = left ≡ Some []

-- the file of this name is there
abbrev pub IsThere : Option NamedFiles → List ℕ → Type 0
IsThere None name = ⊤
IsThere (Some files) name = IsSome (get files name)

-- A calm shelf stays calm, and `open` fails only where the name is not there.
abbrev pub OpensCalmly : {T E : Type 0} → Bool → Bool → Option NamedFiles → List ℕ → Result T E → Type 0
OpensCalmly old new files name result = IsTrue old → IsTrue new × (IsThere files name → IsTrue (is_ok result))

-- A calm shelf stays calm, and this call does not fail.
abbrev pub StaysCalm : {T E : Type 0} → Bool → Bool → Result T E → Type 0
StaysCalm old new result = IsTrue old → IsTrue new × IsTrue (is_ok result)

-- the bytes that a file has left, by what its type tells; none where nothing is open
abbrev pub left_in : {F : Type 0} → (F → Option (List ℕ)) → Option F → Option (List ℕ)
left_in remaining None = Some []
left_in remaining (Some file) = remaining file
