-- What is known of network texts and of their faults.
use Rattle.std.specs.Prelude.{◌≡◌, ℕ, ◌<◌, ◌↔◌, List, [], ◌++◌, length, Some, None}
use Rattle.eon_model.specs.Legal.{Setup}
use Rattle.eon_model.specs.NetworkText.{IsNetworkTextOf}
use Rattle.eon_model.specs.NetworkFault.{Short, whole_lines, network_fault}

-- the text of a setup in range is shorter than 1,048,576 bytes
abbrev pub TextsAreShort : Type 0
TextsAreShort = (bytes : List ℕ) (s : Setup) → IsNetworkTextOf bytes s → length bytes < 1048576

-- the text of a setup in range has no fault
abbrev pub TextsHaveNoFault : Type 0
TextsHaveNoFault = (bytes : List ℕ) (s : Setup) → IsNetworkTextOf bytes s → network_fault bytes ≡ None

-- bytes without a fault are the text of a setup in range
abbrev pub FaultlessTextsAreOfASetup : Type 0
FaultlessTextsAreOfASetup =
    (bytes : List ℕ) → network_fault bytes ≡ None → (s : Setup) × IsNetworkTextOf bytes s

-- bytes have no fault just where they are the text of some setup in range
abbrev pub NetworkFaultTellsTexts : Type 0
NetworkFaultTellsTexts =
    (bytes : List ℕ) → network_fault bytes ≡ None ↔ ((s : Setup) × IsNetworkTextOf bytes s)

-- whole lines that are only too short begin the text of a setup in range, and one that is shorter than 1,048,576 bytes
abbrev pub TextsCanGoOn : Type 0
TextsCanGoOn =
    (bytes : List ℕ) (line : ℕ) → network_fault bytes ≡ Some (line, Short) → (whole_lines bytes).1 ≡ [] →
    (more : List ℕ) × ((s : Setup) × (IsNetworkTextOf (bytes ++ more) s) × (length (bytes ++ more) < 1048576))
