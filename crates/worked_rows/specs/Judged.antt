-- When a case came out as stored.
use Rattle.std.specs.Prelude.{◌≡◌, ◌≢◌, ℕ, List}
use Rattle.worked_rows.specs.declared.case.Outcome.{Outcome}
use Rattle.worked_rows.specs.declared.case.Outcome.TheVariants.{AsStored, Other}

-- it did just where the code is the one that is wanted and the bytes are those that are stored; else both are told
abbrev pub IsJudged : ℕ → List ℕ → ℕ → List ℕ → Outcome → Type 0
IsJudged wanted stored code written AsStored = (code ≡ wanted) × (written ≡ stored)
IsJudged wanted stored code written (Other c w) =
    (c ≡ code) × (w.items ≡ written) × (code ≡ wanted → written ≢ stored)
