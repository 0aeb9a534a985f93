-- What is proved of the summary of a load.
use Rattle.std.specs.Prelude.{◌≡◌, ℕ, List}
use Rattle.eon_model.specs.Legal.{Setup}
use Rattle.eon_model.specs.DriveSummary.{Drives, replies_that, is_memory_reply}

-- A summary that tells of no want of memory is a function of the network, the seed and the count.
abbrev pub OneSummary : Type 0
OneSummary =
    (setup : Setup) (seed count : ℕ) (missed others output more : List ℕ)
    → (d : Drives setup seed count missed output) → (e : Drives setup seed count others more)
    → replies_that is_memory_reply d.answers ≡ 0 → replies_that is_memory_reply e.answers ≡ 0 → output ≡ more
