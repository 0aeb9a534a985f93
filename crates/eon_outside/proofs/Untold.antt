-- What is asked of an object that tells nothing.
use Rattle.std.proofs.Common.{ℕ, List, [], None, Ok, Err, Result, OnErr, ap}
use Rattle.std.specs.Bool.{⊤}
use Rattle.std.specs.Io.KnownBytes.{ReadConsumes, WriteAppends}
use Rattle.eon_outside.specs.Faults.{Counts, Standing, Stands}

pub untold_open : {T E : Type 0} (result : Result T E) → OnErr result ⊤
untold_open (Ok _) = tt
untold_open (Err _) = tt

pub untold_read : {E : Type 0} (result : Result ℕ E) (buf : List ℕ) → ReadConsumes None None result buf
untold_read (Ok _) buf = (tt, λ _ _. tt)
untold_read (Err _) buf = tt

pub untold_write : {E : Type 0} (result : Result ℕ E) (piece : List ℕ) → WriteAppends None None result piece
untold_write (Ok _) piece = tt
untold_write (Err _) piece = tt

-- the standing of a sink with so many faults, which is sure of no room and gives through no other
abbrev pub standing_at : ℕ → Standing
standing_at faults = record { faults = faults; room = None; through = [] }

pub untold_stands : {E : Type 0} (result : Result ℕ E) (before now : ℕ) → Counts before now result
    → Stands (standing_at before) (standing_at now) result
untold_stands (Ok _) before now h = ap standing_at h
untold_stands (Err _) before now h = ap standing_at h
