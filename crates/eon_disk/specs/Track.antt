-- How what is pending on a disk came about, step by step.
use Rattle.std.specs.Prelude.{ℕ, List, [], ◌∷◌, ◌++◌}
use Rattle.eon_model.specs.DiskImages.{Unsynced, settled, after_write, after_cut}

-- What is pending, and what was at each moment before.
pub record Track : Type 0 where
  pub pending : Unsynced
  pub past : List Unsynced

-- nothing is pending on these bytes, and there was no moment before
abbrev pub track_of : List ℕ → Track
track_of bytes = record { pending = settled bytes; past = [] }

abbrev pub no_track : Track
no_track = track_of []

-- one moment later
abbrev pub next_track : Unsynced → Track → Track
next_track pending track = record { pending = pending; past = track.past ++ track.pending ∷ [] }

-- After a step that is told by some numbers and the bytes as read. No number: the disk begins with these bytes. One: it
-- is cut to this length. Two: so many bytes are written at this offset. More: it is synced.
abbrev pub track_after : List ℕ → List ℕ → Track → Track
track_after [] bytes track = track_of bytes
track_after (len ∷ []) bytes track = next_track (after_cut len track.pending) track
track_after (at ∷ count ∷ []) bytes track = next_track (after_write at count track.pending) track
track_after (a ∷ b ∷ c ∷ more) bytes track = next_track (settled bytes) track
