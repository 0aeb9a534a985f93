-- The bytes of a disk that is held in memory, and what a crash may leave of them.
use Rattle.std.proofs.Common.{inl, inr}
use Rattle.std.specs.Prelude.{◌≡◌, ◌⊎◌, ℕ, ◌-◌, ◌<◌, nat_le, nat_lt, Bool, ◌&&◌, List, [], ◌∷◌, ◌++◌, length, take, drop, slice_index, if◌then◌else◌}
use Rattle.std.specs.List.{list_any}
use Rattle.eon_model.specs.Disk.{put}
use Rattle.eon_model.specs.DiskImages.{Unsynced, IsImage, settled, after_write, after_cut, HadBeen}

-- The bytes as read, what was done since the last sync, and how that stood at each moment before.
pub record HeldBytes : Type 0 where
  pub bytes : List ℕ
  pub pending : Unsynced
  pub past : List Unsynced

-- a crash now may leave the bytes as read, or another image
abbrev pub MayLeave : HeldBytes → List ℕ → Type 0
MayLeave held c = (c ≡ held.bytes) ⊎ IsImage held.pending c

-- a crash at some moment since t might have left this
abbrev pub MayHaveLeft : HeldBytes → ℕ → List ℕ → Type 0
MayHaveLeft held t c = MayLeave held c ⊎ HadBeen (drop t held.past) c

-- since this moment there is no other
none_left : (past : List Unsynced) (c : List ℕ) → HadBeen (drop (length past) past) c → ⊥
none_left [] c h = h
none_left (u ∷ past) c h = none_left past c h

pub now_alone : (held : HeldBytes) (c : List ℕ) → MayHaveLeft held (length held.past) c → MayLeave held c
now_alone held c h = elim h [ inl now ↦ now | inr before ↦ absurd (none_left held.past c before) ]

-- ---- what calls make of them

-- these bytes, of which nothing is pending
abbrev pub begun : List ℕ → HeldBytes
begun bytes = record { bytes = bytes; pending = settled bytes; past = [] }

-- one moment later
abbrev pub later : List ℕ → Unsynced → HeldBytes → HeldBytes
later bytes pending held = record { bytes = bytes; pending = pending; past = held.past ++ held.pending ∷ [] }

-- with a piece put in
abbrev pub with_piece : ℕ → List ℕ → HeldBytes → HeldBytes
with_piece at piece held = later (put at piece held.bytes) (after_write at (length piece) held.pending) held

-- cut to a length
abbrev pub cut_to : ℕ → HeldBytes → HeldBytes
cut_to len held = later (take len held.bytes) (after_cut len held.pending) held

-- synced
abbrev pub synced : HeldBytes → HeldBytes
synced held = later held.bytes (settled held.bytes) held

-- ---- one image

-- whether one of the ranges has the place
abbrev pub is_in : List (ℕ × ℕ) → ℕ → Bool
is_in ranges i = list_any (λ range. nat_le range.0 i && nat_lt (i - range.0) range.1) ranges

-- the bytes as read, with this byte in each place of a range
pub record HasByteIn (byte : ℕ) (ranges : List (ℕ × ℕ)) (bytes image : List ℕ) : Type 0 where
  pub same_length : length image ≡ length bytes
  pub places : (i : ℕ) → i < length bytes
      → slice_index image i ≡ (if is_in ranges i then byte else slice_index bytes i)

-- ---- with the memory for more

-- How many bytes more, and how many ranges more, there is memory for.
pub record Roomy : Type 0 where
  pub held : HeldBytes
  pub bytes_more : ℕ
  pub ranges_more : ℕ
