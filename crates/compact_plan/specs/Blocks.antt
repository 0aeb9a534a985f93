-- Channels and backups as blocks, each with how many units of the grid lie below it.
use Rattle.std.specs.Prelude.{◌≡◌, ◌⊎◌, ℕ, nat_abs, ℤ, pos, ◌+ℤ◌, Bool, true, false, ◌&&◌, ◌==◌, not, All, List, ◌∷◌, map, Some, slice_get, if◌then◌else◌}
use Rattle.std.specs.Option.{option_to_list}
use Rattle.std.specs.List.{Contains, IsDistinct}
use Rattle.eon_model.specs.Grid.{units_of}
use Rattle.eon_model.specs.Services.{Path, Service, State}
use Rattle.compact_plan.specs.declared.block.Block.{Block}

-- how many units of the grid lie below this one
abbrev pub height_of : ℤ → ℕ
height_of unit = nat_abs (unit +ℤ pos 4096)

-- below the path
abbrev pub path_height : Path → ℕ
path_height p = height_of (units_of p.slot).lo

-- the channel of the service at this place of the list
abbrev pub channel_block : ℕ → Service → Block
channel_block i s = record { height = path_height s.leg.work; number = i; is_backup = false }

-- its backup
abbrev pub backup_block : ℕ → Path → Block
backup_block i b = record { height = path_height b; number = i; is_backup = true }

-- both
abbrev pub blocks_of : ℕ → Service → List Block
blocks_of i s = channel_block i s ∷ map (backup_block i) (option_to_list s.leg.back)

-- the block is the channel or the backup of the service at its place
pub record IsBlockOf (state : State) (b : Block) : Type 0 where
  pub service : Service
  pub there : slice_get state b.number ≡ Some service
  pub is : (b ≡ channel_block b.number service)
      ⊎ ((back : Path) × (service.leg.back ≡ Some back) × (b ≡ backup_block b.number back))

-- whether both are the channel, or both the backup, of one place
abbrev pub same_block : Block → Block → Bool
same_block a b = (a.number == b.number) && (if a.is_backup then b.is_backup else not b.is_backup)

-- the channels and the backups of the services, each once
pub record AreBlocks (state : State) (blocks : List Block) : Type 0 where
  pub channels : (i : ℕ) (s : Service) → slice_get state i ≡ Some s → Contains blocks (channel_block i s)
  pub backups : (i : ℕ) (s : Service) (b : Path) → slice_get state i ≡ Some s → s.leg.back ≡ Some b →
      Contains blocks (backup_block i b)
  pub only : All (IsBlockOf state) blocks
  pub differ : IsDistinct same_block blocks
