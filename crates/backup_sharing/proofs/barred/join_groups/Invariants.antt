use Rattle.std.proofs.Common.{◌≡◌, ℕ, not, nat_eq}
use Rattle.spectrum_map.specs.Bits.{bit_of}
use Rattle.spectrum_map.specs.Kept.{holders_in}
use Rattle.backup_sharing.specs.Shared.{map_at, own_on, but_own}
use Rattle.backup_sharing.proofs.BarLaws.{by_groups}
use Rattle.backup_sharing.proofs.barred.join_groups.Given as goal

-- the units of the groups so far are marked
abbrev pub invariant-loop-group : goal.invariant-loop-group
invariant-loop-group l = (i : ℕ) →
    bit_of l.row.words i
    ≡ by_groups l.band l.risk (λ g u. not (nat_eq (but_own (own_on l.own g l.fibre) u (holders_in (map_at l.maps g) l.fibre u)) 0))
    l.group (bit_of l.initial.row.words i) i
