use Rattle.std.proofs.Common.{◌≡◌, ℕ, take}
use Rattle.spectrum_map.specs.Bits.{bit_of}
use Rattle.block_fit.proofs.JoinLaws.{by_fibres}
use Rattle.backup_sharing.specs.Shared.{bars}
use Rattle.backup_sharing.proofs.barred.join_fibres.Given as goal

-- the units of the fibres so far are marked
abbrev pub invariant-loop-fibre : goal.invariant-loop-fibre
invariant-loop-fibre l = (i : ℕ) →
    bit_of l.row.words i
    ≡ by_fibres l.band (λ fibre u. bars l.maps l.risk l.own fibre u) l.fibres (take l.fibre-index l.fibres)
    (bit_of l.initial.row.words i) i
