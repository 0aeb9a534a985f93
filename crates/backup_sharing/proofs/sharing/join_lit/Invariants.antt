use Rattle.std.proofs.Common.{◌≡◌, ℕ, take}
use Rattle.spectrum_map.specs.Bits.{bit_of}
use Rattle.block_fit.proofs.JoinLaws.{by_fibres}
use Rattle.backup_sharing.proofs.sharing.join_lit.Given as goal

-- the units of the fibres so far are marked
abbrev pub invariant-loop-fibre : goal.invariant-loop-fibre
invariant-loop-fibre g l = (i : ℕ) →
    bit_of l.row.words i
    ≡ by_fibres (g.V.Occupied.band l.view) (λ fibre u. (g.V.Occupied.rows l.view).lit fibre u) l.fibres
    (take l.fibre-index l.fibres) (bit_of l.initial.row.words i) i
