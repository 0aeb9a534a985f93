use Rattle.std.proofs.Common.{◌≡◌, ℕ, ◌&&◌, not, nat_eq, get_or}
use Rattle.spectrum_map.specs.Bits.{bit_of, is_between}
use Rattle.backup_sharing.proofs.barred.clear_ones.Given as goal

-- the places so far that count one are not marked
abbrev pub invariant-loop-i : goal.invariant-loop-i
invariant-loop-i l = (k : ℕ) →
    bit_of l.row.words k
    ≡ (bit_of l.initial.row.words k && not (is_between l.first l.i k && nat_eq (get_or l.counts k 0) 1))
