use Rattle.std.proofs.Common.{◌≡◌, ℕ, pos, ◌+ℤ◌, take}
use Rattle.eon_model.specs.Grid.{span_of}
use Rattle.spectrum_map.specs.Bits.{bit_of}
use Rattle.block_fit.proofs.JoinLaws.{past_parts}
use Rattle.block_fit.proofs.outside.clear_parts.Given as goal

-- the units of the parts so far have no mark
abbrev pub invariant-loop-i : goal.invariant-loop-i
invariant-loop-i l = (k : ℕ) →
    bit_of l.row.words k
    ≡ past_parts (take l.i l.band) (bit_of l.initial.row.words k) ((span_of l.band).lo +ℤ pos k)
