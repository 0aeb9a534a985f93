-- The services so far are listed.
use Rattle.std.proofs.Common.{◌≡◌, ◌++◌, drop}
use Rattle.compact_plan.proofs.BlockLaws.{blocks_from}
use Rattle.compact_plan.proofs.block.all_blocks.Given as goal

abbrev pub invariant-loop-i : goal.invariant-loop-i
invariant-loop-i l = l.blocks.items ++ blocks_from l.i (drop l.i l.services.list) ≡ blocks_from 0 l.services.list
