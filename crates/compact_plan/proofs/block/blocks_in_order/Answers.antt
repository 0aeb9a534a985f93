use Rattle.std.proofs.Common.{rules}
use Rattle.std.proofs.lemmas.List.Sorted.{IsNonDecreasingBy-from_sort_by_key}
use Rattle.compact_plan.specs.declared.block.Block.{Block}
use Rattle.compact_plan.proofs.BlockLaws.{are_moved}
use Rattle.compact_plan.proofs.block.blocks_in_order.Goals as goal

pub returns-clause-blocks : goal.returns-clause-blocks
returns-clause-blocks c =
    are_moved c.args.services.now.list c.in_ok-blocks.blocks.items _ c.in_ok-blocks.ensures
    c.in_ok-sort_by_key.ensures.permutation

pub returns-clause-order : goal.returns-clause-order
returns-clause-order c =
    IsNonDecreasingBy-from_sort_by_key (λ (b : Block). b.height) _ c.in_ok-sort_by_key.ensures.sorted
    (λ a r q k. search rules)
