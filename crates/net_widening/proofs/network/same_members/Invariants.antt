use Rattle.std.proofs.Common.{◌≡◌, ℕ, ◌<◌}
use Rattle.eon_model.specs.Lists.{has_number}
use Rattle.net_file.specs.PrintWords.{group_at}
use Rattle.net_widening.proofs.network.same_members.Given as goal

abbrev pub invariant-loop-fibre : goal.invariant-loop-fibre
invariant-loop-fibre l =
    (k : ℕ) → k < l.fibre → has_number (group_at l.net.groups l.group).fibres k ≡ has_number (group_at l.other.groups l.group).fibres k
