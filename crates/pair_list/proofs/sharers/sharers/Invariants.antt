use Rattle.eon_model.specs.Network.{risks_of_fibre}
use Rattle.eon_model.specs.Sets.{set_of, meets}
use Rattle.pair_list.proofs.BanLaws.{HasBelow}
use Rattle.pair_list.proofs.sharers.sharers.Given as goal

abbrev pub invariant-loop-fibre : goal.invariant-loop-fibre
invariant-loop-fibre l = HasBelow (λ i. meets (set_of (risks_of_fibre l.net i)) l.risks) l.fibre l.sharers
