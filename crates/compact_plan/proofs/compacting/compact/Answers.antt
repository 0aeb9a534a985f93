use Rattle.std.proofs.Common.{◌∙◌, sym}
use Rattle.compact_plan.proofs.TellLaws.{are_targets, first_none}
use Rattle.compact_plan.proofs.compacting.compact.Goals as goal

pub returns-in_ok-lowest-in-None : goal.returns-in_ok-lowest-in-None
returns-in_ok-lowest-in-None c =
    let none = sym c.first_busy.ensures ∙ c.in-None.is in
    let found = c.in_ok-lowest-in-None.ensures in (
      none,
      λ setup ok of_band legal. are_targets c.args.band.now c.args.services.now.list found.0 _
          (first_none c.args.services.now.list none) found.1 found.2 setup ok of_band legal,
    )
