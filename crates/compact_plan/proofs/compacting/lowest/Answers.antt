use Rattle.std.proofs.Common.{◌∙◌, ap, ℕ, List}
use Rattle.compact_plan.specs.Told.{channels, all_moves}
use Rattle.compact_plan.proofs.compacting.lowest.Goals as goal

pub returns : goal.returns
returns c = (
  c.in_ok-lows.lows.items,
  c.in_ok-lows.ensures.lowest,
  c.in_ok-list.ensures
      ∙ ap (λ (lows : List ℕ). all_moves c.args.band.now (channels c.args.services.now.list lows)) c.deref-2.ensures.value,
)
