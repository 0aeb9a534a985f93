use Rattle.eon_model.proofs.RowRanges.{lit_in_range, held_in_range, reserves_in_range}
use Rattle.eon_model.proofs.row_laws.holdings_are_in_range.Goals as goal

pub returns : goal.returns
returns c = λ setup state ok legal. (
  lit_in_range setup ok state legal,
  held_in_range setup ok state legal,
  reserves_in_range setup ok state legal,
)
