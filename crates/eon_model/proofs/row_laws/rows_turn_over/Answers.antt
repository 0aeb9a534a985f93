use Rattle.eon_model.proofs.CountLaws.{lit_turned, held_turned, counts_turned}
use Rattle.eon_model.proofs.row_laws.rows_turn_over.Goals as goal

pub returns : goal.returns
returns c = λ setup state e legal follows. (
  lit_turned setup state e legal follows,
  held_turned setup state e legal follows,
  counts_turned setup state e legal follows,
)
