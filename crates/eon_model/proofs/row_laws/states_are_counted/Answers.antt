use Rattle.eon_model.proofs.CountLaws.{state_counted, state_rows}
use Rattle.eon_model.proofs.row_laws.states_are_counted.Goals as goal

pub returns : goal.returns
returns c = λ state. (state_counted state, state_rows state)
