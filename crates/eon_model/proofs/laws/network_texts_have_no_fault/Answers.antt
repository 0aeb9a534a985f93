use Rattle.eon_model.proofs.TextWhole.{texts-have-no-fault}
use Rattle.eon_model.proofs.laws.network_texts_have_no_fault.Goals as goal

pub returns : goal.returns
returns c = texts-have-no-fault
