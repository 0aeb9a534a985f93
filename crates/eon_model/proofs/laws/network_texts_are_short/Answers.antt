use Rattle.eon_model.proofs.TextLengths.{texts-are-short}
use Rattle.eon_model.proofs.laws.network_texts_are_short.Goals as goal

pub returns : goal.returns
returns c = texts-are-short
