use Rattle.eon_base.proofs.OneSpellingLaws.{one_spelling}
use Rattle.eon_base.proofs.laws.number_has_one_spelling.Goals as goal

pub returns : goal.returns
returns c = one_spelling
