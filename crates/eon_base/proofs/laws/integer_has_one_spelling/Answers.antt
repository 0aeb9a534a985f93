use Rattle.eon_base.proofs.OneSpellingLaws.{one_signed_spelling}
use Rattle.eon_base.proofs.laws.integer_has_one_spelling.Goals as goal

pub returns : goal.returns
returns c = one_signed_spelling
