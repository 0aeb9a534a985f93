use Rattle.net_file.proofs.laws.faultless_texts_are_of_a_setup.Goals as goal
use Rattle.net_file.proofs.TextRuns.{faultless-texts-are-of-a-setup}

pub returns : goal.returns
returns c = faultless-texts-are-of-a-setup
