use Rattle.net_file.proofs.laws.texts_can_go_on.Goals as goal
use Rattle.net_file.proofs.TextGoesOn.{texts-can-go-on}

pub returns : goal.returns
returns c = texts-can-go-on
