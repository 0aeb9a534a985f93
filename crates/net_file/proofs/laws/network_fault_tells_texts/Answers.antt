use Rattle.net_file.proofs.laws.network_fault_tells_texts.Goals as goal
use Rattle.net_file.proofs.TextRuns.{network-fault-tells-texts}

pub returns : goal.returns
returns c = network-fault-tells-texts
