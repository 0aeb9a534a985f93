use Rattle.spectrum_map.proofs.EmptyLaws.{no_bits}
use Rattle.spectrum_map.proofs.row.Row.empty.Goals as goal

pub returns : goal.returns
returns c = no_bits 16
