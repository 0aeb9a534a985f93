use Rattle.spectrum_map.proofs.EmptyLaws.{all_bits}
use Rattle.spectrum_map.proofs.row.Row.full.Goals as goal

pub returns : goal.returns
returns c = all_bits 16
