use Rattle.std.proofs.Common.{nat_eq, arith, ap, length}
use Rattle.std.proofs.lemmas.List.Splits.{length-slice_split}
use Rattle.command_text.proofs.fibre_names.FibreNames.len.Goals as goal

pub returns : goal.returns
returns c =
    let e = length-slice_split (λ b. nat_eq b 44) c.self.inside.bytes.now in
    let same = ap length c.self.view_is in
    let n = c.commas.ensures in
    omega arith
