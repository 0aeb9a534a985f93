use Rattle.net_file.proofs.CutLaws.{cut-none, cut-some}
use Rattle.net_file.proofs.cut.cut.Goals as goal

pub returns-in_err-at : goal.returns-in_err-at
returns-in_err-at c =
    rw c.from_residual.ensures (cut-none c.args.byte c.args.bytes.now c.in_err-at.ensures.value)

pub returns : goal.returns
returns c = cut-some c.args.byte c.args.bytes.now c.in_ok-at.at c.in_ok-at.ensures.value
