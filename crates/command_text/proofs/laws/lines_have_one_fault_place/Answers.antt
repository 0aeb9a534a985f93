use Rattle.std.proofs.Common.{arith}
use Rattle.command_text.proofs.laws.lines_have_one_fault_place.Goals as goal

pub returns : goal.returns
returns c = λ line p q h k.
    let low = h.longest q k.within k.begins in
    let high = k.longest p h.within h.begins in
    omega arith
