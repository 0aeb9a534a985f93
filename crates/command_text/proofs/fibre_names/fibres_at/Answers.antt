use Rattle.std.proofs.Common.{arith}
use Rattle.command_text.proofs.CodeSteps.{fibres-taken, fibres-refused, fibres-valid}
use Rattle.command_text.proofs.fibre_names.fibres_at.Goals as goal

pub returns-then-name_len-eq0 : goal.returns-then-name_len-eq0
returns-then-name_len-eq0 c =
    fibres-refused c.args.bytes.now c.list_end-name_len.result.1.now c.list_end-name_len.result.0 c.list_end-name_len.ensures.end (omega arith)

pub invariant_of-result : goal.invariant_of-result
invariant_of-result c =
    let bytes = c.args.bytes.now in
    let rest = c.list_end-name_len.result.1.now in
    fibres-valid bytes rest _ (fibres-taken bytes rest c.list_end-name_len.result.0 c.list_end-name_len.ensures.end (omega arith))

pub returns : goal.returns
returns c =
    fibres-taken c.args.bytes.now c.list_end-name_len.result.1.now c.list_end-name_len.result.0 c.list_end-name_len.ensures.end (omega arith)
