use Rattle.std.proofs.Common.{ap, length, arith}
use Rattle.command_text.specs.Parts.{comma_pieces}
use Rattle.command_text.proofs.CodeSteps.{name-there}
use Rattle.command_text.proofs.fibre_names.FibreNames.at.Goals as goal

pub unreachable-requires-in-Err : goal.unreachable-requires-in-Err
unreachable-requires-in-Err c =
    let pieces = comma_pieces c.self.inside.bytes.now in
    let same = ap length c.self.view_is in
    name-there pieces c.args.i c.in-Some.piece.now c.self.invariant
    (omega (arith, c.requires)) c.in-Some.ensures c.in-Err.ensures.value
