use Rattle.std.proofs.Common.{refl}
use Rattle.eon_model.specs.CommandText.{command_text, IsLineOf}
use Rattle.eon_model.proofs.CommandTextLaws.{line-unique}
use Rattle.command_text.proofs.laws.printed_commands_are_read.Goals as goal

pub returns : goal.returns
returns c = λ k h.
    let own : IsLineOf (command_text k) k = record { in_range = h; is = refl } in
    (own, λ d line. line-unique (command_text k) d k line own)
