use Rattle.std.proofs.Common.{◌≡◌, ◌==◌, false, take, All}
use Rattle.command_text.proofs.fibre_names.split_piece.Given as goal

-- no byte before this one is a comma
abbrev pub invariant-loop-at : goal.invariant-loop-at
invariant-loop-at l = All (λ b. (b == 44) ≡ false) (take l.at l.bytes)
