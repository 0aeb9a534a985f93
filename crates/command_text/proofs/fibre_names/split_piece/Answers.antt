use Rattle.std.proofs.Common.{take_all, nat_eq, eq-eqb, subst, All, false, ◌≡◌}
use Rattle.std.proofs.lemmas.List.{take_rest}
use Rattle.std.proofs.lemmas.Bool.{ne_eqb}
use Rattle.command_text.proofs.SplitLaws.{split_nowhere, split_there, none_so_far}
use Rattle.command_text.proofs.fibre_names.split_piece.Goals as goal

pub returns-then-byte-eq44 : goal.returns-then-byte-eq44
returns-then-byte-eq44 c =
    rw take_rest
    (split_there (λ b. nat_eq b 44) c.args.bytes.now c.loop-at.at 0 c.loop-at-test.true
    (eq-eqb _ 44 c.if-byte-eq44.true) c.loop-at.invariant)

pub returns : goal.returns
returns c =
    split_nowhere (λ b. nat_eq b 44) c.args.bytes.now
    (subst (All (λ b. nat_eq b 44 ≡ false)) (take_all c.loop-at.at c.args.bytes.now c.loop-at-test.false) c.loop-at.invariant)

pub loop-at-preserved : goal.loop-at-preserved
loop-at-preserved c =
    none_so_far (λ b. nat_eq b 44) c.args.bytes.now c.loop-at.at 0 c.loop-at-test.true
    (ne_eqb _ 44 c.if-byte-eq44.false) c.loop-at.invariant
