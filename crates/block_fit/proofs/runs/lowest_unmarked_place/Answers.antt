use Rattle.std.proofs.Common.{subst, sym, ℕ, ◌+◌, ◌*◌, ◌^◌, ◌<◌, get_or, arith}
use Rattle.block_fit.specs.Runs.{IsLowestPlace}
use Rattle.block_fit.proofs.RunLaws.{full_word, lowest_here}
use Rattle.block_fit.proofs.runs.lowest_unmarked_place.Goals as goal

pub returns-then-bits : goal.returns-then-bits
returns-then-bits c =
    let small : get_or c.args.words.now c.loop-word.word 0 < 2 ^ 64 =
    omega (arith, c.type_inv.words c.loop-word.word) in
    subst (λ (t : ℕ). IsLowestPlace c.args.words.now (64 * c.loop-word.word + t)) (sym c.trailing_ones.ensures)
    (lowest_here c.args.words.now c.loop-word.word c.loop-word-test.true c.loop-word.invariant
    small c.if-bits.true)

pub loop-word-preserved : goal.loop-word-preserved
loop-word-preserved c =
    full_word c.args.words.now c.loop-word.word c.loop-word-test.true c.loop-word.invariant c.if-bits.false
