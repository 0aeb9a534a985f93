use Rattle.std.proofs.Common.{arith, rules}
use Rattle.eon_base.proofs.SpellingLemmas.{written_is_aligned}
use Rattle.eon_base.proofs.spelling.Digits.of_number.Goals as goal
use Rattle.eon_model.proofs.ReplyLengths.{number-short}

pub write_digits-start-requires : goal.write_digits-start-requires
write_digits-start-requires c = (number-short c.args.v (omega (arith, c.ranges.v)), omega arith)

pub invariant_of-result : goal.invariant_of-result
invariant_of-result c =
    written_is_aligned c.write_digits-start.new.buf c.write_digits-start.result (search rules)
    (omega (arith, c.write_digits-start.ensures.start)) c.write_digits-start.ensures.before
