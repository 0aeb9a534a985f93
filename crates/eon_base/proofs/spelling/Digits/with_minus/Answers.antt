use Rattle.std.proofs.Common.{◌≤◌, ◌-◌, ◌∙◌, length, arith, rules}
use Rattle.std.specs.Fmt.{decimal}
use Rattle.std.proofs.lemmas.List.{append-nil}
use Rattle.eon_base.proofs.SpellingLemmas.{small_digits_fit, minus_is_aligned, minus_written}
use Rattle.eon_base.proofs.spelling.Digits.with_minus.Goals as goal

pub write_digits-start-requires : goal.write_digits-start-requires
write_digits-start-requires c =
    let fits : length (decimal c.args.size) ≤ 19 = small_digits_fit c.args.size c.requires in
    (omega (arith, fits), omega arith)

pub overflow_sub-start : goal.overflow_sub-start
overflow_sub-start c =
    omega (arith, c.write_digits-start.ensures.start, small_digits_fit c.args.size c.requires)

pub invariant_of-result : goal.invariant_of-result
invariant_of-result c =
    minus_is_aligned c.write_digits-start.new.buf c.write_digits-start.result (c.write_digits-start.result - 1)
    (omega (arith, overflow_sub-start c)) (search rules) (omega (arith, c.write_digits-start.ensures.start))
    c.write_digits-start.ensures.before

pub returns : goal.returns
returns c =
    minus_written c.write_digits-start.new.buf (decimal c.args.size) c.write_digits-start.result
    (c.write_digits-start.result - 1) (omega (arith, overflow_sub-start c)) (search rules)
    (omega (arith, c.write_digits-start.ensures.start))
    (c.write_digits-start.ensures.written ∙ append-nil (decimal c.args.size))
