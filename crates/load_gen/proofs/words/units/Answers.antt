use Rattle.std.proofs.Common.{arith}
use Rattle.std.proofs.lemmas.Int.{ints}
use Rattle.eon_model.proofs.SpanLaws.{span-facts}
use Rattle.load_gen.proofs.words.units.Goals as goal

pub overflow_cast-result : goal.overflow_cast-result
overflow_cast-result c =
    let f = span-facts c.args.band.now c.hi.ensures.valid in
    (omega (arith, ints), omega (arith, ints))

pub returns-clause-some : goal.returns-clause-some
returns-clause-some c =
    let f = span-facts c.args.band.now c.hi.ensures.valid in
    omega (arith, ints)
