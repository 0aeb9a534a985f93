use Rattle.std.proofs.Common.{◌-◌, arith}
use Rattle.spectrum_map.proofs.HighestLaws.{none_here, highest_here}
use Rattle.spectrum_map.proofs.bits.highest_bit.Goals as goal

pub returns-then-found-ne0 : goal.returns-then-found-ne0
returns-then-found-ne0 c =
    let w = c.loop-word.word - 1 in
    let some = c.loop-word-test.true in
    highest_here c.args.words.now w c.args.first c.args.end c.mask.result c.mask.ensures
    (λ i h p q. c.loop-word.invariant.none i (omega (arith, some, h)) p q)
    c.ilog2.result c.ilog2.ensures.bound c.ilog2.ensures.power_le c.ilog2.ensures.next_power_gt

pub loop-word-preserved : goal.loop-word-preserved
loop-word-preserved c =
    let w = c.loop-word.word - 1 in
    let some = c.loop-word-test.true in
    let within = c.loop-word.invariant.within in
    record {
      within = omega (arith, within, some);
      none = none_here c.args.words.now w c.args.first c.args.end c.mask.result c.mask.ensures
          (λ i h p q. c.loop-word.invariant.none i (omega (arith, some, h)) p q) c.if-found-ne0.false;
    }
