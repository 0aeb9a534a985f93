use Rattle.std.proofs.Common.{◌≡◌, ◌∙◌, ap, ◌+◌, arith, get_or, length-set, refl, cond}
use Rattle.spectrum_map.specs.Bits.{is_between}
use Rattle.spectrum_map.proofs.CountSteps.{unchanged_here, changed_none, changed_more, set_change}
use Rattle.spectrum_map.proofs.counts.raise.Goals as goal

pub overflow_add-counts : goal.overflow_add-counts
overflow_add-counts c =
    let i = c.loop-i.i in
    let same = unchanged_here (λ n. n + 1) (λ k. get_or c.args.counts.now k 0) (λ k. get_or c.loop-i.counts k 0)
    c.args.first i c.loop-i.auto.i c.loop-i.invariant.counts in
    let room = c.requires.room i c.loop-i.auto.i c.loop-i-test.true in
    omega (arith, same, room)

pub loop-i-init : goal.loop-i-init
loop-i-init c = record {
  len = refl;
  counts = changed_none (λ n. n + 1) (λ k. get_or c.args.counts.now k 0) c.args.first;
}

pub loop-i-preserved : goal.loop-i-preserved
loop-i-preserved c =
    let i = c.loop-i.i in
    let long = c.loop-i.invariant.len in
    let near = c.loop-i-test.true in
    record {
      len = length-set c.loop-i.counts i _ ∙ long;
      counts = changed_more (λ n. n + 1) (λ k. get_or c.args.counts.now k 0) (λ k. get_or c.loop-i.counts k 0)
          c.args.first i c.loop-i.auto.i c.loop-i.invariant.counts _
          (λ k. set_change (λ n. n + 1) c.loop-i.counts i k (omega (arith, long, near, c.requires.within)));
    }

pub returns : goal.returns
returns c =
    let end : c.loop-i.i ≡ c.args.end =
    omega (arith, c.loop-i-test.false, c.loop-i.auto.i-end c.requires.order) in
    record {
      len = c.loop-i.invariant.len;
      counts = λ k. c.loop-i.invariant.counts k
          ∙ ap (λ n. cond (is_between c.args.first n k) (get_or c.args.counts.now k 0 + 1)
          (get_or c.args.counts.now k 0)) end;
    }
