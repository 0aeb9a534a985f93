use Rattle.std.proofs.Common.{◌≡◌, ◌∙◌, ap, sym, subst, ℕ, ◌-◌, ◌≤◌, arith, get_or, refl, cond}
use Rattle.spectrum_map.specs.Bits.{is_between}
use Rattle.spectrum_map.proofs.CountSteps.{unchanged_here, changed_none, changed_more}
use Rattle.spectrum_map.proofs.counts.let_go.Goals as goal

pub lower_at-requires : goal.lower_at-requires
lower_at-requires c =
    let i = c.loop-i.i in
    let long = c.loop-i.invariant.len in
    let words = c.loop-i.invariant.words in
    let near = c.loop-i-test.true in
    let same = unchanged_here (λ n. n - 1) (λ k. get_or c.args.counts.now k 0) (λ k. get_or c.loop-i.counts k 0)
    c.args.first i c.loop-i.auto.i c.loop-i.invariant.counts in
    record {
      within = omega (arith, long, near, c.requires.within);
      few = omega (arith, words, c.requires.few);
      words = omega (arith, long, words, c.requires.words);
      some = subst (λ (n : ℕ). 1 ≤ n) (sym same) (c.requires.some i c.loop-i.auto.i near);
      held = c.loop-i.invariant.held;
    }

pub loop-i-init : goal.loop-i-init
loop-i-init c = record {
  len = refl;
  words = refl;
  counts = changed_none (λ n. n - 1) (λ k. get_or c.args.counts.now k 0) c.args.first;
  held = c.requires.held;
}

pub loop-i-preserved : goal.loop-i-preserved
loop-i-preserved c = record {
  len = c.lower_at.ensures.len ∙ c.loop-i.invariant.len;
  words = c.lower_at.ensures.words ∙ c.loop-i.invariant.words;
  counts = changed_more (λ n. n - 1) (λ k. get_or c.args.counts.now k 0) (λ k. get_or c.loop-i.counts k 0)
      c.args.first c.loop-i.i c.loop-i.auto.i c.loop-i.invariant.counts (λ k. get_or c.lower_at.new.counts k 0)
      c.lower_at.ensures.counts;
  held = c.lower_at.ensures.held;
}

pub returns : goal.returns
returns c =
    let end : c.loop-i.i ≡ c.args.end =
    omega (arith, c.loop-i-test.false, c.loop-i.auto.i-end c.requires.order) in
    record {
      len = c.loop-i.invariant.len;
      words = c.loop-i.invariant.words;
      counts = λ k. c.loop-i.invariant.counts k
          ∙ ap (λ n. cond (is_between c.args.first n k) (get_or c.args.counts.now k 0 - 1)
          (get_or c.args.counts.now k 0)) end;
      held = c.loop-i.invariant.held;
    }
