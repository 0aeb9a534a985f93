use Rattle.std.proofs.Common.{◌∙◌, ◌/◌, ◌<◌, arith, refl, length, length-set}
use Rattle.spectrum_map.specs.Bits.{is_between}
use Rattle.spectrum_map.proofs.BitLaws.{below_range, past_range}
use Rattle.spectrum_map.proofs.WordLaws.{cleared_start, cleared_step, cleared_end}
use Rattle.spectrum_map.proofs.bits.clear_bits.Goals as goal

pub loop-word-init : goal.loop-word-init
loop-word-init c = record {
  len = refl;
  bits = cleared_start (c.args.first / 64) (is_between c.args.first c.args.end) c.args.words.now
      (λ i h. below_range c.args.first c.args.end i (omega (arith, h)));
}

pub loop-word-preserved : goal.loop-word-preserved
loop-word-preserved c =
    let long = c.loop-word.invariant.len in
    let near = c.loop-word-test.true in
    let last = c.div_ceil-word-end.ensures in
    let within : c.loop-word.word < length c.loop-word.words =
    omega (arith, c.requires.within, long, near, last) in
    record {
      len = length-set c.loop-word.words c.loop-word.word _ ∙ long;
      bits = cleared_step c.args.words.now c.loop-word.words c.loop-word.word (is_between c.args.first c.args.end) c.mask.result within
          c.mask.ensures c.mask.type_inv c.loop-word.invariant.bits;
    }

pub returns : goal.returns
returns c =
    let last = c.div_ceil-word-end.ensures in
    let far = c.loop-word-test.false in
    record {
      len = c.loop-word.invariant.len;
      bits = λ i. cleared_end c.loop-word.word (is_between c.args.first c.args.end) c.args.words.now c.loop-word.words
          c.loop-word.invariant.bits i (λ h. past_range c.args.first c.args.end i (omega (arith, last, far, h)));
    }
