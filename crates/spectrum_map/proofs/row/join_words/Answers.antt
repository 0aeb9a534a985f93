use Rattle.std.proofs.Common.{◌∙◌, ◌<◌, arith, refl, length, length-set}
use Rattle.spectrum_map.specs.Bits.{bit_of}
use Rattle.spectrum_map.proofs.WordLaws.{set_start, set_step, set_end, bit_at_place, bit_past}
use Rattle.spectrum_map.proofs.row.join_words.Goals as goal

pub loop-word-init : goal.loop-word-init
loop-word-init c = record {
  len = refl;
  bits = set_start 0 (bit_of c.args.others.now) c.args.words.now (λ i h. absurd (omega (arith, h)));
}

pub loop-word-preserved : goal.loop-word-preserved
loop-word-preserved c =
    let long = c.loop-word.invariant.len in
    let near = c.loop-word-test.true in
    let within : c.loop-word.word < length c.loop-word.words = omega (arith, c.requires, long, near) in
    record {
      len = length-set c.loop-word.words c.loop-word.word _ ∙ long;
      bits = set_step c.args.words.now c.loop-word.words c.loop-word.word (bit_of c.args.others.now) _ within
          (bit_at_place c.args.others.now c.loop-word.word) c.loop-word.invariant.bits;
    }

pub returns : goal.returns
returns c =
    let far = c.loop-word-test.false in
    record {
      len = c.loop-word.invariant.len;
      bits = λ i. set_end c.loop-word.word (bit_of c.args.others.now) c.args.words.now c.loop-word.words
          c.loop-word.invariant.bits i (λ h. bit_past c.args.others.now i (omega (arith, far, h)));
    }
