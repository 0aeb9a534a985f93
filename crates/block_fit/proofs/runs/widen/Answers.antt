use Rattle.std.proofs.Common.{◌∙◌, ◌+◌, ◌<◌, arith, refl, length, length-set}
use Rattle.spectrum_map.proofs.WordLaws.{set_start, set_step, set_end}
use Rattle.block_fit.specs.Runs.{is_marked}
use Rattle.block_fit.proofs.RunLaws.{same_marks}
use Rattle.block_fit.proofs.runs.widen.Goals as goal

pub loop-word-init : goal.loop-word-init
loop-word-init c = record {
  len = refl;
  bits = set_start 0 (λ i. is_marked c.args.words.now (i + c.args.by)) c.args.words.now
      (λ i h. absurd (omega (arith, h)));
}

pub loop-word-preserved : goal.loop-word-preserved
loop-word-preserved c =
    let long = c.loop-word.invariant.len in
    let near = c.loop-word-test.true in
    let within : c.loop-word.word < length c.loop-word.words = omega (arith, long, near) in
    record {
      len = length-set c.loop-word.words c.loop-word.word _ ∙ long;
      bits = set_step c.args.words.now c.loop-word.words c.loop-word.word
          (λ i. is_marked c.args.words.now (i + c.args.by)) _ within
          (λ k l. c.places_above.ensures k l
          ∙ same_marks c.args.words.now c.loop-word.words c.loop-word.word c.args.by long c.loop-word.invariant.bits k l)
          c.loop-word.invariant.bits;
    }

pub returns : goal.returns
returns c =
    let far = c.loop-word-test.false in
    record {
      len = c.loop-word.invariant.len;
      bits = λ i h. set_end c.loop-word.word (λ n. is_marked c.args.words.now (n + c.args.by)) c.args.words.now
          c.loop-word.words c.loop-word.invariant.bits i (λ p. absurd (omega (arith, far, h, p)));
    }
