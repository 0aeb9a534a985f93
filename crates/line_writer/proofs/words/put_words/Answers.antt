use Rattle.line_writer.proofs.WordLaws.{no_word, next_word}
use Rattle.line_writer.proofs.words.put_words.Goals as goal

pub loop-word-init : goal.loop-word-init
loop-word-init g c = no_word _

pub loop-word-preserved : goal.loop-word-preserved
loop-word-preserved g c =
    next_word c.args.words.now c.loop-word.word-index _ _ _ _ c.loop-word-test.true c.loop-word.invariant c.put_word.ensures
