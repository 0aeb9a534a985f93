use Rattle.block_fit.proofs.RunLaws.{word_marked, ones_past}
use Rattle.block_fit.proofs.runs.word_or_ones.Goals as goal

pub returns-then-word-words : goal.returns-then-word-words
returns-then-word-words c k l = ones_past c.args.words.now c.args.word k c.if-word-words.true l

pub returns : goal.returns
returns c k l = word_marked c.args.words.now c.args.word c.if-word-words.false k l
