use Rattle.std.proofs.Common.{map, take}
use Rattle.line_writer.specs.Sent.{Takes}
use Rattle.line_writer.specs.Words.{behind}
use Rattle.line_writer.proofs.words.put_words.Given as goal

abbrev pub invariant-loop-word : goal.invariant-loop-word
invariant-loop-word g l =
    Takes (g.W.TextSink.sent l.fn.out) (g.W.TextSink.sent l.out) (behind (map (λ w. w.now) (take l.word-index l.words)))
