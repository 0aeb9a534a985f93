use Rattle.std.proofs.Common.{◌∙◌}
use Rattle.block_fit.proofs.ShiftLaws.{above_word}
use Rattle.block_fit.proofs.runs.places_above.Goals as goal

pub returns : goal.returns
returns c k l =
    c.shifted.ensures k l
    ∙ above_word c.args.words.now c.args.word c.args.by k _ _ l c.word_or_ones.ensures c.word_or_ones-2.ensures
