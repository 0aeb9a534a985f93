use Rattle.block_fit.proofs.ShiftLaws.{two_words}
use Rattle.block_fit.proofs.runs.shifted.Goals as goal

pub returns : goal.returns
returns c k l = two_words c.args.low c.args.high c.args.from k c.ranges.low.fits c.requires l
