use Rattle.block_fit.proofs.RunLaws.{starts-lowest}
use Rattle.block_fit.proofs.runs.lowest_run.Goals as goal

pub returns-clause-run : goal.returns-clause-run
returns-clause-run c =
    starts-lowest c.args.row.now.words c.mark_starts.new.words c.args.len (record {
      some = c.requires.some;
      len = c.mark_starts.ensures.len;
      bits = c.mark_starts.ensures.bits;
    }) c.lowest_unmarked_place.result c.lowest_unmarked_place.ensures
