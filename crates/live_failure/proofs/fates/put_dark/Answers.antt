use Rattle.line_writer.proofs.WordLaws.{line_taken}
use Rattle.live_failure.proofs.fates.put_dark.Goals as goal

pub returns : goal.returns
returns g c = line_taken _ _ _ _ _ _ c.put.ensures c.put_name.ensures c.end_line.ensures
