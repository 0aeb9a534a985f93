use Rattle.line_writer.proofs.WordLaws.{line_taken, word_then}
use Rattle.live_failure.proofs.lighting.put_light.Goals as goal

pub returns : goal.returns
returns g c = line_taken _ _ _ _ _ _ c.put.ensures (word_then _ _ _ _ _ c.put_name.ensures (word_then _ _ _ _ _ c.put_kind.ensures c.put_path.ensures)) c.end_line.ensures
