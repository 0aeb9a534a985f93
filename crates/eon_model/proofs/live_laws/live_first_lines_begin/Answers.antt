use Rattle.eon_model.proofs.LiveStreamLaws.{live-first_lines}
use Rattle.eon_model.proofs.live_laws.live_first_lines_begin.Goals as goal

pub returns : goal.returns
returns c = live-first_lines
