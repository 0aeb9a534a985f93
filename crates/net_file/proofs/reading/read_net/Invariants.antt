use Rattle.std.proofs.Common.{length}
use Rattle.net_file.specs.Drafts.{draft_seen}
use Rattle.net_file.proofs.ReadLaws.{IsAt}
use Rattle.net_file.proofs.reading.read_net.Given as goal

abbrev pub invariant-loop-line : goal.invariant-loop-line
invariant-loop-line l = IsAt l.bytes (draft_seen l.draft) l.number l.lines

abbrev pub decreases-loop-line : goal.decreases-loop-line
decreases-loop-line l = length l.lines.0
