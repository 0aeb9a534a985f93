use Rattle.std.proofs.Common.{◌≡◌, drop}
use Rattle.room_lines.specs.Lines.{verb_among}
use Rattle.room_lines.proofs.verb.verb_among.Given as goal

abbrev pub invariant-loop-verb : goal.invariant-loop-verb
invariant-loop-verb l = verb_among l.left (drop l.verb-index l.verbs) l.bytes ≡ verb_among l.fn.left l.verbs l.bytes
