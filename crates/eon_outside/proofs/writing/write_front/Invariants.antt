-- The front that was given so far, by calls that did not fail.
use Rattle.std.proofs.Common.{◌≡◌, ◌≤◌, ◌-◌, length, take}
use Rattle.std.specs.Io.KnownBytes.{Appends}
use Rattle.eon_outside.proofs.writing.write_front.Given as goal

abbrev pub invariant-loop-done : goal.invariant-loop-done
invariant-loop-done g l = record {
  within : l.done ≤ length l.piece;
  given : Appends (g.K.Sink.given l.initial.out) (g.K.Sink.given l.out) (take l.done l.piece);
  stands : g.K.Sink.standing l.out ≡ g.K.Sink.standing l.initial.out;
}

abbrev pub decreases-loop-done : goal.decreases-loop-done
decreases-loop-done g l = length l.piece - l.done
