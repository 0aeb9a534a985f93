-- `room` holds what was taken so far.
use Rattle.std.proofs.Common.{◌≡◌, ◌≤◌, ◌-◌, vec_len}
use Rattle.std.specs.Prelude.{IsTrue}
use Rattle.std.specs.Io.KnownBytes.{Consumes}
use Rattle.eon_outside.proofs.whole_file.read_rest.Given as goal

abbrev pub invariant-loop-count : goal.invariant-loop-count
invariant-loop-count g l = record {
  within : vec_len l.room ≤ l.limit;
  taken : Consumes (g.H.Shelf.left l.initial.shelf) (g.H.Shelf.left l.shelf) l.room.items;
  counts : g.H.Shelf.faults l.shelf ≡ g.H.Shelf.faults l.initial.shelf;
  calm : IsTrue (g.H.Shelf.calm l.initial.shelf) → IsTrue (g.H.Shelf.calm l.shelf);
  files : g.H.Shelf.files l.shelf ≡ g.H.Shelf.files l.initial.shelf;
  opened : g.H.Shelf.opened l.shelf ≡ g.H.Shelf.opened l.initial.shelf;
}

abbrev pub decreases-loop-count : goal.decreases-loop-count
decreases-loop-count g l = l.limit - vec_len l.room
