-- The records so far, and the last bind among them.
use Rattle.std.proofs.Common.{◌≡◌, ◌-◌}
use Rattle.std.specs.Prelude.{None, IfSome}
use Rattle.eon_model.specs.Journal.{kept_digest}
use Rattle.eon_model.specs.JournalFault.{head_fault}
use Rattle.plan_journal.specs.Moments.{OnlyReads}
use Rattle.plan_journal.proofs.HeadReads.{WalkedTo}
use Rattle.plan_journal.proofs.head.bound_to.Given as goal

abbrev pub invariant-loop-walked : goal.invariant-loop-walked
invariant-loop-walked g l = record {
  limit : l.place.limit ≡ l.limit;
  counts : g.D.Disk.faults l.disk ≡ g.D.Disk.faults l.initial.disk;
  asked : g.D.Disk.asked l.disk ≡ g.D.Disk.asked l.initial.disk;
  reads : OnlyReads g.D.Disk.now g.D.Disk.images g.D.Disk.clock g.D.Disk.images_since l.initial.disk l.disk;
  walked : IfSome (g.D.Disk.now l.initial.disk) (λ bytes. head_fault bytes ≡ None → l.fn.kept ≡ kept_digest bytes →
      WalkedTo bytes l.limit l.place.at l.place.number l.bound);
}

abbrev pub decreases-loop-walked : goal.decreases-loop-walked
decreases-loop-walked g l = l.limit - l.place.at
