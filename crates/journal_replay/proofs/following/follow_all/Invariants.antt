-- The events so far lead to the state, and the disk was only read.
use Rattle.std.proofs.Common.{◌≡◌, ◌-◌, ◌≤◌}
use Rattle.plan_journal.specs.Moments.{IsDurable, OnlyReads}
use Rattle.journal_replay.proofs.ToldSteps.{Leads}
use Rattle.journal_replay.proofs.following.follow_all.Given as goal

abbrev pub invariant-loop-more : goal.invariant-loop-more
invariant-loop-more g l =
    let old = l.initial.opening in
    let disk = g.D.Disk in
    record {
      same_reference : l.opening.disk.ghost_name ≡ old.disk.ghost_name;
      setup : l.core.setup ≡ l.initial.core.setup;
      limit : l.opening.place.limit ≡ old.place.limit;
      journal : l.opening.place.limit ≡ l.core.setup.journal;
      some : 1 ≤ l.opening.place.number;
      leads : Leads (disk.now old.disk.now) l.initial.core.setup l.core.state l.opening.place.at l.opening.place.number;
      durable : IsDurable (disk.now old.disk.now) (disk.images old.disk.now)
          → IsDurable (disk.now l.opening.disk.now) (disk.images l.opening.disk.now);
      reads : OnlyReads disk.now disk.images disk.clock disk.images_since old.disk.now l.opening.disk.now;
      counts : disk.faults l.opening.disk.now ≡ disk.faults old.disk.now;
      asked : disk.asked l.opening.disk.now ≡ disk.asked old.disk.now;
    }

abbrev pub decreases-loop-more : goal.decreases-loop-more
decreases-loop-more g l = l.opening.place.limit - l.opening.place.at
