use Rattle.std.proofs.Common.{◌≡◌, map, take}
use Rattle.pair_list.specs.Given.{backups_for}
use Rattle.kept_routes.proofs.candidates.backups_for_each.Given as goal

abbrev pub invariant-loop-rank : goal.invariant-loop-rank
invariant-loop-rank l = record {
  backups : l.backups.items ≡ map (backups_for l.setup l.demand.s l.demand.t l.demand.class) (take l.rank l.works);
  same : l.kept ≡ l.initial.kept;
}
