use Rattle.std.proofs.Common.{◌≡◌, ◌++◌, map, take}
use Rattle.std.specs.List.{filter_map}
use Rattle.eon_model.specs.Candidates.{sized, with_backup}
use Rattle.pair_list.proofs.demand.put_backups.Given as goal

abbrev pub invariant-loop-i : goal.invariant-loop-i
invariant-loop-i l =
    l.pairs.items ≡ l.initial.pairs.items ++ map (with_backup l.work) (filter_map (sized l.setup l.demand.rate) (take l.i l.backups))
