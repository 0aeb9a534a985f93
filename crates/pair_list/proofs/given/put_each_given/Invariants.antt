use Rattle.std.proofs.Common.{◌≡◌, ◌++◌, take}
use Rattle.std.specs.List.{filter_map}
use Rattle.eon_model.specs.Candidates.{sized, candidates_over}
use Rattle.pair_list.proofs.given.put_each_given.Given as goal

abbrev pub invariant-loop-i : goal.invariant-loop-i
invariant-loop-i l =
    l.pairs.items
    ≡ l.initial.pairs.items ++ candidates_over l.setup l.demand.s l.demand.t l.demand.rate l.demand.class
    (filter_map (sized l.setup l.demand.rate) (take l.i l.works))
