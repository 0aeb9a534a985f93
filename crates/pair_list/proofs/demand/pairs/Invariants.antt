use Rattle.pair_list.proofs.demand.pairs.Given as goal

abbrev pub ghosts-pairs_blank : goal.ghosts-pairs_blank
ghosts-pairs_blank a = record { name = a.blank.name; parts = a.blank.parts }
