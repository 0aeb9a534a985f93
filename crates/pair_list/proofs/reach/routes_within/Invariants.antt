use Rattle.pair_list.proofs.reach.routes_within.Given as goal

abbrev pub ghosts-routes_within_blank : goal.ghosts-routes_within_blank
ghosts-routes_within_blank a = record { name = a.blank.name; parts = a.blank.parts }
