use Rattle.route_list.proofs.least.least_walk.Given as goal

abbrev pub ghosts-least_walk_blank : goal.ghosts-least_walk_blank
ghosts-least_walk_blank g a = record { name = a.blank.name; parts = a.blank.parts }
