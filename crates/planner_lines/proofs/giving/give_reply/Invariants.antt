-- What the sink had been given before the reply.
use Rattle.planner_lines.proofs.giving.give_reply.Given as goal

abbrev pub ghosts-give_behind : goal.ghosts-give_behind
ghosts-give_behind g a = record { bytes = g.K.Sink.given a.out.now }
