-- What the sink was given when the line began.
use Rattle.room_lines.proofs.session.RoomsAnswerer.answer.Given as goal

abbrev pub ghosts-answer_behind : goal.ghosts-answer_behind
ghosts-answer_behind g a = record { bytes = g.K.Sink.given a.out.now }
