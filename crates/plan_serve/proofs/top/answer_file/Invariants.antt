-- What the sink was given when the stream began.
use Rattle.plan_serve.proofs.top.answer_file.Given as goal

abbrev pub ghosts-answer_open : goal.ghosts-answer_open
ghosts-answer_open g a = record { bytes = g.K.Sink.given a.out.now }
