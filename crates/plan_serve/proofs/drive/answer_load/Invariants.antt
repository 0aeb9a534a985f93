use Rattle.std.specs.Prelude.{◌≡◌}
use Rattle.plan_serve.specs.Driving.{DrivenTo}
use Rattle.plan_serve.proofs.drive.answer_load.Given as goal

-- so many are answered, on the same network
abbrev pub invariant-loop-i : goal.invariant-loop-i
invariant-loop-i l =
    (l.core.setup ≡ l.initial.core.setup) × DrivenTo l.core.setup l.seed l.i l.before l.word l.core.state l.tally
