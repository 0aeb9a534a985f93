use Rattle.std.proofs.Common.{◌≡◌}
use Rattle.std.specs.Option.{option_copied}
use Rattle.admission.specs.FirstClear.{first_clear}
use Rattle.admission.proofs.PairLemmas.{found_from}
use Rattle.admission.proofs.placing.first.Given as goal

-- no pair before this one has a placement
abbrev pub invariant-loop-number : goal.invariant-loop-number
invariant-loop-number l =
    found_from l.services.list l.band l.class (option_copied l.own) l.number l.pairs
    ≡ first_clear l.services.list l.band l.class l.pairs (option_copied l.own)
