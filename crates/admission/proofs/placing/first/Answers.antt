use Rattle.std.proofs.Common.{◌≡◌, ◌∙◌, sym, ap, ℕ, suc, ◌+◌, ◌<◌, drop, drop-cons, add-one, length, get_or, List, ◌∷◌}
use Rattle.std.specs.Option.{option_copied}
use Rattle.eon_model.specs.Candidates.{Candidate}
use Rattle.admission.proofs.FoundLaws.{place-told}
use Rattle.admission.proofs.PairLemmas.{pair_here, pair_past}
use Rattle.admission.proofs.placing.first.Goals as goal

-- the pairs from this one on
from_here : (i : ℕ) (pairs : List Candidate) (c : Candidate) → i < length pairs → c ≡ get_or pairs i c →
    drop i pairs ≡ c ∷ drop (i + 1) pairs
from_here i pairs c h e = rw add-one (drop-cons pairs i c h ∙ ap (λ x. x ∷ drop (suc i) pairs) (sym e))

pub returns-in-Some-clause-answer : goal.returns-in-Some-clause-answer
returns-in-Some-clause-answer c =
    pair_here c.args.services.now.list c.args.band c.args.class (option_copied c.args.own) c.loop-number.number
    c.args.pairs.now c.index-pairs-number.result c.in-Some.found
    (from_here c.loop-number.number c.args.pairs.now c.index-pairs-number.result c.loop-number-test.true
    c.index-pairs-number.is)
    c.loop-number-test.true (sym c.in-Some.is ∙ c.on_pair.ensures) c.loop-number.invariant

pub loop-number-preserved : goal.loop-number-preserved
loop-number-preserved c =
    pair_past c.args.services.now.list c.args.band c.args.class (option_copied c.args.own) c.loop-number.number
    c.args.pairs.now c.index-pairs-number.result
    (from_here c.loop-number.number c.args.pairs.now c.index-pairs-number.result c.loop-number-test.true
    c.index-pairs-number.is)
    (sym c.in_default.is ∙ c.on_pair.ensures) ∙ c.loop-number.invariant

pub returns-in-Some-clause-place : goal.returns-in-Some-clause-place
returns-in-Some-clause-place c =
    place-told c.args.services.now.list c.args.band c.args.class (option_copied c.args.own) c.args.pairs.now c.in-Some.found
    (returns-in-Some-clause-answer c)
