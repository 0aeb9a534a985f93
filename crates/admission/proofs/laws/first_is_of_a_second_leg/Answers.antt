use Rattle.std.proofs.Common.{Some}
use Rattle.eon_model.specs.Candidates.{candidates}
use Rattle.eon_model.specs.Changes.{change_service, with_next}
use Rattle.eon_model.proofs.SuitLaws.{Suits, candidates-suit}
use Rattle.admission.proofs.LegalLaws.{made-legal, first-same}
use Rattle.admission.proofs.laws.first_is_of_a_second_leg.Goals as goal

pub returns : goal.returns
returns c setup state name s avoid band legal found rest =
    first-same setup state (candidates setup s.src s.dst s.rate s.class avoid) s.class (Some s.leg)
    (λ l. change_service name (with_next l) state) (Suits setup s.src s.dst s.rate s.class)
    (candidates-suit setup s.src s.dst s.rate s.class avoid) (λ p suits has.
    made-legal setup state name s band legal found rest p suits has)
