use Rattle.std.proofs.Common.{refl, [], ◌∷◌, ◌++◌, None}
use Rattle.eon_model.specs.FirstFit.{leg_placed}
use Rattle.eon_model.specs.Candidates.{candidates}
use Rattle.eon_model.specs.Step.{node_numbered, new_service}
use Rattle.eon_model.proofs.SuitLaws.{Suits, candidates-suit}
use Rattle.admission.proofs.LegalLaws.{entered-legal, first-same}
use Rattle.admission.proofs.laws.first_is_of_a_new_service.Goals as goal

pub returns : goal.returns
returns c setup state d avoid band legal room fresh =
    let net = setup.network in
    let s = node_numbered net d.src in
    let t = node_numbered net d.dst in
    first-same setup state (candidates setup s t d.rate d.class avoid) d.class None
    (λ l. state ++ new_service net d l ∷ []) (Suits setup s t d.rate d.class)
    (candidates-suit setup s t d.rate d.class avoid) (λ p suits has.
    entered-legal setup state (new_service net d (leg_placed p)) band legal room fresh refl p refl suits has)
