-- What is said of exposed and of audited services.
use Rattle.std.proofs.Common.{◌≡◌, sym, ◌∙◌, ap, ℕ, List, Some}
use Rattle.std.specs.List.{flat_map}
use Rattle.eon_model.specs.Legal.{Setup, Legal}
use Rattle.eon_model.specs.LiveFailure as model
use Rattle.eon_model.specs.LiveReplies as said
use Rattle.eon_model.specs.LiveStep.{audit_reply}
use Rattle.eon_model.specs.Names.{Name, same_name}
use Rattle.eon_model.specs.Services.{Service, State, service_of}
use Rattle.eon_model.proofs.FitFirst.{found_among}
use Rattle.live_failure.specs.Rivals.{weak_by, with_pairs, no_audit}
use Rattle.live_failure.proofs.AuditLaws.{audit-is}
use Rattle.live_failure.proofs.RivalLaws.{exposed-each}

pub weak_said : (setup : Setup) (state : State) (order failed : List ℕ) (weak : List model.Weak) → Legal setup state →
    order ≡ model.groups_in_order setup.network → weak ≡ flat_map (weak_by order state failed) state →
    said.LiveReply.Exposed weak ≡ said.LiveReply.Exposed (model.exposed setup.network state failed)
weak_said setup state order failed weak legal o e = ap said.LiveReply.Exposed
    (e ∙ ap (λ gs. flat_map (weak_by gs state failed) state) o ∙ exposed-each setup state legal setup.network failed)

pub audit_said : (setup : Setup) (state : State) (order : List ℕ) (name : Name) (own : Service) (audit : model.Audit) →
    Legal setup state → order ≡ model.groups_in_order setup.network → Some own ≡ service_of state name →
    audit ≡ with_pairs state own no_audit (model.pairs_in_order order) →
    said.LiveReply.Audit name audit ≡ audit_reply setup.network state name (service_of state name)
audit_said setup state order name own audit legal o found e =
    ap (said.LiveReply.Audit name)
    (e ∙ ap (λ gs. with_pairs state own no_audit (model.pairs_in_order gs)) o
    ∙ audit-is setup setup.network state own legal (found_among (λ s. same_name s.name name) state own (sym found)))
    ∙ ap (audit_reply setup.network state name) found
