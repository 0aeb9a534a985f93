use Rattle.std.proofs.Common.{subst, IsTrue}
use Rattle.leg_state.specs.Listed.{ServicesSeen, service_names}
use Rattle.eon_model.specs.Names.{differ}
use Rattle.leg_state.proofs.EntryLemmas.{names-differ}
use Rattle.leg_state.proofs.services.Services.len.Goals as goal

pub returns-clause-names : goal.returns-clause-names
returns-clause-names c =
    subst (λ (s : ServicesSeen). IsTrue (differ (service_names s.list))) c.self.view_is
    (names-differ c.self.inside.map.entries c.self.invariant c.len.ensures.unique)
