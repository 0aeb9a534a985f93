use Rattle.std.proofs.Common.{sym, ap}
use Rattle.leg_state.specs.Listed.{ServicesSeen}
use Rattle.leg_state.proofs.EntryLemmas.{service_found}
use Rattle.leg_state.proofs.services.Services.find.Goals as goal

pub returns : goal.returns
returns c =
    sym (service_found c.args.name.now c.self.inside.map.entries c.args.self.now.list _ c.self.invariant
    (ap (λ (s : ServicesSeen). s.list) c.self.view_is) c.get.ensures.value)
