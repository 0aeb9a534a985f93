use Rattle.std.proofs.Common.{◌∙◌, ap}
use Rattle.std.specs.Cmp.Lexicographic.{texts_ties}
use Rattle.eon_model.specs.Names.{same_name}
use Rattle.eon_model.specs.Services.{Service}
use Rattle.leg_state.proofs.service.Service.is_named.Goals as goal

pub returns : goal.returns
returns c =
    c.eq.ensures ∙ texts_ties c.self.inside.name c.args.name.now
    ∙ ap (λ (s : Service). same_name s.name c.args.name.now) c.self.view_is
