-- The code of a path that is asked for.
use Rattle.std.specs.Prelude.{ℤ, refl}
use Rattle.std.specs.Coded.{Coded, code_by, coded×, coded_ℤ}
use Rattle.eon_model.specs.contracts.Part as part
use Rattle.eon_model.specs.declared.Part.{Part}
use Rattle.eon_model.specs.Codes.{route_code}
use Rattle.eon_model.specs.Route.{Route}
use Rattle.eon_model.specs.Step.{AskedPath}

-- by its part, its route and its centre
abbrev pub asked_code : Coded AskedPath
asked_code = code_by (Part × (Route × ℤ)) (coded× (part.the_row).coded (coded× route_code coded_ℤ))
    (λ p. (p.part, (p.route, p.n))) (λ p. record { part = p.0; route = p.1.0; n = p.1.1 }) (λ _. refl)
