-- What services are counted for.
use Rattle.std.specs.Prelude.{Bool}
use Rattle.eon_model.specs.Legal.{is_protected}
use Rattle.eon_model.specs.Services.{Service, is_drifting, is_making}
use Rattle.plan_report.specs.declared.totals.Feature.{Feature}
use Rattle.plan_report.specs.declared.totals.Feature.TheVariants.{Protected, Drifting, Making}

-- whether the service has it
abbrev pub has_feature : Feature → Service → Bool
has_feature Protected s = is_protected s.class
has_feature Drifting s = is_drifting s.leg
has_feature Making s = is_making s
