-- Services of the code's lines as those of the planner's definitions.
use Rattle.std.specs.Option.{option_map}
use Rattle.eon_model.specs.PlanTexts as model
use Rattle.plan_texts.specs.declared.service.PathLine.{PathLine}
use Rattle.plan_texts.specs.declared.service.LegLine.{LegLine}
use Rattle.plan_texts.specs.declared.service.ServiceLine.{ServiceLine}

abbrev pub path_told : PathLine → model.PathLine
path_told p = record { fibres = p.fibres; n = p.n; m = p.m }

abbrev pub leg_told : LegLine → model.LegLine
leg_told l = record { work = path_told l.work; back = option_map path_told l.back }

abbrev pub service_told : ServiceLine → model.ServiceLine
service_told s = record {
  name = s.demand.name;
  src = s.demand.src;
  dst = s.demand.dst;
  rate = s.demand.rate;
  class = s.demand.class;
  leg = leg_told s.leg;
  to = s.to;
  next = option_map leg_told s.next;
}
