-- The events of the code as those of the planner's definitions.
use Rattle.std.specs.Option.{option_map}
use Rattle.eon_model.specs.Events as told
use Rattle.journal_record.specs.declared.event.PathText.{PathText}
use Rattle.journal_record.specs.declared.event.LegText.{LegText}
use Rattle.journal_record.specs.declared.event.EnterText.{EnterText}
use Rattle.journal_record.specs.declared.event.Event.{Event}
use Rattle.journal_record.specs.declared.event.Event.TheVariants as event

abbrev pub path_told : PathText → told.PathText
path_told p = record { fibres = p.fibres; slot = p.slot }

abbrev pub leg_told : LegText → told.LegText
leg_told l = record { work = path_told l.work; back = option_map path_told l.back }

abbrev pub enter_told : EnterText → told.EnterText
enter_told s = record {
  name = s.name;
  src = s.src;
  dst = s.dst;
  rate = s.rate;
  class = s.class;
  leg = leg_told s.leg;
}

-- the change that it is
abbrev pub event_told : Event → told.Event
event_told (event.Enter service) = told.Event.Enter (enter_told service)
event_told (event.Leave name) = told.Event.Leave name
event_told (event.Push name to) = told.Event.Push name to
event_told (event.Finish name) = told.Event.Finish name
event_told (event.Back name) = told.Event.Back name
event_told (event.Make name class leg) = told.Event.Make name class (leg_told leg)
event_told (event.Refit name n) = told.Event.Refit name n
event_told (event.Bind digest) = told.Event.Bind digest
