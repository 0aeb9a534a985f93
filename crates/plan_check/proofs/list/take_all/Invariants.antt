-- What is left is read after the services so far.
use Rattle.std.proofs.Common.{◌≡◌, ◌+◌, ◌-◌, None}
use Rattle.eon_model.specs.PlanReadings.{services_from, list_reading}
use Rattle.plan_check.proofs.list.take_all.Given as goal

abbrev pub invariant-loop-i : goal.invariant-loop-i
invariant-loop-i l = record {
  setup : l.core.setup ≡ l.initial.core.setup;
  waiting : l.core.waiting ≡ None;
  so_far : list_reading l.initial.core.setup l.bytes
      ≡ services_from l.initial.core.setup (l.i + 2) (l.count - l.i) l.core.state l.lines.0 l.lines.1;
}
