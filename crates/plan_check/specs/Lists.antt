-- What is told of a list that is read.
use Rattle.std.specs.Prelude.{◌≡◌, ⊤}
use Rattle.eon_model.specs.PlanReadings as model
use Rattle.eon_model.specs.PlanReadings.{ListReading, ListFault}
use Rattle.plan_check.specs.declared.list.ListWhy.{ListWhy}
use Rattle.plan_check.specs.declared.list.ListWhy.TheVariants as why
use Rattle.plan_check.specs.declared.list.ListRefusal.{ListRefusal}
use Rattle.plan_check.specs.declared.list.ListRefusal.TheVariants as refusal

abbrev pub why_told : ListWhy → model.ListWhy
why_told why.Form = model.Form
why_told why.Busy = model.Busy
why_told why.NotLegal = model.NotLegal

-- want of memory, or the first line that is wrong and why
abbrev pub IsFaultOf : ListReading → ListRefusal → Type 0
IsFaultOf reading refusal.Memory = ⊤
IsFaultOf reading (refusal.Wrong line why) = reading ≡ ListFault line (why_told why)
