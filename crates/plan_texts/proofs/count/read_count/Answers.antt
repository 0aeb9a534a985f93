use Rattle.std.proofs.Common.{◌∙◌, ap}
use Rattle.plan_texts.specs.Plans.{count_at}
use Rattle.plan_texts.proofs.CountReads.{count-read}
use Rattle.plan_texts.proofs.count.read_count.Goals as goal

pub returns : goal.returns
returns c = c.count_fields.ensures ∙ ap count_at c.new-fields.ensures ∙ count-read c.args.line.now
