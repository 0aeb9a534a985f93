use Rattle.load_summary.proofs.SummaryLaws.{summary-unique}
use Rattle.load_summary.proofs.laws.loads_without_memory_have_one_summary.Goals as goal

pub returns : goal.returns
returns c = summary-unique
