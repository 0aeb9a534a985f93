use Rattle.plan_report.proofs.EmptyLaws.{Legal-empty}
use Rattle.text_rows.proofs.print_empty_list.Goals as goal

pub print_reply-requires-clause-legal : goal.print_reply-requires-clause-legal
print_reply-requires-clause-legal c = rw c.new-services.ensures (Legal-empty c.in-Ok.setup)
