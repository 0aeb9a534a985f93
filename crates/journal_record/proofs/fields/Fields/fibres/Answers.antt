use Rattle.std.proofs.Common.{rules}
use Rattle.journal_record.proofs.FieldSteps.{are_numbers}
use Rattle.journal_record.proofs.fields.Fields.fibres.Goals as goal

-- src/fields.rt
pub make-fibres-requires : goal.make-fibres-requires
make-fibres-requires c = are_numbers c.front-there.result.now (search rules) (search rules)
