use Rattle.eon_base.proofs.NameLemmas.{name_read, none_read, not_zero}
use Rattle.eon_base.proofs.name.Name.read.Goals as goal

pub invariant_of-result : goal.invariant_of-result
invariant_of-result c =
    (name_read c.args.bytes.now c.padded.result (not_zero _ c.if-is_empty.ensures) c.if-len-gt-MAX_LEN.false
    c.in-None.ensures c.padded.ensures).0

pub returns-in-Some-clause-value : goal.returns-in-Some-clause-value
returns-in-Some-clause-value c =
    none_read c.args.bytes.now c.in-Some.at (not_zero _ c.if-is_empty.ensures) c.if-len-gt-MAX_LEN.false
    c.in-Some.ensures

pub returns-in-None-clause-value : goal.returns-in-None-clause-value
returns-in-None-clause-value c =
    (name_read c.args.bytes.now c.padded.result (not_zero _ c.if-is_empty.ensures) c.if-len-gt-MAX_LEN.false
    c.in-None.ensures c.padded.ensures).1

pub returns-in-None-clause-valid : goal.returns-in-None-clause-valid
returns-in-None-clause-valid c = (invariant_of-result c).name
