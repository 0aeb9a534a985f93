use Rattle.std.proofs.Common.{◌-◌, length, take, drop}
use Rattle.std.proofs.lemmas.List.{take_rest}
use Rattle.eon_base.proofs.NameLemmas.{not_zero}
use Rattle.eon_base.proofs.NumberLemmas.{minus-ok, integer_value}
use Rattle.eon_base.proofs.number.read_i64.Goals as goal

pub returns-then-bytes-eq45-clause-read : goal.returns-then-bytes-eq45-clause-read
returns-then-bytes-eq45-clause-read c =
    minus-ok c.args.bytes.now (take (length c.args.bytes.now - 1) (drop 1 c.args.bytes.now)) c.in_ok-size.size
    c.negative.result (not_zero _ c.if-is_empty.ensures) c.if-bytes-eq45.true (take_rest c.args.bytes.now 1) c.in_ok-size.ensures.read c.negative.ensures

pub returns-then-bytes-eq45-clause-value : goal.returns-then-bytes-eq45-clause-value
returns-then-bytes-eq45-clause-value c =
    integer_value c.args.bytes.now c.negative.result (returns-then-bytes-eq45-clause-read c)
