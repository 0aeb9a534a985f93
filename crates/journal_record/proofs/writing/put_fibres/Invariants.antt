use Rattle.std.proofs.Common.{◌≡◌, ◌+◌, ◌++◌, length, take}
use Rattle.journal_record.proofs.writing.put_fibres.Given as goal

abbrev pub invariant-loop-i : goal.invariant-loop-i
invariant-loop-i l = (l.out ≡ l.fn.out ++ take l.i l.fibres) × (length l.out ≡ length l.fn.out + l.i)
