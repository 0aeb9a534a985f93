use Rattle.std.specs.Prelude.{IsTrue, take}
use Rattle.eon_model.specs.Lists.{numbers_differ}
use Rattle.sharing_rows.proofs.backups.differ.Given as goal

-- the fibres so far differ
abbrev pub invariant-loop-at : goal.invariant-loop-at
invariant-loop-at l = IsTrue (numbers_differ (take l.at l.fibres))
