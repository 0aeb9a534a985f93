use Rattle.std.proofs.Common.{◌≡◌}
use Rattle.std.specs.Option.{option_copied}
use Rattle.eon_model.specs.FirstInRows.{first_in_rows}
use Rattle.eon_model.specs.Rows.{counts_among}
use Rattle.backup_sharing.specs.Shared.{counts_beside}
use Rattle.row_admission.specs.RowFirst.{backup_of}
use Rattle.row_admission.proofs.PairLaws.{found_from}
use Rattle.row_admission.proofs.placing.first_of.Given as goal

-- no pair before this one has a placement
abbrev pub invariant-loop-number : goal.invariant-loop-number
invariant-loop-number g l =
    found_from l.band (g.V.Occupied.rows l.view) (counts_beside (backup_of (option_copied l.own)) (counts_among l.sharing.reserves))
    l.class l.number l.pairs
    ≡ first_in_rows l.band (g.V.Occupied.rows l.view)
    (counts_beside (backup_of (option_copied l.own)) (counts_among l.sharing.reserves)) l.class 0 l.pairs
