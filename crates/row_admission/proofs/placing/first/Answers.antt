use Rattle.std.specs.Option.{option_copied}
use Rattle.eon_model.specs.Rows.{counts_among}
use Rattle.backup_sharing.specs.Shared.{counts_beside}
use Rattle.row_admission.specs.RowFirst.{backup_of}
use Rattle.row_admission.proofs.PlaceLaws.{if-placed}
use Rattle.row_admission.proofs.StateLaws.{first-new, first-second}
use Rattle.row_admission.proofs.placing.first.Goals as goal

pub returns-clause-new_service : goal.returns-clause-new_service
returns-clause-new_service g c =
    first-new (g.V.Occupied.rows c.args.view.now) (counts_among c.args.sharing.now.reserves) c.args.band c.args.class
    (option_copied c.args.own) c.args.pairs.now c.first_of.result c.first_of.ensures

pub returns-clause-second_leg : goal.returns-clause-second_leg
returns-clause-second_leg g c =
    first-second (g.V.Occupied.rows c.args.view.now) (counts_among c.args.sharing.now.reserves) c.args.band c.args.class
    (option_copied c.args.own) c.args.pairs.now c.first_of.result c.first_of.ensures

pub returns-clause-place : goal.returns-clause-place
returns-clause-place g c =
    if-placed c.args.band c.parts.ensures.valid (g.V.Occupied.rows c.args.view.now)
    (counts_beside (backup_of (option_copied c.args.own)) (counts_among c.args.sharing.now.reserves)) c.args.class
    c.args.pairs.now c.first_of.result c.first_of.ensures
