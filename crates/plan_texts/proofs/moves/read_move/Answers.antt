use Rattle.std.proofs.Common.{◌∙◌, ap}
use Rattle.std.specs.Option.{option_map}
use Rattle.plan_texts.specs.Told.{move_told}
use Rattle.plan_texts.specs.Moves.{move_at}
use Rattle.plan_texts.proofs.MoveReads.{move-read}
use Rattle.plan_texts.proofs.moves.read_move.Goals as goal

pub returns : goal.returns
returns c =
    ap (option_map move_told) (c.move_fields.ensures ∙ ap move_at c.new-fields.ensures) ∙ move-read c.args.line.now
