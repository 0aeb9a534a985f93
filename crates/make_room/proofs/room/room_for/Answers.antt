use Rattle.std.proofs.Common.{◌∙◌, sym, refl}
use Rattle.eon_model.specs.RoomAnswers.{Covered}
use Rattle.make_room.proofs.StuckLaws.{beside_is}
use Rattle.make_room.proofs.room.room_for.Goals as goal

pub returns-in-Some-first_over : goal.returns-in-Some-first_over
returns-in-Some-first_over c = (
  sym c.first_moving.ensures ∙ c.in_default.is,
  λ setup of_band ok legal. Covered c.in-Some-first_over.name (sym c.first_over.ensures ∙ c.in-Some-first_over.is) refl,
)

pub returns : goal.returns
returns c =
    beside_is c.args.band.now c.args.services.now.list c.args.block.now c.room_beside.result
    (sym c.first_moving.ensures ∙ c.in_default.is) (sym c.first_over.ensures ∙ c.in_default-first_over.is) c.room_beside.ensures
