use Rattle.std.proofs.Common.{◌∙◌, sym, ap}
use Rattle.std.specs.Option.{option_copied}
use Rattle.push_rule.proofs.MoveSteps.{finish-done, finish-idle, back-done, back-idle}
use Rattle.push_rule.proofs.ending.end.Goals as goal

pub returns-then-is_moving : goal.returns-then-is_moving
returns-then-is_moving c =
    let found = sym c.find.ensures ∙ ap option_copied c.in-Some.is in
    let moves = sym c.is_moving.ensures ∙ c.if-is_moving.true in
    record {
      finish = finish-done c.args.services.now.list c.args.name.now c.in-Some.service.now found moves;
      back = back-done c.args.services.now.list c.args.name.now c.in-Some.service.now found moves;
    }

pub returns-else-is_moving : goal.returns-else-is_moving
returns-else-is_moving c =
    let found = sym c.find.ensures ∙ ap option_copied c.in-Some.is in
    let rests = sym c.is_moving.ensures ∙ c.if-is_moving.false in
    record {
      finish = finish-idle c.args.services.now.list c.args.name.now c.in-Some.service.now found rests;
      back = back-idle c.args.services.now.list c.args.name.now c.in-Some.service.now found rests;
    }
