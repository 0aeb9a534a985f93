use Rattle.std.proofs.Common.{◌∙◌, refl, sym, ap, ◌<◌, length, take, Some, arith}
use Rattle.std.specs.Option.{option_map}
use Rattle.std.proofs.lemmas.Bool.{and_from}
use Rattle.std.proofs.lemmas.List.{length-map}
use Rattle.eon_model.specs.NetworkText.{is_setup}
use Rattle.eon_model.specs.Legal.{Setup, is_legal}
use Rattle.eon_model.specs.Events.{Event, apply}
use Rattle.eon_model.specs.Replay.{can_follow}
use Rattle.eon_model.proofs.MovesAgain.{move_parts}
use Rattle.plan_texts.specs.declared.moves.Move.{Move}
use Rattle.plan_texts.specs.Told.{move_told, moves_told}
use Rattle.plan_check.specs.Told.{bad_told}
use Rattle.plan_check.specs.Judged.{bad_now}
use Rattle.plan_check.proofs.Flights.{flight-start}
use Rattle.plan_check.proofs.JudgeSteps.{told-at, told-take, due-before, in-range-at, step-may-land, step-landed, step-bad, step-may-begin, step-begun}
use Rattle.plan_check.proofs.judging.judge.Goals as goal

pub loop-at-init : goal.loop-at-init
loop-at-init c = record {
  setup = refl;
  flight = flight-start c.args.core.now.setup c.args.core.now.state (moves_told c.args.moves.now) c.requires.order;
}

pub land-requires-clause-in_range : goal.land-requires-clause-in_range
land-requires-clause-in_range c =
    let ms = moves_told c.args.moves.now in
    let due = sym c.is_due.ensures ∙ c.if-is_due.true in
    let before = due-before ms c.loop-at.landed c.loop-at.at due in
    let test = c.loop-at-test.true in
    let long = length-map c.args.moves.now move_told in
    let below : c.loop-at.at < length ms = omega arith in
    let here : c.loop-at.landed < length c.args.moves.now = omega arith in
    let elem = c.index-moves-landed.result in
    let there = told-at c.args.moves.now c.loop-at.landed elem here ∙ ap (λ (o : Move). Some (move_told o)) (sym c.index-moves-landed.is) in
    let line = in-range-at ms c.loop-at.landed (move_told elem) c.requires.in_range there in
    line

pub land-requires-clause-follows : goal.land-requires-clause-follows
land-requires-clause-follows c =
    let ms = moves_told c.args.moves.now in
    let due = sym c.is_due.ensures ∙ c.if-is_due.true in
    let before = due-before ms c.loop-at.landed c.loop-at.at due in
    let test = c.loop-at-test.true in
    let long = length-map c.args.moves.now move_told in
    let below : c.loop-at.at < length ms = omega arith in
    let here : c.loop-at.landed < length c.args.moves.now = omega arith in
    let elem = c.index-moves-landed.result in
    let there = told-at c.args.moves.now c.loop-at.landed elem here ∙ ap (λ (o : Move). Some (move_told o)) (sym c.index-moves-landed.is) in
    let line = in-range-at ms c.loop-at.landed (move_told elem) c.requires.in_range there in
    let ok = ap is_setup (sym c.loop-at.invariant.setup) ∙ c.setup.ensures.in_range in
    let legal = ap (λ (s : Setup). is_legal s c.loop-at.core.state) (sym c.loop-at.invariant.setup) ∙ c.services.ensures.legal in
    ap (λ (s : Setup). can_follow s c.loop-at.core.state (Event.Finish elem.name)) c.loop-at.invariant.setup
    ∙ step-may-land c.args.core.now.setup c.args.core.now.state c.requires.rest ms c.loop-at.core.state c.loop-at.landed c.loop-at.at c.loop-at.invariant.flight below
    (move_told elem) there due ok legal line

pub loop-at-preserved-then-is_due : goal.loop-at-preserved-then-is_due
loop-at-preserved-then-is_due c =
    let ms = moves_told c.args.moves.now in
    let due = sym c.is_due.ensures ∙ c.if-is_due.true in
    let before = due-before ms c.loop-at.landed c.loop-at.at due in
    let test = c.loop-at-test.true in
    let long = length-map c.args.moves.now move_told in
    let below : c.loop-at.at < length ms = omega arith in
    let here : c.loop-at.landed < length c.args.moves.now = omega arith in
    let elem = c.index-moves-landed.result in
    let there = told-at c.args.moves.now c.loop-at.landed elem here ∙ ap (λ (o : Move). Some (move_told o)) (sym c.index-moves-landed.is) in
    let line = in-range-at ms c.loop-at.landed (move_told elem) c.requires.in_range there in
    record {
      setup = c.land.ensures.setup ∙ c.loop-at.invariant.setup;
      flight = step-landed c.args.core.now.setup c.args.core.now.state c.requires.rest ms c.loop-at.core.state c.loop-at.landed c.loop-at.at c.loop-at.invariant.flight below
          (move_told elem) there due c.land.new.core.state (c.land.ensures.state
          ∙ ap (λ (s : Setup). apply s.network c.loop-at.core.state (Event.Finish elem.name)) c.loop-at.invariant.setup);
    }

pub returns-in-Some-clause-bad : goal.returns-in-Some-clause-bad
returns-in-Some-clause-bad c =
    let ms = moves_told c.args.moves.now in
    let due = sym c.is_due.ensures ∙ c.if-is_due.false in
    let test = c.loop-at-test.true in
    let long = length-map c.args.moves.now move_told in
    let below : c.loop-at.at < length ms = omega arith in
    let elem = c.index-moves-at.result in
    let there = told-at c.args.moves.now c.loop-at.at elem test ∙ ap (λ (o : Move). Some (move_told o)) (sym c.index-moves-at.is) in
    let line = in-range-at ms c.loop-at.at (move_told elem) c.requires.in_range there in
    let earlier = moves_told (take c.loop-at.at c.args.moves.now) in
    let same = told-take c.loop-at.at c.args.moves.now in
    let now = c.loop-at.core.state in
    let verdict = ap (λ (s : Setup). bad_now s now earlier (move_told elem)) (sym c.loop-at.invariant.setup) ∙ sym c.bad_of.ensures in
    sym (step-bad c.args.core.now.setup c.args.core.now.state c.requires.rest ms c.loop-at.core.state c.loop-at.landed c.loop-at.at c.loop-at.invariant.flight below
    (move_told elem) there due earlier same (bad_told c.in-Some.bad) (verdict ∙ ap (option_map bad_told) c.in-Some.is))

pub begin-requires-clause-in_range : goal.begin-requires-clause-in_range
begin-requires-clause-in_range c =
    let ms = moves_told c.args.moves.now in
    let due = sym c.is_due.ensures ∙ c.if-is_due.false in
    let test = c.loop-at-test.true in
    let long = length-map c.args.moves.now move_told in
    let below : c.loop-at.at < length ms = omega arith in
    let elem = c.index-moves-at.result in
    let there = told-at c.args.moves.now c.loop-at.at elem test ∙ ap (λ (o : Move). Some (move_told o)) (sym c.index-moves-at.is) in
    let line = in-range-at ms c.loop-at.at (move_told elem) c.requires.in_range there in
    let earlier = moves_told (take c.loop-at.at c.args.moves.now) in
    let same = told-take c.loop-at.at c.args.moves.now in
    let now = c.loop-at.core.state in
    let verdict = ap (λ (s : Setup). bad_now s now earlier (move_told elem)) (sym c.loop-at.invariant.setup) ∙ sym c.bad_of.ensures in
    let p = move_parts (move_told elem) line in
    and_from _ _ p.name p.to

pub begin-requires-clause-follows : goal.begin-requires-clause-follows
begin-requires-clause-follows c =
    let ms = moves_told c.args.moves.now in
    let due = sym c.is_due.ensures ∙ c.if-is_due.false in
    let test = c.loop-at-test.true in
    let long = length-map c.args.moves.now move_told in
    let below : c.loop-at.at < length ms = omega arith in
    let elem = c.index-moves-at.result in
    let there = told-at c.args.moves.now c.loop-at.at elem test ∙ ap (λ (o : Move). Some (move_told o)) (sym c.index-moves-at.is) in
    let line = in-range-at ms c.loop-at.at (move_told elem) c.requires.in_range there in
    let earlier = moves_told (take c.loop-at.at c.args.moves.now) in
    let same = told-take c.loop-at.at c.args.moves.now in
    let now = c.loop-at.core.state in
    let verdict = ap (λ (s : Setup). bad_now s now earlier (move_told elem)) (sym c.loop-at.invariant.setup) ∙ sym c.bad_of.ensures in
    let ok = ap is_setup (sym c.loop-at.invariant.setup) ∙ c.setup.ensures.in_range in
    let legal = ap (λ (s : Setup). is_legal s c.loop-at.core.state) (sym c.loop-at.invariant.setup) ∙ c.services.ensures.legal in
    ap (λ (s : Setup). can_follow s c.loop-at.core.state (Event.Push elem.name elem.to)) c.loop-at.invariant.setup
    ∙ step-may-begin c.args.core.now.setup c.args.core.now.state c.requires.rest ms c.loop-at.core.state c.loop-at.landed c.loop-at.at c.loop-at.invariant.flight below
    (move_told elem) there due earlier same (verdict ∙ ap (option_map bad_told) c.in_default.is) ok legal line

pub loop-at-preserved : goal.loop-at-preserved
loop-at-preserved c =
    let ms = moves_told c.args.moves.now in
    let due = sym c.is_due.ensures ∙ c.if-is_due.false in
    let test = c.loop-at-test.true in
    let long = length-map c.args.moves.now move_told in
    let below : c.loop-at.at < length ms = omega arith in
    let elem = c.index-moves-at.result in
    let there = told-at c.args.moves.now c.loop-at.at elem test ∙ ap (λ (o : Move). Some (move_told o)) (sym c.index-moves-at.is) in
    let line = in-range-at ms c.loop-at.at (move_told elem) c.requires.in_range there in
    let earlier = moves_told (take c.loop-at.at c.args.moves.now) in
    let same = told-take c.loop-at.at c.args.moves.now in
    let now = c.loop-at.core.state in
    let verdict = ap (λ (s : Setup). bad_now s now earlier (move_told elem)) (sym c.loop-at.invariant.setup) ∙ sym c.bad_of.ensures in
    let ok = ap is_setup (sym c.loop-at.invariant.setup) ∙ c.setup.ensures.in_range in
    let legal = ap (λ (s : Setup). is_legal s c.loop-at.core.state) (sym c.loop-at.invariant.setup) ∙ c.services.ensures.legal in
    record {
      setup = c.begin.ensures.setup ∙ c.loop-at.invariant.setup;
      flight = step-begun c.args.core.now.setup c.args.core.now.state c.requires.rest ms c.loop-at.core.state c.loop-at.landed c.loop-at.at c.loop-at.invariant.flight below
          (move_told elem) there due earlier same (verdict ∙ ap (option_map bad_told) c.in_default.is) ok legal line c.begin.new.core.state (c.begin.ensures.state
          ∙ ap (λ (s : Setup). apply s.network c.loop-at.core.state (Event.Push elem.name elem.to)) c.loop-at.invariant.setup);
    }
