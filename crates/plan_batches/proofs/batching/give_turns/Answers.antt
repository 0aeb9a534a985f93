use Rattle.std.proofs.Common.{get_or, arith}
use Rattle.std.proofs.lemmas.Option.{slice_get-get_or}
use Rattle.plan_batches.specs.declared.mover.Mover.{Mover}
use Rattle.plan_batches.proofs.GivenLaws.{mover-now, given_none, given_next, given_all}
use Rattle.plan_batches.specs.Rows.{row}
use Rattle.plan_batches.proofs.RowLaws.{to_in}
use Rattle.plan_batches.proofs.batching.give_turns.Goals as goal

abbrev blank : Mover
blank = record { place = 0; low = 0; end = 0; reach = 0 }

pub loop-mover-init : goal.loop-mover-init
loop-mover-init c = (
  c.in_ok-rows.ensures.long,
  given_none c.args.services.now.list c.args.moves.now.items c.args.movers.now c.in_ok-rows.rows.items c.in_ok-rows.ensures.empty,
)

pub give_turn-requires-clause-mover : goal.give_turn-requires-clause-mover
give_turn-requires-clause-mover c =
    mover-now c.args.services.now.list c.args.moves.now.items c.loop-mover.moves.items
    (get_or c.args.movers.now c.loop-mover.mover-index blank) c.loop-mover.invariant.1.same
    (c.requires.movers.only c.loop-mover.mover-index blank c.loop-mover-test.true)

pub give_turn-requires-clause-few : goal.give_turn-requires-clause-few
give_turn-requires-clause-few c fibre t i =
    let few = c.loop-mover.invariant.1.few fibre t (to_in t (row c.loop-mover.rows.items fibre) i) in
    let test = c.loop-mover-test.true in
    omega arith

pub loop-mover-preserved : goal.loop-mover-preserved
loop-mover-preserved c =
    let i = c.loop-mover.mover-index in (
      c.in_ok-give_turn.ensures.long,
      given_next c.args.services.now.list c.args.moves.now.items c.args.movers.now c.requires.movers c.requires.order i
          (get_or c.args.movers.now i blank) (slice_get-get_or c.args.movers.now i blank c.loop-mover-test.true)
          c.loop-mover.rows.items c.give_turn.new.rows.items c.loop-mover.moves.items c.give_turn.new.moves.items
          c.in_ok-give_turn.ensures.turn c.loop-mover.invariant.1,
    )

pub returns : goal.returns
returns c =
    given_all c.args.services.now.list c.args.moves.now.items c.args.movers.now c.requires.movers c.requires.order
    c.loop-mover.mover-index c.loop-mover.rows.items c.loop-mover.moves.items c.loop-mover-test.false c.loop-mover.invariant.1
