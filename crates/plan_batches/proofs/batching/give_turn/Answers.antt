use Rattle.std.proofs.Common.{◌<◌, ◌^◌, ◌∙◌, sym, ap, subst, List, Option, None, Vec, Global}
use Rattle.std.specs.Prelude.{fold}
use Rattle.plan_batches.specs.Awaited.{awaited}
use Rattle.plan_batches.specs.Rows.{turns_on}
use Rattle.std.proofs.lemmas.Option.{slice_get_within}
use Rattle.plan_batches.specs.declared.turn.Turn.{Turn}
use Rattle.plan_batches.specs.Batches.{AreFew, batch_after}
use Rattle.plan_batches.proofs.GivenLaws.{few_after, gives-turn}
use Rattle.plan_batches.proofs.batching.give_turn.Goals as goal

pub move_given-given-requires : goal.move_given-given-requires
move_given-given-requires c =
    subst (λ (o : Option Turn). batch_after o < 2 ^ 64) (sym c.awaited_on.ensures)
    (few_after c.args.mover.now _ c.fibres_of-fibres.result.now (subst AreFew (sym c.deref.ensures.value) c.requires.few))

pub returns-clause-turn : goal.returns-clause-turn
returns-clause-turn c =
    gives-turn c.args.services.now.list c.args.rows.now.items c.enter.new.rows.items c.args.moves.now.items
    c.put_move.new.moves.items c.args.mover.now c.enter.result c.index-target.result.now c.move_given-given.result
    c.in-Some.service.now c.fibres_of-fibres.result.now c.awaited_on.result c.turn_given-turn.result
    (slice_get_within c.args.moves.now.items c.args.mover.now.place c.requires.mover.move c.requires.mover.there)
    c.index-target.ensures c.in-Some.ensures c.fibres_of-fibres.ensures
    (c.awaited_on.ensures
    ∙ ap (λ (rows : List (Vec Turn Global)). fold (awaited c.args.mover.now) None (turns_on rows c.fibres_of-fibres.result.now))
    c.deref.ensures.value)
    c.move_given-given.ensures c.put_move.ensures c.turn_given-turn.ensures c.enter.ensures.gains
