use Rattle.std.proofs.Common.{◌≡◌, ◌∙◌, sym, ap, drop, ◌+◌, ◌-◌, List, ℕ, [], ◌∷◌, ◌++◌}
use Rattle.std.specs.Option.{option_map}
use Rattle.std.proofs.lemmas.List.{map-append}
use Rattle.eon_model.specs.Plan as model
use Rattle.eon_model.specs.PlanReadings.{moves_from}
use Rattle.plan_texts.specs.Told.{move_told, moves_told}
use Rattle.plan_texts.proofs.PlanReads.{goes-on, stops-at}
use Rattle.plan_texts.proofs.plan.read_plan.Goals as goal

pub returns-in-None-clause-refused : goal.returns-in-None-clause-refused
returns-in-None-clause-refused c =
    stops-at _ c.loop-i.i c.in-Some.head.batches c.loop-i.last c.in-Some.head.moves (moves_told c.loop-i.moves.items)
    c.loop-i.lines.0 c.loop-i.lines.1 c.loop-i-test.true
    (sym c.line_move.ensures.value ∙ ap (option_map move_told) c.in-None.is) c.loop-i.invariant

pub loop-i-preserved : goal.loop-i-preserved
loop-i-preserved c =
    let next = c.in-Some-line_move.next in
    let lines = c.loop-i.lines in
    let all = goes-on _ c.loop-i.i c.in-Some.head.batches c.loop-i.last c.in-Some.head.moves (moves_told c.loop-i.moves.items)
    lines.0 lines.1 (move_told next) c.loop-i-test.true
    (sym c.line_move.ensures.value ∙ ap (option_map move_told) c.in-Some-line_move.is) c.loop-i.invariant in
    let told : moves_told c.keep.new.moves.items ≡ moves_told c.loop-i.moves.items ++ move_told next ∷ [] =
    ap moves_told c.in_ok-keep-in-Some-line_move.ensures ∙ map-append move_told c.loop-i.moves.items (next ∷ []) in
    all
    ∙ ap (λ (ms : List model.Move). moves_from (c.loop-i.i + 1 + 2) c.in-Some.head.batches next.batch
    (c.in-Some.head.moves - (c.loop-i.i + 1)) ms (drop 1 lines.0) lines.1) (sym told)
    ∙ ap (λ (ls : List (List ℕ) × List ℕ). moves_from (c.loop-i.i + 1 + 2) c.in-Some.head.batches next.batch
    (c.in-Some.head.moves - (c.loop-i.i + 1)) (moves_told c.keep.new.moves.items) ls.0 ls.1) (sym c.line_move.ensures.after)
