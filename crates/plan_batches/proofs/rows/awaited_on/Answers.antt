use Rattle.std.proofs.Common.{◌∙◌, ◌<◌, sym, ap, ℕ, length, List, get_or, arith}
use Rattle.std.specs.Prelude.{fold}
use Rattle.std.proofs.lemmas.Option.{slice_get-get_or}
use Rattle.compact_plan.proofs.ListSteps.{none_left}
use Rattle.plan_batches.specs.Awaited.{awaited}
use Rattle.plan_batches.specs.Rows.{row, turns_on}
use Rattle.plan_batches.proofs.RowLaws.{row_read, awaited_more}
use Rattle.plan_batches.proofs.rows.awaited_on.Goals as goal

pub loop-fibre-preserved : goal.loop-fibre-preserved
loop-fibre-preserved c =
    let fibres = c.args.fibres.now in
    let i = c.loop-fibre.fibre-index in
    let f = get_or fibres i 0 in
    let fits = (c.type_inv.fibres i).fits in
    let long = c.requires in
    let is = c.from.ensures in
    let within : c.from.result < length c.args.rows.now = omega arith in
    awaited_more c.args.mover.now c.args.rows.now fibres i f c.loop-fibre.found c.awaited_of-found.result _ _
    (slice_get-get_or fibres i 0 c.loop-fibre-test.true)
    (c.deref.ensures.value ∙ row_read c.args.rows.now c.from.result _ within c.index-rows-from.is
    ∙ ap (row c.args.rows.now) c.from.ensures) c.awaited_of-found.ensures c.loop-fibre.invariant

pub returns : goal.returns
returns c =
    let fibres = c.args.fibres.now in
    let test = c.loop-fibre-test.false in
    ap (λ (fs : List ℕ). fold (awaited c.args.mover.now) c.loop-fibre.found (turns_on c.args.rows.now fs))
    (sym (none_left fibres c.loop-fibre.fibre-index (omega arith)))
    ∙ c.loop-fibre.invariant
