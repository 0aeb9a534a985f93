use Rattle.std.proofs.Common.{sym, subst, ℕ, List, get_or, arith}
use Rattle.std.proofs.lemmas.Option.{slice_get-get_or}
use Rattle.compact_plan.proofs.ListSteps.{opened, none_left}
use Rattle.plan_batches.proofs.RowLaws.{GainsIn, gains_none, gains_more, gains-on}
use Rattle.plan_batches.proofs.rows.enter.Goals as goal

pub loop-fibre-init : goal.loop-fibre-init
loop-fibre-init c = (c.requires, λ new more. more)

pub loop-fibre-preserved : goal.loop-fibre-preserved
loop-fibre-preserved c =
    let fibres = c.args.fibres.now in
    let i = c.loop-fibre.fibre-index in
    let f = get_or fibres i 0 in (
      c.enter_row.ensures.long,
      λ new more. c.loop-fibre.invariant.1 new
          (subst (λ (fs : List ℕ). GainsIn c.loop-fibre.rows.items new fs c.args.turn.now)
          (sym (opened fibres i f (slice_get-get_or fibres i 0 c.loop-fibre-test.true)))
          (gains_more c.loop-fibre.rows.items c.enter_row.new.rows.items new f _ c.args.turn.now c.in_ok-enter_row.ensures.gains more)),
    )

pub returns-clause-gains : goal.returns-clause-gains
returns-clause-gains c =
    let fibres = c.args.fibres.now in
    let rows = c.loop-fibre.rows.items in
    let test = c.loop-fibre-test.false in
    gains-on _ rows fibres c.args.turn.now (c.loop-fibre.invariant.1 rows
    (subst (λ (fs : List ℕ). GainsIn rows rows fs c.args.turn.now)
    (sym (none_left fibres c.loop-fibre.fibre-index (omega arith))) (gains_none rows c.args.turn.now)))
