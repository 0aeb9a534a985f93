use Rattle.std.proofs.Common.{◌∙◌, sym, subst, ◌+◌, arith}
use Rattle.admission.proofs.RunLaws.{RunTo, reset, grown, run_here, run_over}
use Rattle.admission.proofs.row.first_run.Goals as goal
use Rattle.admission.proofs.row.first_run.Goals.{then-is_taken, else-is_taken}

pub loop-place-preserved : goal.loop-place-preserved
loop-place-preserved c =
    let i = c.loop-place.place in
    let run = c.loop-place.run in
    let run_to = RunTo c.args.taken.now c.args.width (i + 1) in
    elim c.if-is_taken.branch [
      | then-is_taken w ↦ subst run_to (sym w.run-is) (reset _ _ i run c.loop-place.invariant w.if-is_taken.true)
      | else-is_taken w ↦ subst run_to (sym w.run-is)
          (grown _ _ i run c.loop-place.invariant w.if-is_taken.false (λ e. c.if-run-width.false (w.run-is ∙ e)))
    ]

pub returns : goal.returns
returns c =
    run_over _ _ c.loop-place.place c.loop-place.run c.loop-place.invariant c.loop-place-test.false

pub returns-then-run-width : goal.returns-then-run-width
returns-then-run-width c =
    let i = c.loop-place.place in
    let run = c.loop-place.run in
    let some = c.requires in
    elim c.if-is_taken.branch [
      | then-is_taken w ↦ let none = w.run-is in let all = c.if-run-width.true in absurd (omega arith)
      | else-is_taken w ↦ run_here _ _ i run c.loop-place.invariant w.if-is_taken.false
          (sym w.run-is ∙ c.if-run-width.true) c.loop-place-test.true
    ]
