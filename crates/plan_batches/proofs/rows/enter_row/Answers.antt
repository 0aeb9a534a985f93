use Rattle.std.proofs.Common.{◌≡◌, ◌<◌, sym, subst, ℕ, length, get_or, set, arith}
use Rattle.plan_batches.specs.Rows.{Gains}
use Rattle.plan_batches.proofs.RowLaws.{row_read, gains}
use Rattle.plan_batches.proofs.rows.enter_row.Goals as goal

pub returns-clause-gains : goal.returns-clause-gains
returns-clause-gains c =
    let rows = c.args.rows.now.items in
    let fits = c.ranges.fibre.fits in
    let long = c.requires in
    let is = c.from.ensures in
    let within : c.args.fibre < length rows = omega arith in
    let there : c.from.result < length rows = omega arith in
    subst (λ (n : ℕ). Gains rows (set rows n c.push.new.self) c.args.fibre c.args.turn.now) (sym c.from.ensures)
    (gains rows c.args.fibre c.index_mut.result.now c.push.new.self c.args.turn.now within
    (row_read rows c.args.fibre c.index_mut.result.now within
    (subst (λ (n : ℕ). c.index_mut.result.now ≡ get_or rows n c.index_mut.result.now) c.from.ensures c.index_mut.ensures.value)) c.in_ok-push.ensures.items)
