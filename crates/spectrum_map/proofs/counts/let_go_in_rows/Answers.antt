use Rattle.std.proofs.Common.{◌≡◌, ◌∙◌, ap, sym, subst, ℕ, ◌+◌, ◌-◌, ◌*◌, ◌≤◌, arith, get_or, cond}
use Rattle.spectrum_map.proofs.BitLaws.{facts-between}
use Rattle.spectrum_map.proofs.RangeLaws.{is_in_row, all_rows, row_is_on, count_unchanged, rows_counted}
use Rattle.spectrum_map.proofs.counts.let_go_in_rows.Goals as goal

pub overflow_add-start : goal.overflow_add-start
overflow_add-start c =
    omega (arith, c.from-start.ensures, c.type_inv.rows c.loop-row.row-index, c.requires.order, c.requires.within)

pub let_go-requires-clause-some : goal.let_go-requires-clause-some
let_go-requires-clause-some c i low high =
    let rows = c.args.rows.now in
    let n = c.loop-row.row-index in
    let start = c.from-start.ensures in
    let inside : is_in_row (get_or rows n 0) c.args.first c.args.end i ≡ _ =
    facts-between (1024 * get_or rows n 0 + c.args.first) (1024 * get_or rows n 0 + c.args.end) i
    (omega (arith, start, low)) (omega (arith, start, high)) in
    subst (λ (n : ℕ). 1 ≤ n)
    (sym (count_unchanged (λ n. n - 1) (λ k. get_or c.args.counts.now k 0) (λ k. get_or c.loop-row.counts k 0) rows n
    c.args.first c.args.end c.requires.once c.requires.within c.loop-row-test.true c.loop-row.invariant.counts i inside))
    (c.requires.some i (row_is_on rows n c.args.first c.args.end i c.loop-row-test.true inside))

pub loop-row-preserved : goal.loop-row-preserved
loop-row-preserved c =
    let rows = c.args.rows.now in
    let n = c.loop-row.row-index in
    record {
      len = c.let_go.ensures.len ∙ c.loop-row.invariant.len;
      words = c.let_go.ensures.words ∙ c.loop-row.invariant.words;
      counts = rows_counted (λ n. n - 1) (λ k. get_or c.args.counts.now k 0) (λ k. get_or c.loop-row.counts k 0) rows n
          c.args.first c.args.end c.requires.once c.requires.within c.loop-row-test.true c.loop-row.invariant.counts
          (λ k. get_or c.let_go.new.counts k 0)
          (λ i. c.let_go.ensures.counts i
          ∙ ap (λ r. cond (is_in_row r c.args.first c.args.end i) (get_or c.loop-row.counts i 0 - 1)
          (get_or c.loop-row.counts i 0)) c.from-start.ensures);
      held = c.let_go.ensures.held;
    }

pub returns : goal.returns
returns c = record {
  len = c.loop-row.invariant.len;
  words = c.loop-row.invariant.words;
  counts = λ i. c.loop-row.invariant.counts i
      ∙ ap (λ b. cond b (get_or c.args.counts.now i 0 - 1) (get_or c.args.counts.now i 0))
      (all_rows c.args.rows.now c.loop-row.row-index c.args.first c.args.end i c.loop-row-test.false);
  held = c.loop-row.invariant.held;
}
