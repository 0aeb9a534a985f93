use Rattle.std.proofs.Common.{◌∙◌, ap, ◌+◌, ◌*◌, ◌≤◌, ◌&&◌, not, arith, length}
use Rattle.spectrum_map.specs.Bits.{bit_of, is_between}
use Rattle.spectrum_map.proofs.RangeLaws.{rows_cleared, all_at, all_rows}
use Rattle.spectrum_map.proofs.bits.clear_in_rows.Goals as goal

pub overflow_add-start : goal.overflow_add-start
overflow_add-start c =
    omega (arith, c.from-start.ensures, c.type_inv.rows c.loop-row.row-index, c.requires.order, c.requires.within)

pub clear_bits-requires : goal.clear_bits-requires
clear_bits-requires c =
    let row = c.from-start.ensures in
    let long = c.loop-row.invariant.len in
    let room = all_at (λ r. 16 * r + 16 ≤ length c.args.words.now) c.args.rows.now c.loop-row.row-index c.requires.rows
    c.loop-row-test.true in
    record {
      few = omega (arith, long, c.requires.few);
      within = omega (arith, row, long, room, c.requires.within);
    }

pub loop-row-preserved : goal.loop-row-preserved
loop-row-preserved c = record {
  len = c.clear_bits.ensures.len ∙ c.loop-row.invariant.len;
  bits = rows_cleared (bit_of c.args.words.now) (bit_of c.loop-row.words) c.args.rows.now c.loop-row.row-index c.args.first
      c.args.end c.loop-row-test.true c.loop-row.invariant.bits (bit_of c.clear_bits.new.words)
      (λ i. c.clear_bits.ensures.bits i
      ∙ ap (λ r. bit_of c.loop-row.words i && not (is_between (1024 * r + c.args.first) (1024 * r + c.args.end) i))
      c.from-start.ensures);
}

pub returns : goal.returns
returns c = record {
  len = c.loop-row.invariant.len;
  bits = λ i. c.loop-row.invariant.bits i
      ∙ ap (λ b. bit_of c.args.words.now i && not b)
      (all_rows c.args.rows.now c.loop-row.row-index c.args.first c.args.end i c.loop-row-test.false);
}
