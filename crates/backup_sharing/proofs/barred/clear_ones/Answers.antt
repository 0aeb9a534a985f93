use Rattle.std.proofs.Common.{◌≡◌, ◌∙◌, ap, ◌+◌, ◌&&◌, not, nat_eq, get_or, arith}
use Rattle.spectrum_map.specs.Bits.{bit_of, is_between}
use Rattle.backup_sharing.proofs.BarLaws.{one_more, none_cleared}
use Rattle.backup_sharing.proofs.barred.clear_ones.Goals as goal

pub loop-i-init : goal.loop-i-init
loop-i-init c k = none_cleared c.args.first k (bit_of c.args.row.now.words k) (nat_eq (get_or c.args.counts.now k 0) 1)

pub loop-i-preserved : goal.loop-i-preserved
loop-i-preserved c k =
    let i = c.loop-i.i in
    let one = nat_eq (get_or c.args.counts.now k 0) 1 in
    c.clear_one.ensures k
    ∙ ap (λ b. b && not (is_between i (i + 1) k && one)) (c.loop-i.invariant k)
    ∙ one_more c.args.first i k (bit_of c.args.row.now.words k) one c.loop-i.auto.i

pub returns : goal.returns
returns c k =
    let end : c.loop-i.i ≡ c.args.end =
    omega (arith, c.loop-i-test.false, c.loop-i.auto.i-end c.requires.order) in
    c.loop-i.invariant k
    ∙ ap (λ n. bit_of c.args.row.now.words k && not (is_between c.args.first n k && nat_eq (get_or c.args.counts.now k 0) 1)) end
