use Rattle.std.proofs.Common.{sym, ◌∙◌, ap, ◌≤◌, length, arith}
use Rattle.std.specs.List.{flat_map}
use Rattle.live_failure.specs.Parts.{fates_by}
use Rattle.live_failure.proofs.TextLaws.{fates-each, count-end}
use Rattle.live_failure.proofs.WalkLaws.{drop-end}
use Rattle.live_failure.proofs.fates.hit_count.Goals as goal

pub returns : goal.returns
returns c =
    let past : length c.args.services.now.list ≤ c.loop-i.i = omega (arith, c.loop-i-test.false, c.len-i-end.ensures.count) in
    count-end (fates_by c.args.group) c.args.services.now.list c.loop-i.i c.loop-i.count
    (length (flat_map (fates_by c.args.group) c.args.services.now.list)) (drop-end c.args.services.now.list c.loop-i.i past) c.loop-i.invariant.all
    ∙ ap length (sym (fates-each c.args.group c.args.services.now.list))
