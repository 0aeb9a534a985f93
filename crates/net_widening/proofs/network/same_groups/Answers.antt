use Rattle.std.proofs.Common.{refl, sym, ◌∙◌, arith}
use Rattle.eon_model.specs.Wider.{same_group}
use Rattle.net_file.specs.PrintWords.{group_at, no_group}
use Rattle.net_widening.proofs.SameLists.{stands-at, same-here, other-here}
use Rattle.net_widening.proofs.network.same_groups.Goals as goal

pub returns-then-not-same_group : goal.returns-then-not-same_group
returns-then-not-same_group c =
    let a = c.groups.ensures.count in
    let b = c.groups-2.ensures.count in
    let n = c.groups-i-end.ensures.count in
    let same = c.if-groups.false in
    let more = c.loop-i-test.true in
    let xs = c.args.net.now.groups in
    let ys = c.args.other.now.groups in
    let i = c.loop-i.i in
    other-here same_group xs ys i (group_at xs i) (group_at ys i) c.loop-i.invariant
    (stands-at xs i no_group (group_at xs i) (omega arith) refl)
    (stands-at ys i no_group (group_at ys i) (omega arith) refl)
    (sym c.same_group.ensures ∙ c.if-not-same_group.true)

pub loop-i-preserved : goal.loop-i-preserved
loop-i-preserved c =
    let a = c.groups.ensures.count in
    let b = c.groups-2.ensures.count in
    let n = c.groups-i-end.ensures.count in
    let same = c.if-groups.false in
    let more = c.loop-i-test.true in
    let xs = c.args.net.now.groups in
    let ys = c.args.other.now.groups in
    let i = c.loop-i.i in
    same-here same_group xs ys i (group_at xs i) (group_at ys i) c.loop-i.invariant
    (stands-at xs i no_group (group_at xs i) (omega arith) refl)
    (stands-at ys i no_group (group_at ys i) (omega arith) refl)
    (sym c.same_group.ensures ∙ c.if-not-same_group.false)
