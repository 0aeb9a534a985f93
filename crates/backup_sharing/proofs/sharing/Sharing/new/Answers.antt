use Rattle.std.proofs.Common.{sym, subst, arith}
use Rattle.backup_sharing.specs.Shared.{AreCounted}
use Rattle.backup_sharing.proofs.CountedLaws.{counted-none, few_in}
use Rattle.backup_sharing.proofs.sharing.Sharing.new.Goals as goal

pub invariant_of-result : goal.invariant_of-result
invariant_of-result c =
    let few = few_in c.args.net.now c.fibres-fibres.ensures.graph in
    let few0 = few.0 in
    let few1 = few.1 in
    let fibres = c.fibres-fibres.ensures.count in
    let groups = c.groups.ensures.count in
    let first = c.from.ensures in
    let second = c.from-2.ensures in
    let count = c.in_ok-maps.ensures.count in
    subst (AreCounted c.args.band c.fibres-fibres.result c.in_ok-maps.maps.items) (sym c.none.ensures)
    (counted-none c.args.band c.fibres-fibres.result c.in_ok-maps.maps.items c.in_ok-maps.ensures.empty
    (omega (arith, few0, few1, fibres, groups, first, second, count)))
