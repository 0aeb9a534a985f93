use Rattle.std.proofs.Common.{◌∙◌, sym, ap, subst, [], ◌∷◌, length, length-append, arith}
use Rattle.std.specs.List.{AllByRecursion}
use Rattle.spectrum_map.specs.Kept.{IsEmpty}
use Rattle.backup_sharing.proofs.CountedLaws.{one_empty_more}
use Rattle.backup_sharing.proofs.groups.empty_maps.Goals as goal

pub loop-group-preserved : goal.loop-group-preserved
loop-group-preserved c =
    let items = c.in_ok-push.ensures.items in
    let long = ap length items ∙ length-append c.loop-group.maps.items (c.in_ok-map.map ∷ []) in
    let so_far = c.loop-group.invariant.count in
    record {
      count = omega (arith, long, so_far);
      empty = subst (AllByRecursion (IsEmpty c.args.band.now c.args.fibres)) (sym items)
          (one_empty_more c.args.band.now c.args.fibres c.loop-group.maps.items c.in_ok-map.map c.loop-group.invariant.empty
          c.in_ok-map.ensures);
    }
