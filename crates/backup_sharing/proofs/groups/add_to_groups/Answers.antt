use Rattle.std.proofs.Common.{◌≡◌, ◌∙◌, sym, subst, ◌<◌, true, Bool, length, length-set, refl, arith}
use Rattle.std.specs.Prelude.{nat_lt}
use Rattle.std.proofs.lemmas.List.{get_or_default}
use Rattle.eon_model.specs.Rows.{at_each, with_held}
use Rattle.spectrum_map.specs.Kept.{Kept, IsKeptThere, holders_in, taken}
use Rattle.backup_sharing.specs.Shared.{Goes, map_at, blank}
use Rattle.backup_sharing.proofs.StepLaws.{go_none, go_on, there_next, test_next}
use Rattle.backup_sharing.proofs.groups.add_to_groups.Goals as goal

pub loop-group-init : goal.loop-group-init
loop-group-init c = record {
  len = refl;
  maps = go_none c.args.risk.now (with_held (taken c.args.fibres.now c.args.units)) c.args.maps.now;
}

pub add_where-requires : goal.add_where-requires
add_where-requires c =
    let t = taken c.args.fibres.now c.args.units in
    let n = c.loop-group.group in
    let maps = c.loop-group.maps in
    let long = c.loop-group.invariant.len in
    let near = c.loop-group-test.true in
    let here : n < length maps = omega (arith, long, near) in
    let same = get_or_default maps n c.index-maps-group.result blank here in
    record {
      there = subst (λ (m : Kept). IsKeptThere m t) (sym same)
          (there_next n c.args.risk.now (with_held t) c.args.maps.now maps c.loop-group.invariant.maps t
          (c.requires.there n near));
      room = λ hit. subst (λ (m : Kept). at_each (λ fibre u. nat_lt (holders_in m fibre u) 8192) t ≡ true) (sym same)
          (test_next n c.args.risk.now (with_held t) c.args.maps.now maps c.loop-group.invariant.maps (λ n. nat_lt n 8192) t
          (c.requires.room n near (sym c.has.ensures ∙ hit)));
    }

pub loop-group-preserved : goal.loop-group-preserved
loop-group-preserved c =
    let t = taken c.args.fibres.now c.args.units in
    let n = c.loop-group.group in
    let maps = c.loop-group.maps in
    let long = c.loop-group.invariant.len in
    let near = c.loop-group-test.true in
    let here : n < length maps = omega (arith, long, near) in
    let same = get_or_default maps n c.index-maps-group.result blank here in
    record {
      len = length-set maps n _ ∙ long;
      maps = go_on n c.args.risk.now (with_held t) c.args.maps.now maps c.loop-group.invariant.maps here
          c.add_where.new.map (subst (λ (b : Bool). Goes b (with_held t) (map_at maps n) c.add_where.new.map) c.has.ensures
          (subst (λ (m : Kept). Goes c.has.result (with_held t) m c.add_where.new.map) same c.add_where.ensures));
    }
