use Rattle.std.proofs.Common.{◌≡◌, ◌∙◌, sym, subst, ◌<◌, true, Bool, length, length-set, refl, arith}
use Rattle.std.specs.Prelude.{nat_le}
use Rattle.std.proofs.lemmas.List.{get_or_default}
use Rattle.eon_model.specs.Rows.{at_each, without_held}
use Rattle.spectrum_map.specs.Kept.{Kept, IsKeptThere, holders_in, taken}
use Rattle.backup_sharing.specs.Shared.{Goes, map_at, blank}
use Rattle.backup_sharing.proofs.StepLaws.{go_none, go_on, there_next, test_next}
use Rattle.backup_sharing.proofs.groups.take_from_groups.Goals as goal

pub loop-group-init : goal.loop-group-init
loop-group-init c = record {
  len = refl;
  maps = go_none c.args.risk.now (without_held (taken c.args.fibres.now c.args.units)) c.args.maps.now;
}

pub take_where-requires : goal.take_where-requires
take_where-requires c =
    let t = taken c.args.fibres.now c.args.units in
    let n = c.loop-group.group in
    let maps = c.loop-group.maps in
    let long = c.loop-group.invariant.len in
    let near = c.loop-group-test.true in
    let here : n < length maps = omega (arith, long, near) in
    let same = get_or_default maps n c.index-maps-group.result blank here in
    record {
      there = subst (λ (m : Kept). IsKeptThere m t) (sym same)
          (there_next n c.args.risk.now (without_held t) c.args.maps.now maps c.loop-group.invariant.maps t
          (c.requires.there n near));
      some = λ hit. subst (λ (m : Kept). at_each (λ fibre u. nat_le 1 (holders_in m fibre u)) t ≡ true) (sym same)
          (test_next n c.args.risk.now (without_held t) c.args.maps.now maps c.loop-group.invariant.maps (λ n. nat_le 1 n) t
          (c.requires.some n near (sym c.has.ensures ∙ hit)));
    }

pub loop-group-preserved : goal.loop-group-preserved
loop-group-preserved c =
    let t = taken c.args.fibres.now c.args.units in
    let n = c.loop-group.group in
    let maps = c.loop-group.maps in
    let long = c.loop-group.invariant.len in
    let near = c.loop-group-test.true in
    let here : n < length maps = omega (arith, long, near) in
    let same = get_or_default maps n c.index-maps-group.result blank here in
    record {
      len = length-set maps n _ ∙ long;
      maps = go_on n c.args.risk.now (without_held t) c.args.maps.now maps c.loop-group.invariant.maps here
          c.take_where.new.map (subst (λ (b : Bool). Goes b (without_held t) (map_at maps n) c.take_where.new.map) c.has.ensures
          (subst (λ (m : Kept). Goes c.has.result (without_held t) m c.take_where.new.map) same c.take_where.ensures));
    }
