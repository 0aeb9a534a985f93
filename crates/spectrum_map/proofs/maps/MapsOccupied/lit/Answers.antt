use Rattle.std.proofs.Common.{◌≡◌, ◌∙◌, sym, ap, subst, ℕ, ◌<◌, true, List, length, arith}
use Rattle.std.specs.List.{list_any}
use Rattle.eon_model.specs.Grid.{span_of, lies_in}
use Rattle.eon_model.specs.Rows.{units_in}
use Rattle.spectrum_map.specs.Kept.{Kept, lit_in, bit_at_unit}
use Rattle.spectrum_map.proofs.maps.MapsOccupied.lit.Goals as goal

pub is_some_one-requires : goal.is_some_one-requires
is_some_one-requires c =
    let on = subst (λ (v : Kept). c.args.fibre < v.fibres) (sym c.self.view_is) c.requires.fibre in
    let count = ap length c.deref.ensures.value ∙ c.self.invariant.lit_count in
    let few = c.self.invariant.few in
    record {
      few = omega (arith, count, few);
      row = omega (arith, count, on);
      units = subst (λ (v : Kept). lies_in (span_of v.band) c.args.units ≡ true) (sym c.self.view_is) c.requires.units;
    }

pub returns : goal.returns
returns c =
    let on = subst (λ (v : Kept). c.args.fibre < v.fibres) (sym c.self.view_is) c.requires.fibre in
    c.is_some_one.ensures c.self.inside.fibres on
    ∙ ap (λ (ws : List ℕ). list_any (bit_at_unit c.self.inside.band c.self.inside.fibres ws c.args.fibre) (units_in c.args.units))
    c.deref.ensures.value
    ∙ ap (λ (v : Kept). list_any (lit_in v c.args.fibre) (units_in c.args.units)) c.self.view_is
