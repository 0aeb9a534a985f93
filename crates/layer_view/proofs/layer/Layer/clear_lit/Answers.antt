use Rattle.std.proofs.Common.{◌≡◌, ◌∙◌, sym, subst, refl, true, ◌&&◌, not, get_or}
use Rattle.eon_model.specs.Grid.{Band, has_unit, lies_in, span_of}
use Rattle.layer_view.specs.Layers.{lit_over, with_row}
use Rattle.layer_view.proofs.ChangeLaws.{dark_start, dark_step, dark_end}
use Rattle.layer_view.proofs.layer.Layer.clear_lit.Goals as goal

pub loop-fibre-init : goal.loop-fibre-init
loop-fibre-init g c = record {
  lit = dark_start _ c.args.fibres.now c.args.units;
  shape = record { band = refl; count = refl };
  base = refl;
  same_reference = refl;
}

pub loop-fibre-preserved : goal.loop-fibre-preserved
loop-fibre-preserved g c =
    let now = c.loop-fibre.self in
    let next = c.darken.new.self in
    let so = c.loop-fibre.invariant in
    let start = c.args.self.now in
    let band = now.rows.now.band in
    let f = get_or c.args.fibres.now c.loop-fibre.fibre-index 0 in
    let inside = subst (λ (b : Band). lies_in (span_of b) c.args.units ≡ true) (sym so.shape.band) c.requires.units_are in
    let changes = (λ i. lit_over (g.V.Occupied.rows (sym so.base i).now).lit next.rows.now next.own)
    ∙ c.darken.ensures.lit
    ∙ (λ i. with_row (lit_over (g.V.Occupied.rows (so.base i).now).lit now.rows.now now.own) band f
    (λ u. lit_over (g.V.Occupied.rows (so.base i).now).lit now.rows.now now.own f u && not (has_unit c.args.units u))) in
    record {
      lit = dark_step band c.args.units inside (lit_over (g.V.Occupied.rows start.base.now).lit start.rows.now start.own)
          (lit_over (g.V.Occupied.rows start.base.now).lit now.rows.now now.own) c.args.fibres.now
          c.loop-fibre.fibre-index c.loop-fibre-test.true so.lit
          (lit_over (g.V.Occupied.rows start.base.now).lit next.rows.now next.own) changes;
      shape = record {
        band = c.darken.ensures.shape.band ∙ so.shape.band;
        count = c.darken.ensures.shape.count ∙ so.shape.count;
      };
      base = c.darken.ensures.base ∙ so.base;
      same_reference = c.darken.ensures.same_reference ∙ so.same_reference;
    }

pub returns-clause-rows : goal.returns-clause-rows
returns-clause-rows g c =
    let start = c.args.self.now in
    dark_end (lit_over (g.V.Occupied.rows start.base.now).lit start.rows.now start.own)
    (lit_over (g.V.Occupied.rows start.base.now).lit c.loop-fibre.self.rows.now c.loop-fibre.self.own)
    (g.V.Occupied.rows start.base.now).held c.args.fibres.now c.loop-fibre.fibre-index c.args.units
    c.loop-fibre-test.false c.loop-fibre.invariant.lit
