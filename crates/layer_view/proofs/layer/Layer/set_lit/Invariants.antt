use Rattle.std.proofs.Common.{◌≡◌}
use Rattle.layer_view.specs.Layers.{lit_over, KeepsShape}
use Rattle.layer_view.proofs.ChangeLaws.{LitTo}
use Rattle.layer_view.proofs.layer.Layer.set_lit.Given as goal

-- the units are lit on the fibres so far
abbrev pub invariant-loop-fibre : goal.invariant-loop-fibre
invariant-loop-fibre g l = record {
  lit : LitTo (lit_over (g.V.Occupied.rows l.initial.self.base.now).lit l.initial.self.rows.now l.initial.self.own)
      (lit_over (g.V.Occupied.rows l.initial.self.base.now).lit l.self.rows.now l.self.own) l.fibres l.fibre-index l.units;
  shape : KeepsShape l.initial.self.rows.now l.self.rows.now;
  base : l.self.base ≡ l.initial.self.base;
  same_reference : l.self.rows.ghost_name ≡ l.initial.self.rows.ghost_name;
}
