use Rattle.std.proofs.Common.{◌∙◌, ◌<◌, true, length, set, arith}
use Rattle.eon_model.proofs.SpanLaws.{span-facts}
use Rattle.layer_view.specs.Layers.{lit_over}
use Rattle.layer_view.proofs.ChangeLaws.{row_taken}
use Rattle.layer_view.proofs.layer.Layer.take_over.Goals as goal

pub returns-clause-lit : goal.returns-clause-lit
returns-clause-lit g c test marks =
    let kept = c.args.self.now.rows.now in
    let own = c.args.self.now.own in
    let lit = (g.V.Occupied.rows c.args.self.now.base.now).lit in
    let known : c.args.fibre < length own = omega arith in
    (λ i. lit_over lit (record { band = c.set_row.ensures.band i; rows = c.set_row.ensures.rows i })
    (set own (c.from.ensures i) true))
    ∙ row_taken lit kept own c.args.fibre c.args.row test (span-facts kept.band c.set_row.ensures.valid) known
    c.requires.there marks
