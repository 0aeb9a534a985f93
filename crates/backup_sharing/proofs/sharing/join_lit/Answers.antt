use Rattle.std.proofs.Common.{◌∙◌, ℕ, ℤ, ◌||◌, get_or}
use Rattle.spectrum_map.specs.Bits.{bit_of}
use Rattle.spectrum_map.specs.Kept.{is_unit_that}
use Rattle.block_fit.proofs.JoinLaws.{fibre_more, fibre_all, fibre_none}
use Rattle.backup_sharing.proofs.sharing.join_lit.Goals as goal

pub loop-fibre-init : goal.loop-fibre-init
loop-fibre-init g c i =
    fibre_none (g.V.Occupied.band c.args.view.now) (λ fibre u. (g.V.Occupied.rows c.args.view.now).lit fibre u)
    c.args.fibres.now (bit_of c.args.row.now.words i) i

pub loop-fibre-preserved : goal.loop-fibre-preserved
loop-fibre-preserved g c i =
    let band = g.V.Occupied.band c.args.view.now in
    let test = λ (fibre : ℕ) (u : ℤ). (g.V.Occupied.rows c.args.view.now).lit fibre u in
    c.join_lit.ensures i
    ∙ (λ k. c.loop-fibre.invariant i k || is_unit_that band (test (get_or c.args.fibres.now c.loop-fibre.fibre-index 0)) i)
    ∙ fibre_more band test c.args.fibres.now c.loop-fibre.fibre-index (bit_of c.args.row.now.words i) i
    c.loop-fibre-test.true

pub returns : goal.returns
returns g c i =
    c.loop-fibre.invariant i
    ∙ fibre_all (g.V.Occupied.band c.args.view.now) (λ fibre u. (g.V.Occupied.rows c.args.view.now).lit fibre u)
    c.args.fibres.now c.loop-fibre.fibre-index (bit_of c.args.row.now.words i) i c.loop-fibre-test.false
