use Rattle.std.proofs.Common.{◌∙◌, ℕ, ℤ, ◌<◌, ◌||◌, get_or}
use Rattle.spectrum_map.specs.Bits.{bit_of}
use Rattle.spectrum_map.specs.Kept.{is_unit_that}
use Rattle.spectrum_map.proofs.RangeLaws.{all_at}
use Rattle.block_fit.proofs.JoinLaws.{fibre_more, fibre_all, fibre_none}
use Rattle.backup_sharing.specs.Shared.{bars, map_at}
use Rattle.backup_sharing.proofs.barred.join_fibres.Goals as goal

pub join_groups-requires-clause-fibre : goal.join_groups-requires-clause-fibre
join_groups-requires-clause-fibre c g l =
    all_at (λ f. f < (map_at c.args.maps.now g).fibres) c.args.fibres.now c.loop-fibre.fibre-index (c.requires.fibres g l)
    c.loop-fibre-test.true

pub loop-fibre-init : goal.loop-fibre-init
loop-fibre-init c i =
    fibre_none c.args.band.now (λ fibre u. bars c.args.maps.now c.args.risk.now c.args.own.now fibre u) c.args.fibres.now
    (bit_of c.args.row.now.words i) i

pub loop-fibre-preserved : goal.loop-fibre-preserved
loop-fibre-preserved c i =
    let test = λ (fibre : ℕ) (u : ℤ). bars c.args.maps.now c.args.risk.now c.args.own.now fibre u in
    c.join_groups.ensures i
    ∙ (λ k. c.loop-fibre.invariant i k || is_unit_that c.args.band.now (test (get_or c.args.fibres.now c.loop-fibre.fibre-index 0)) i)
    ∙ fibre_more c.args.band.now test c.args.fibres.now c.loop-fibre.fibre-index (bit_of c.args.row.now.words i) i
    c.loop-fibre-test.true

pub returns : goal.returns
returns c i =
    c.loop-fibre.invariant i
    ∙ fibre_all c.args.band.now (λ fibre u. bars c.args.maps.now c.args.risk.now c.args.own.now fibre u) c.args.fibres.now
    c.loop-fibre.fibre-index (bit_of c.args.row.now.words i) i c.loop-fibre-test.false
