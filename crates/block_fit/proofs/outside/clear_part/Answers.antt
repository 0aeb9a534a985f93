use Rattle.std.proofs.Common.{◌∙◌, ap, ◌&&◌, not}
use Rattle.eon_model.specs.Grid.{span_of}
use Rattle.eon_model.proofs.GridLaws.{lies_in-facts}
use Rattle.spectrum_map.specs.Bits.{bit_of}
use Rattle.block_fit.proofs.CentreLaws.{between_units}
use Rattle.block_fit.proofs.outside.clear_part.Goals as goal

pub returns : goal.returns
returns c i =
    let at = c.places_of-places.ensures in
    c.clear.ensures i
    ∙ ap (λ b. bit_of c.args.row.now.words i && not b)
    (between_units c.args.band.now c.args.part.now c.places_of-places.result.first c.places_of-places.result.end i
    (lies_in-facts (span_of c.args.band.now) c.args.part.now c.requires).0 at.some at.first_is at.end_is)
