use Rattle.std.proofs.Common.{◌∙◌, subst, ℕ, ◌+◌, ◌*◌}
use Rattle.eon_model.proofs.SpanLaws.{span-facts}
use Rattle.spectrum_map.specs.Bits.{bit_of, IsHighestOf}
use Rattle.spectrum_map.proofs.QueryLaws.{some_is}
use Rattle.spectrum_map.proofs.maps.is_some_one.Goals as goal

pub returns : goal.returns
returns c fibres on =
    let at = c.places_of-places.ensures in
    c.is_some.ensures
    ∙ some_is c.args.band.now fibres c.args.words.now c.args.fibre on (span-facts c.args.band.now at.band_is)
    c.args.units.now at.some c.requires.units c.places_of-places.result.first c.places_of-places.result.end at.first_is at.end_is
    c.highest_bit.result
    (subst (λ (n : ℕ). IsHighestOf (bit_of c.args.words.now) (1024 * n + c.places_of-places.result.first)
    (1024 * n + c.places_of-places.result.end) c.highest_bit.result) c.from-start.ensures c.highest_bit.ensures)
