use Rattle.std.proofs.Common.{◌*◌}
use Rattle.spectrum_map.proofs.EmptyLaws.{empty-is}
use Rattle.spectrum_map.proofs.maps.Maps.new.Goals as goal

pub returns : goal.returns
returns c =
    empty-is c.args.band c.args.fibres c.in_ok-vec.field-0.items c.in_ok-vec-3.field-0.items (16 * c.from-words.result)
    (1024 * c.from.result) (c.in_ok-vec.ensures.items_if_clones_equal (λ y e. e))
    (c.in_ok-vec-3.ensures.items_if_clones_equal (λ y e. e))
