use Rattle.std.proofs.Common.{◌∙◌, ap, ◌||◌, ◌/◌, ◌%◌}
use Rattle.spectrum_map.specs.Bits.{bit_of}
use Rattle.spectrum_map.specs.Kept.{lit_in}
use Rattle.spectrum_map.proofs.WordLaws.{in_word}
use Rattle.spectrum_map.proofs.QueryLaws.{told_place}
use Rattle.spectrum_map.proofs.maps.MapsOccupied.join_lit.Goals as goal

pub returns : goal.returns
returns c i =
    c.join.ensures i
    ∙ ap (λ b. bit_of c.args.row.now.words i || b)
    (c.lit_words.ensures.bits (i / 64) (i % 64) (in_word i)
    ∙ told_place c.args.self.now.band (lit_in c.args.self.now c.args.fibre) i)
