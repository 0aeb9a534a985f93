use Rattle.std.proofs.Common.{◌∙◌, ap, ℤ, ◌||◌, ◌/◌, ◌%◌, not, nat_eq}
use Rattle.spectrum_map.specs.Bits.{bit_of}
use Rattle.spectrum_map.specs.Kept.{holders_in}
use Rattle.spectrum_map.proofs.WordLaws.{in_word}
use Rattle.spectrum_map.proofs.QueryLaws.{told_place}
use Rattle.spectrum_map.proofs.maps.MapsOccupied.join_held.Goals as goal

pub returns : goal.returns
returns c i =
    c.join.ensures i
    ∙ ap (λ b. bit_of c.args.row.now.words i || b)
    (c.held_words.ensures.bits (i / 64) (i % 64) (in_word i)
    ∙ told_place c.args.self.now.band (λ (u : ℤ). not (nat_eq (holders_in c.args.self.now c.args.fibre u) 0)) i)
