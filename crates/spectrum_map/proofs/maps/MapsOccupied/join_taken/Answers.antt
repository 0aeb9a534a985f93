use Rattle.std.proofs.Common.{◌∙◌, ap, ℤ, ◌||◌, not, nat_eq}
use Rattle.spectrum_map.specs.Bits.{bit_of}
use Rattle.spectrum_map.specs.Kept.{lit_in, holders_in, is_unit_that}
use Rattle.spectrum_map.proofs.QueryLaws.{either_unit}
use Rattle.spectrum_map.proofs.maps.MapsOccupied.join_taken.Goals as goal

pub returns : goal.returns
returns c i =
    let band = c.args.self.now.band in
    let lit = lit_in c.args.self.now c.args.fibre in
    let held = λ (u : ℤ). not (nat_eq (holders_in c.args.self.now c.args.fibre u) 0) in
    c.join_held.ensures i
    ∙ ap (λ b. b || is_unit_that band held i) (c.join_lit.ensures i)
    ∙ either_unit (bit_of c.args.row.now.words i) band lit held i
