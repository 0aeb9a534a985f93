-- What is proved of overlap and hulls.
use Rattle.std.specs.Prelude.{◌≡◌, IsTrue}
use Rattle.eon_model.specs.Grid.{Units, overlaps, hull, lies_in}

abbrev pub OverlapIsSymmetric : Type 0
OverlapIsSymmetric = (a b : Units) → overlaps a b ≡ overlaps b a

-- a hull holds both
abbrev pub HullHoldsBoth : Type 0
HullHoldsBoth = (a b : Units) → IsTrue (lies_in (hull a b) a) × IsTrue (lies_in (hull a b) b)

-- and lies in each range that does
abbrev pub HullIsLeast : Type 0
HullIsLeast =
    (a b c : Units) → IsTrue (lies_in c a) → IsTrue (lies_in c b) → IsTrue (lies_in c (hull a b))
