use Rattle.std.proofs.Common.{◌≡◌, drop}
use Rattle.eon_model.specs.Wider.{band_lies_in}
use Rattle.net_widening.proofs.band.lies_in.Given as goal

abbrev pub invariant-loop-i : goal.invariant-loop-i
invariant-loop-i l = band_lies_in l.band l.wider ≡ band_lies_in (drop l.i l.band) l.wider
