-- Without a service the state is legal.
use Rattle.std.proofs.Common.{[], refl, arith}
use Rattle.eon_model.specs.Legal.{Setup, Legal}
use Rattle.eon_model.proofs.LegalLaws.{Legal-from_parts}

pub Legal-empty : (setup : Setup) → Legal setup []
Legal-empty setup = Legal-from_parts setup [] (record {
  fit = refl;
  clear = refl;
  differ = refl;
  few = omega arith;
  one_way = refl;
})
