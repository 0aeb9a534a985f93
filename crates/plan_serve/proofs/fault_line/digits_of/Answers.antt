use Rattle.std.proofs.Common.{◌∙◌, ap}
use Rattle.hex.specs.Hex.{encode_lower}
use Rattle.plan_serve.proofs.HexLaws.{digits_are}
use Rattle.plan_serve.proofs.fault_line.digits_of.Goals as goal

pub returns : goal.returns
returns c =
    c.in-Ok.ensures.written ∙ ap encode_lower c.as_slice.ensures ∙ digits_are c.args.digest.now c.fits-digest
