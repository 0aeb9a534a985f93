use Rattle.std.proofs.Common.{◌∙◌, sym, ap}
use Rattle.eon_model.specs.Legal.{Setup}
use Rattle.eon_model.specs.Network.{fibre_of}
use Rattle.plan_core.proofs.ListingLaws.{fibre-in_range}
use Rattle.plan_core.proofs.listings.map.Goals as goal

pub map_text-requires-clause-fibre : goal.map_text-requires-clause-fibre
map_text-requires-clause-fibre c =
    fibre-in_range c.args.setup.now.network c.args.fibre.now c.in-Some.number
    (sym (ap (λ (s : Setup). fibre_of s.network c.args.fibre.now) c.setup.view_is) ∙ sym c.fibre_of.ensures ∙ c.in-Some.is)
