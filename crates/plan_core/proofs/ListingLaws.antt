-- The fibre of a name has a number in range.
use Rattle.std.proofs.Common.{◌≡◌, ap, subst, ℕ, ◌<◌, length, Option, Some}
use Rattle.std.specs.Prelude.{is_some}
use Rattle.std.specs.Option.{unwrap_or}
use Rattle.std.proofs.lemmas.List.{length-map}
use Rattle.eon_model.specs.Names.{Name}
use Rattle.eon_model.specs.Network.{Network, Fibre, fibre_names, fibre_of}
use Rattle.eon_model.proofs.FollowLaws.{number_in}

-- the number of a fibre is in range
pub fibre-in_range : (net : Network) (name : Name) (i : ℕ) → fibre_of net name ≡ Some i → i < length net.fibres
fibre-in_range net name i h =
    subst (λ (n : ℕ). i < n) (length-map net.fibres (λ (f : Fibre). f.name))
    (subst (λ (o : Option ℕ). unwrap_or o 0 < length (fibre_names net.fibres)) h
    (number_in (fibre_names net.fibres) name (ap is_some h)))
