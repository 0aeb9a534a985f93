-- What is refused for a fault is no network text.
use Rattle.std.proofs.Common.{◌≡◌, refl, sym, ◌∙◌, inl, inr, ◌⊎◌, ℕ, List, None, Some}
use Rattle.eon_model.specs.Legal.{Setup}
use Rattle.eon_model.specs.NetworkText.{IsNetworkTextOf}
use Rattle.eon_model.specs.NetworkFault as model
use Rattle.net_file.specs.declared.fault.NetRefusal.{NetRefusal}
use Rattle.net_file.specs.declared.fault.NetRefusal.TheVariants as refusal
use Rattle.net_file.specs.Told.{fault_told, IsRefusalOf}
use Rattle.eon_model.proofs.TextWhole.{texts-have-no-fault}

none_is : (f : ℕ × model.Why) → None ≡ Some f → ⊥
none_is f e = cc

pub refused-texts : (bytes : List ℕ) (r : NetRefusal) → IsRefusalOf bytes r →
    (r ≡ refusal.Memory) ⊎ ((s : Setup) → IsNetworkTextOf bytes s → ⊥)
refused-texts bytes refusal.Memory h = inl refl
refused-texts bytes (refusal.Fault f) h =
    inr (λ s t. none_is (fault_told f) (sym (texts-have-no-fault bytes s t) ∙ h))
