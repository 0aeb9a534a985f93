-- How a service stands, by what was asked of its paths.
use Rattle.std.proofs.Common.{◌≡◌, ap, ℕ, Bool, true, false, ◌&&◌, ◌||◌, not, List}
use Rattle.eon_model.specs.Legal.{is_shared}
use Rattle.eon_model.specs.LiveFailure.{is_down}
use Rattle.eon_model.specs.Services.{Service}
use Rattle.live_failure.specs.Parts.{backup_up, lost_where}

module _ (failed : List ℕ) (s : Service) where
  pub work_lit : is_down failed s.leg.work.route ≡ false → (crossed : Bool) → lost_where crossed failed s ≡ false
  work_lit e crossed = ap (λ d. d && (not (backup_up failed s.leg.back) || is_shared s.class && crossed)) e

  pub none_lit : is_down failed s.leg.work.route ≡ true → backup_up failed s.leg.back ≡ false → (crossed : Bool) →
      lost_where crossed failed s ≡ true
  none_lit e f crossed = λ i. e i && (not (f i) || is_shared s.class && crossed)

  pub on_backup : is_down failed s.leg.work.route ≡ true → backup_up failed s.leg.back ≡ true → is_shared s.class ≡ true →
      (crossed : Bool) → lost_where crossed failed s ≡ crossed
  on_backup e f h crossed = λ i. e i && (not (f i) || h i && crossed)

  pub always_lit : is_down failed s.leg.work.route ≡ true → backup_up failed s.leg.back ≡ true → is_shared s.class ≡ false →
      (crossed : Bool) → lost_where crossed failed s ≡ false
  always_lit e f h crossed = λ i. e i && (not (f i) || h i && crossed)
