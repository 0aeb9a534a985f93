-- What a row is left with where a leg's holdings are taken from it.
use Rattle.std.proofs.Common.{◌≡◌, refl, sym, ◌∙◌, ap, Bool, true, false, ◌&&◌, ◌||◌, not}
use Rattle.eon_model.specs.Grid.{Units, overlaps}
use Rattle.eon_model.specs.Route.{Route, share_fibre}
use Rattle.eon_model.specs.Services.{Leg, Holding, collides, drift_units, working_holding}
use Rattle.admission.specs.declared.row.Row.{Row}
use Rattle.admission.specs.Clear.{meets_backup_of, back_clears}
use Rattle.admission.specs.Free.{Takes}
use Rattle.admission.proofs.PassLaws.{takes_as, takes_both}

-- these units of the route
abbrev on : Route → Units → Holding
on route s = record { route = route; units = s }

pub channel_taken : (before after : Row) (route : Route) (leg : Leg) (span : Units) →
    share_fibre route leg.work.route ≡ true → span ≡ drift_units leg.work.slot leg.to →
    Takes before after (λ s. not (overlaps s span)) →
    Takes before after (λ s. not (collides (on route s) (working_holding leg)))
channel_taken before after route leg span shared is t =
    takes_as before after (λ s. not (overlaps s span)) (λ s. not (collides (on route s) (working_holding leg)))
    (λ s. ap (λ u. not (overlaps s u)) is
    ∙ ap (λ b. not (b && overlaps s (drift_units leg.work.slot leg.to))) (sym shared)) t

module _ (route : Route) (leg : Leg) where
  abbrev channel_free : Units → Bool
  channel_free s = not (collides (on route s) (working_holding leg))

  -- where backups may not share units, the backup is taken too
  pub backup_taken : (a b c : Row) (shares : Bool) → shares ≡ false → Takes a b channel_free →
      Takes b c (λ s. not (meets_backup_of (on route s) leg)) → Takes a c (λ s. back_clears (on route s) shares leg)
  backup_taken a b c shares apart t u =
      takes_as a c (λ s. channel_free s && not (meets_backup_of (on route s) leg))
      (λ s. back_clears (on route s) shares leg)
      (λ s. ap (λ x. channel_free s && x)
      (plain (not (meets_backup_of (on route s) leg)) ∙ ap (λ b. not (meets_backup_of (on route s) leg) || b) (sym apart)))
      (takes_both a b c channel_free (λ s. not (meets_backup_of (on route s) leg)) t u)
    where
      plain : (x : Bool) → x ≡ (x || false)
      plain true = refl
      plain false = refl

  -- else its units stay
  pub backup_shared : (a b : Row) (shares : Bool) → shares ≡ true → Takes a b channel_free →
      Takes a b (λ s. back_clears (on route s) shares leg)
  backup_shared a b shares may t =
      takes_as a b channel_free (λ s. back_clears (on route s) shares leg)
      (λ s. always (channel_free s) (not (meets_backup_of (on route s) leg))
      ∙ ap (λ b. channel_free s && (not (meets_backup_of (on route s) leg) || b)) (sym may)) t
    where
      always : (x y : Bool) → x ≡ (x && (y || true))
      always false y = refl
      always true true = refl
      always true false = refl
