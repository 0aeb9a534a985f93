-- Candidates over backups that are given.
use Rattle.std.proofs.Common.{◌≡◌, sym, ◌∙◌, ap, subst, ℕ, true, List, [], ◌∷◌, ◌++◌, map, Option, Some, None, slice_get}
use Rattle.std.specs.Prelude.{IfSome}
use Rattle.std.specs.List.{filter_map}
use Rattle.std.specs.Option.{option_and_then, option_map, option_to_list}
use Rattle.std.proofs.lemmas.Bool.{false≢true}
use Rattle.std.proofs.lemmas.List.{append-nil}
use Rattle.std.proofs.lemmas.Option.{slice_get-map}
use Rattle.eon_model.specs.declared.Class.{Class}
use Rattle.eon_model.specs.declared.Class.TheVariants.{Bare, Shared, Dual}
use Rattle.eon_model.specs.Legal.{Setup, need_of, is_protected}
use Rattle.eon_model.specs.Route.{Route}
use Rattle.eon_model.specs.Candidates.{SizedRoute, Candidate, sized, with_backup, candidates_over}
use Rattle.pair_list.specs.Given.{backups_for}

module _ (setup : Setup) (s t rate : ℕ) where
  -- the backups at the place of a working route are its own
  pub given-at : (class : Class) (works : List Route) (backups : List (List Route)) (i : ℕ) (here : List Route)
      (o : Option SizedRoute) → backups ≡ map (backups_for setup s t class) works → slice_get backups i ≡ Some here →
      o ≡ option_and_then (sized setup rate) (slice_get works i) →
      IfSome o (λ w. here ≡ backups_for setup s t class w.route)
  given-at class works backups i here o given place found =
      by (slice_get works i) o found
      (sym place ∙ ap (λ bs. slice_get bs i) given ∙ slice_get-map (backups_for setup s t class) works i)
    where
      sized_by : (r : Route) (m : Option ℕ) → here ≡ backups_for setup s t class r →
          IfSome (option_map (λ k. let w : SizedRoute = record { route = r; m = k } in w) m)
          (λ w. here ≡ backups_for setup s t class w.route)
      sized_by r None is = tt
      sized_by r (Some m) is = is

      same : (r : Route) → Some here ≡ Some (backups_for setup s t class r) → here ≡ backups_for setup s t class r
      same r e = cc

      by : (w : Option Route) (p : Option SizedRoute) → p ≡ option_and_then (sized setup rate) w →
          Some here ≡ option_map (backups_for setup s t class) w →
          IfSome p (λ q. here ≡ backups_for setup s t class q.route)
      by None p is e = subst (λ x. IfSome x (λ q. here ≡ backups_for setup s t class q.route)) (sym is) tt
      by (Some r) p is e = subst (λ x. IfSome x (λ q. here ≡ backups_for setup s t class q.route)) (sym is)
          (sized_by r (need_of setup rate r.km) (same r e))

  -- a protected demand over one working route
  pub given-one : (class : Class) (w : SizedRoute) (o : Option SizedRoute) (backups : List Route) (start : List Candidate) →
      o ≡ Some w → is_protected class ≡ true → IfSome o (λ v. backups ≡ backups_for setup s t class v.route) →
      start ++ map (with_backup w) (filter_map (sized setup rate) backups)
      ≡ start ++ candidates_over setup s t rate class (option_to_list o)
  given-one class w o backups start is safe given =
      ap (λ ps. start ++ ps) (by class safe (subst (λ x. IfSome x (λ v. backups ≡ backups_for setup s t class v.route)) is given))
      ∙ ap (λ x. start ++ candidates_over setup s t rate class (option_to_list x)) (sym is)
    where
      by : (class : Class) → is_protected class ≡ true → backups ≡ backups_for setup s t class w.route →
          map (with_backup w) (filter_map (sized setup rate) backups) ≡ candidates_over setup s t rate class (w ∷ [])
      by Bare safe here = absurd (false≢true safe)
      by Shared safe here = ap (λ bs. map (with_backup w) (filter_map (sized setup rate) bs)) here ∙ sym (append-nil _)
      by Dual safe here = ap (λ bs. map (with_backup w) (filter_map (sized setup rate) bs)) here ∙ sym (append-nil _)
