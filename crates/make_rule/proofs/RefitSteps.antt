-- The cases of `refit`, and the least centre at which a backup may stand.
use Rattle.std.proofs.Common.{◌≡◌, refl, sym, ◌∙◌, ap, subst, ◌≤◌, ℤ, Bool, true, false, ◌&&◌, not, List, [], ◌∷◌, ◌++◌, find, Option, Some, None}
use Rattle.std.specs.Prelude.{is_some}
use Rattle.std.specs.List.{list_all}
use Rattle.std.specs.Option.{unwrap_or}
use Rattle.std.proofs.lemmas.Bool.{and_parts, both_ways}
use Rattle.eon_model.specs.declared.Class.{Class}
use Rattle.eon_model.specs.Grid.{Band, units_of, moved_to, lies_in_band, is_band, is_slot}
use Rattle.eon_model.specs.Names.{Name}
use Rattle.eon_model.specs.Services.{Path, Service, State, owned, all_legs, is_moving, service_of, holding_of, working_holding}
use Rattle.eon_model.specs.Legal.{Setup, is_protected, is_dual, is_clear, is_legal, Legal}
use Rattle.eon_model.specs.Changes.{without_service, path_moved}
use Rattle.eon_model.specs.FirstFit.{centres_in}
use Rattle.eon_model.specs.Occupied.{may_light, may_hold, may_stand}
use Rattle.eon_model.specs.Replies.{Reply}
use Rattle.eon_model.specs.Step.{Outcome, Say, or_else, ◌when◌, ◌otherwise◌, for_service, first_clash, with_backup_at, least_backup, refit_from, refit_backup, refit}
use Rattle.eon_model.proofs.OrderLaws.{AllOf}
use Rattle.eon_model.proofs.NumberLaws.{same-name}
use Rattle.eon_model.proofs.LegalLaws.{Legal-without}
use Rattle.eon_model.proofs.PairLaws.{all_across}
use Rattle.eon_model.proofs.BackupLaws.{fits-parts, backup-path, backup-protected}
use Rattle.eon_model.proofs.ClashLaws.{NamedIn, service-named}
use Rattle.eon_model.proofs.ClashRows.{clash_clear, without_twice}
use Rattle.eon_model.proofs.ChangeLaws.{named_fits}
use Rattle.eon_model.proofs.FreeLaws.{IsKept, clear-stands}
use Rattle.eon_model.proofs.GoodLaws.{path_width, some_units, fits-kept, legal-kept, legal-good, without_around}
use Rattle.eon_model.proofs.RowRules.{refitted-stands}
use Rattle.eon_model.proofs.OwnFirst.{find-agree}
use Rattle.admission.specs.FirstClear.{stands_in}
use Rattle.admission.proofs.SpanLaws.{slot_in}
use Rattle.make_rule.specs.Refits.{with_back, may_back}

-- ---- where a backup may stand

module _ (setup : Setup) (state : State) (name : Name) (s : Service) (legal : Legal setup state)
    (found : service_of state name ≡ Some s) (rest : is_moving s ≡ false) (b : Path) (back : s.leg.back ≡ Some b) where
  named : NamedIn state name s
  named = service-named setup state name s legal found

  name_is : s.name ≡ name
  name_is = same-name s.name name named.named

  abbrev others : State
  others = without_service name state

  others_are : without_service name state ≡ named.before ++ named.after
  others_are = ap (without_service name) named.is
      ∙ without_around name named.before named.after s named.named named.others_before named.others_after

  kept_others : AllOf IsKept (all_legs (without_service name state))
  kept_others = legal-kept setup (without_service name state) (Legal-without setup name state legal)

  kept : IsKept (owned s.name s.class s.leg)
  kept = fits-kept setup s s.leg (named_fits setup state name s legal found)

  spare_fits : 1 ≤ b.slot.m
  spare_fits = path_width setup s b (backup-path setup s s.leg b
      (fits-parts setup s s.leg (named_fits setup state name s legal found)).back back)

  -- its own leg is clear of all others
  own_clear : list_all (is_clear (owned name s.class s.leg)) (all_legs (without_service name state)) ≡ true
  own_clear =
      let good = legal-good setup named.before s named.after (subst (Legal setup) named.is legal) in
      let all = (and_parts (list_all (is_clear (owned s.name s.class s.leg)) (all_legs (named.before ++ named.after)))
      (all_across is_clear _ (all_legs (named.before ++ named.after))) (and_parts _ _ good).1).0 in
      (λ i. list_all (is_clear (owned (sym name_is i) s.class s.leg)) (all_legs (others_are i))) ∙ all

  own_lit : may_light (without_service name state) (working_holding s.leg) ≡ true
  own_lit =
      (and_parts (may_light others (working_holding s.leg)) _
      (sym (clear-stands (owned name s.class s.leg) others
      (record { may = kept.may; channel = kept.channel; spare = kept.spare }) kept_others) ∙ own_clear)).0

  moved_kept : (k : ℤ) → IsKept (owned name s.class (with_back s.leg b k))
  moved_kept k = record {
    may = λ p. absurd (both_ways (is_protected s.class) p (backup-protected setup s s.leg b
        (fits-parts setup s s.leg (named_fits setup state name s legal found)).back back));
    channel = kept.channel;
    spare = (some_units (moved_to b.slot k) None spare_fits, tt);
  }

  -- it clashes exactly where the backup may not hold its units
  clash_is : (k : ℤ) → not (is_some (first_clash state (owned name s.class (with_back s.leg b k))))
      ≡ may_hold others others s.class s.leg.work.route (holding_of (path_moved b k))
  clash_is k =
      ap not (clash_clear state (owned name s.class (with_back s.leg b k))
      ∙ ap not (clear-stands (owned name s.class (with_back s.leg b k)) others (moved_kept k) kept_others
      ∙ (λ i. may_stand others (without_twice name state i) (owned name s.class (with_back s.leg b k)))
      ∙ (λ i. own_lit i && (may_hold others others s.class s.leg.work.route (holding_of (path_moved b k)) && true))))
      ∙ plain (may_hold others others s.class s.leg.work.route (holding_of (path_moved b k)))
    where
      plain : (a : Bool) → not (not (true && (a && true))) ≡ a
      plain true = refl
      plain false = refl

  stands_is : (k : ℤ) → is_band setup.band ≡ true →
      stands_in setup.band (moved_to b.slot k) ≡ lies_in_band setup.band (units_of (moved_to b.slot k))
  stands_is k ok = by (lies_in_band setup.band (units_of (moved_to b.slot k))) refl
    where
      by : (c : Bool) → lies_in_band setup.band (units_of (moved_to b.slot k)) ≡ c →
          (is_slot (moved_to b.slot k) && c) ≡ c
      by true e = ap (λ d. d && true) (slot_in setup.band (moved_to b.slot k) ok spare_fits e)
      by false e = none (is_slot (moved_to b.slot k))
        where
          none : (d : Bool) → (d && false) ≡ false
          none true = refl
          none false = refl

  pub refit-stands : is_band setup.band ≡ true → (k : ℤ) →
      is_legal setup (with_backup_at name state k) ≡ may_back state setup.band name s.class s.leg b k
  refit-stands ok k =
      refitted-stands setup state name s legal found rest b k back
      ∙ (λ i. sym (stands_is k ok) i && sym (clash_is k) i)

  pub least-is : (band : Band) (to : Option ℤ) (from at : ℤ) → setup.band ≡ band → is_band band ≡ true →
      to ≡ find (may_back state band name s.class s.leg b) (centres_in band) → from ≡ at →
      unwrap_or to from ≡ least_backup setup state name at
  least-is band to from at of_band ok is same =
      (λ i. unwrap_or (is i) (same i))
      ∙ (λ i. unwrap_or (find (may_back state (sym of_band i) name s.class s.leg b) (centres_in (sym of_band i))) at)
      ∙ ap (λ (o : Option ℤ). unwrap_or o at)
      (sym (find-agree (λ k. is_legal setup (with_backup_at name state k))
      (may_back state setup.band name s.class s.leg b) (centres_in setup.band) (each (centres_in setup.band))))
    where
      each : (ks : List ℤ) → AllOf (λ k. is_legal setup (with_backup_at name state k)
          ≡ may_back state setup.band name s.class s.leg b k) ks
      each [] = tt
      each (k ∷ ks) = (refit-stands (ap is_band of_band ∙ ok) k, each ks)

-- ---- the cases of refit

abbrev backed : Setup → State → Name → Class → Option Path → Bool → Outcome
backed setup state name class back busy =
    Reply.Busy name when busy otherwise refit_backup setup state name class back

module _ (setup : Setup) (state : State) (name : Name) (s : Service) (found : service_of state name ≡ Some s) where
  refit-is : (busy : Bool) (back : Option Path) → is_moving s ≡ busy → s.leg.back ≡ back →
      backed setup state name s.class back busy ≡ refit setup state name
  refit-is busy back a c =
      sym (ap (λ o. for_service o name (λ (v : Service).
      backed setup state name v.class v.leg.back (is_moving v))) found
      ∙ (λ i. backed setup state name s.class (c i) (a i)))

  pub refit-busy : is_moving s ≡ true → Say (Reply.Busy name) ≡ refit setup state name
  unfolding or_else
  refit-busy a = refit-is true s.leg.back a refl

  pub refit-bare : is_moving s ≡ false → s.leg.back ≡ None → Say (Reply.Bare name) ≡ refit setup state name
  unfolding or_else
  refit-bare a c = refit-is false None a c

  of_dual : (d : Bool) (b : Path) → is_dual s.class ≡ d →
      or_else (Reply.Dual name when d) (refit_from name b.slot.n (least_backup setup state name b.slot.n))
      ≡ refit_backup setup state name s.class (Some b)
  of_dual d b e =
      ap (λ c. or_else (Reply.Dual name when c) (refit_from name b.slot.n (least_backup setup state name b.slot.n))) (sym e)

  pub refit-dual : (b : Path) → is_moving s ≡ false → s.leg.back ≡ Some b → is_dual s.class ≡ true →
      Say (Reply.Dual name) ≡ refit setup state name
  unfolding or_else
  refit-dual b a c d = of_dual true b d ∙ refit-is false (Some b) a c

  pub refit-done : (b : Path) (from to : ℤ) → is_moving s ≡ false → s.leg.back ≡ Some b → is_dual s.class ≡ false →
      from ≡ b.slot.n → to ≡ least_backup setup state name b.slot.n → refit_from name from to ≡ refit setup state name
  unfolding or_else
  refit-done b from to a c d e f =
      (λ i. refit_from name (e i) (f i)) ∙ of_dual false b d ∙ refit-is false (Some b) a c
