-- The least centre of a shared backup over rows is the least with which the list is legal.
use Rattle.std.proofs.Common.{◌≡◌, sym, ◌∙◌, ap, ℕ, ℤ, Bool, true, ◌&&◌, find, Option, Some}
use Rattle.std.specs.Option.{option_map, unwrap_or}
use Rattle.eon_model.specs.declared.Class.{Class}
use Rattle.eon_model.specs.Grid.{Band, moved_to, units_of}
use Rattle.eon_model.specs.Names.{Name}
use Rattle.eon_model.specs.Services.{Path, Leg, Service, State}
use Rattle.eon_model.specs.Legal.{Setup, is_shared}
use Rattle.eon_model.specs.Changes.{without_service, path_moved}
use Rattle.eon_model.specs.FirstByRows.{stands_in, back_may_stand}
use Rattle.eon_model.specs.FirstFit.{centres_in}
use Rattle.eon_model.specs.FirstInRows.{backup_stands}
use Rattle.eon_model.specs.Occupied.{RowsOf}
use Rattle.eon_model.specs.Rows.{Rows, Counts, counts_among}
use Rattle.eon_model.specs.Step.{least_backup}
use Rattle.eon_model.proofs.ClashRows.{least_refit}
use Rattle.eon_model.proofs.CountLaws.{own_taken_out}
use Rattle.eon_model.proofs.FirstRows.{find_same}
use Rattle.eon_model.proofs.OwnRows.{refit_beside}
use Rattle.spectrum_map.specs.Kept.{rows_in}
use Rattle.backup_sharing.specs.Shared.{counts_beside, reserved}
use Rattle.row_admission.specs.RowFirst.{backup_of}
use Rattle.kept_rows.specs.declared.rows.KeptRows.{KeptRows}
use Rattle.kept_rows.proofs.StandLaws.{tells_rows}
use Rattle.kept_admission.specs.KeptFirst.{IsAtRest}

-- the backup of this leg, as the counts have it
abbrev own_backup : Service → Path → Counts → Counts
own_backup s b = counts_beside (Some (reserved s.leg.work.route.risk b.route.fibres (units_of b.slot)))

-- where the backup of the service may stand over these rows
abbrev pub stands_at : Band → Rows → Counts → Service → Path → ℤ → Bool
stands_at band rows counts s b =
    backup_stands band rows (own_backup s b counts) s.class s.leg.work.route.risk b.route.fibres b.slot.m

module _ (setup : Setup) (state : State) (name : Name) (s : Service) (rows : KeptRows) (at : IsAtRest setup state name s rows)
    (b : Path) (back : s.leg.back ≡ Some b) (shared : is_shared s.class ≡ true) where
  told : RowsOf state (rows_in rows.maps) (counts_among rows.sharing.reserves)
  told = tells_rows setup state rows at.stands

  abbrev others : State
  others = without_service name state

  -- at each centre
  each : (n : ℤ) → back_may_stand setup.band others others s.class s.leg.work.route (path_moved b n)
      ≡ stands_at setup.band (rows_in rows.maps) (counts_among rows.sharing.reserves) s b n
  each n =
      ap (λ (c : Bool). stands_in setup.band (moved_to b.slot n) && c)
      (refit_beside setup state name s at.legal at.found at.rest b back shared n)
      ∙ (λ i. backup_stands setup.band (sym told.rows_are i)
      ((own_taken_out setup state name s b at.legal at.found at.rest back shared
      ∙ ap (own_backup s b) (sym told.counts_are)) i) s.class s.leg.work.route.risk b.route.fibres b.slot.m n)

  pub least-is : (found : Option ℤ) (from : ℤ) →
      found ≡ find (stands_at setup.band (rows_in rows.maps) (counts_among rows.sharing.reserves) s b) (centres_in setup.band) →
      unwrap_or found from ≡ least_backup setup state name from
  least-is found from is =
      ap (λ (o : Option ℤ). unwrap_or o from)
      (is ∙ sym (find_same (back_on setup.band others others s b) (stands_at setup.band (rows_in rows.maps)
      (counts_among rows.sharing.reserves) s b) each (centres_in setup.band)))
      ∙ sym (least_refit setup state name s at.legal at.found at.rest b back from)
    where
      back_on : Band → State → State → Service → Path → ℤ → Bool
      back_on band near far s b n = back_may_stand band near far s.class s.leg.work.route (path_moved b n)

  -- and what is found for the leg, its paths and its width, as they are read
  pub least-told : (band : Band) (leg : Leg) (class : Class) (work spare : Path) (m : ℕ) (found : Option ℤ) (from : ℤ) →
      setup.band ≡ band → leg ≡ s.leg → class ≡ s.class → work ≡ s.leg.work → spare ≡ b → m ≡ b.slot.m →
      found ≡ find (backup_stands band (rows_in rows.maps)
      (counts_beside (backup_of (Some leg)) (counts_among rows.sharing.reserves)) class work.route.risk spare.route.fibres m)
      (centres_in band) → from ≡ b.slot.n → unwrap_or found from ≡ least_backup setup state name b.slot.n
  least-told band leg class work spare m found from band_is leg_is class_is work_is spare_is m_is is from_is =
      ap (unwrap_or found) from_is
      ∙ least-is found b.slot.n
      (is ∙ (λ i. find (backup_stands (sym band_is i) (rows_in rows.maps)
      (counts_beside (backup_of (Some (leg_is i))) (counts_among rows.sharing.reserves)) (class_is i) (work_is i).route.risk
      (spare_is i).route.fibres (m_is i)) (centres_in (sym band_is i)))
      ∙ (λ i. find (backup_stands setup.band (rows_in rows.maps)
      (counts_beside (option_map (λ (p : Path). reserved s.leg.work.route.risk p.route.fibres (units_of p.slot)) (back i))
      (counts_among rows.sharing.reserves)) s.class s.leg.work.route.risk b.route.fibres b.slot.m)
      (centres_in setup.band)))
