-- What is found over rows that stand for a list is the first placement.
use Rattle.std.proofs.Common.{◌≡◌, sym, ap, subst, ◌≤◌, true, List, length, Option, Some, None, arith}
use Rattle.std.specs.List.{AllByRecursion}
use Rattle.eon_model.specs.declared.Class.{Class}
use Rattle.eon_model.specs.Grid.{Band}
use Rattle.eon_model.specs.Services.{Leg, Service}
use Rattle.eon_model.specs.Legal.{Setup}
use Rattle.eon_model.specs.NetworkText.{is_setup}
use Rattle.eon_model.specs.Candidates.{Candidate, candidates}
use Rattle.eon_model.specs.FirstFit.{Placement}
use Rattle.eon_model.specs.FirstInRows.{first_in_rows}
use Rattle.eon_model.specs.Rows.{Rows, Counts, counts_among}
use Rattle.eon_model.proofs.FewCandidates.{few-candidates}
use Rattle.admission.specs.Told.{IfPlaced, IsPlaceOn}
use Rattle.admission.specs.declared.placing.Admit.{Admit}
use Rattle.spectrum_map.specs.Kept.{rows_in}
use Rattle.backup_sharing.specs.Shared.{counts_beside}
use Rattle.row_admission.specs.RowFirst.{answer_in_rows, backup_of, IsPairThere}
use Rattle.row_admission.proofs.StateLaws.{new-is, second-is}
use Rattle.kept_rows.specs.declared.rows.KeptRows.{KeptRows}
use Rattle.kept_rows.proofs.StandLaws.{tells_rows}
use Rattle.kept_admission.specs.KeptFirst.{AreRows, AreCandidates, IsAnswer, IsFirstForNew, IsFirstForSecond}
use Rattle.kept_admission.proofs.ThereLaws.{pairs-there}

-- ---- what is asked of pairs

module _ (setup : Setup) (ok : is_setup setup ≡ true) (rows : KeptRows) (pairs : List Candidate) (a : AreCandidates setup pairs) where
  abbrev these : List Candidate
  these = candidates setup a.0 a.1 a.2 a.3 a.4

  pub all-there : AreRows setup rows → AllByRecursion (IsPairThere rows.sharing) pairs
  all-there r =
      subst (λ (cs : List Candidate). AllByRecursion (IsPairThere rows.sharing) cs) (sym a.5)
      (pairs-there setup ok r.0 rows r.1 a.0 a.1 a.2 a.3 a.4)

  pub few-pairs : length pairs ≤ 65535
  few-pairs =
      let few = few-candidates setup a.0 a.1 a.2 a.3 a.4 ok in
      let same = ap (λ (cs : List Candidate). length cs) a.5 in
      omega arith

-- ---- what is found

module _ (setup : Setup) (rows : KeptRows) (band : Band) (band_is : setup.band ≡ band) (class : Class) (own : Option Leg)
    (pairs : List Candidate) (answer : Admit) where
  abbrev spectrum : Rows
  spectrum = rows_in rows.maps

  abbrev counts : Counts
  counts = counts_among rows.sharing.reserves

  abbrev found_first : Option Placement
  found_first =
      first_in_rows band (rows_in rows.maps) (counts_beside (backup_of own) (counts_among rows.sharing.reserves)) class 0 pairs

  module _ (is : answer ≡ answer_in_rows (rows_in rows.maps) (counts_among rows.sharing.reserves) band class own pairs)
      (place : IfPlaced answer (IsPlaceOn (first_in_rows band (rows_in rows.maps)
      (counts_beside (backup_of own) (counts_among rows.sharing.reserves)) class 0 pairs) pairs)) where
    answer-for : (first : Option Placement) → found_first ≡ first → IsAnswer first pairs answer
    answer-for first e = subst (λ (o : Option Placement). IsAnswer o pairs answer) e (record { is = is; place = place })

    pub first-for-new : own ≡ None → IsFirstForNew setup class rows pairs answer
    first-for-new none = λ state d avoid stands legal class_is room fresh these.
        answer-for _ (new-is spectrum counts band class own pairs setup state avoid (tells_rows setup state rows stands)
        band_is legal d class_is none room fresh these)

    pub first-for-second : (s : Service) → s.class ≡ class → own ≡ Some s.leg → IsFirstForSecond setup s rows pairs answer
    first-for-second s class_is own_is = λ state name avoid at these.
        answer-for _ (second-is spectrum counts band class own pairs setup state avoid
        (tells_rows setup state rows at.stands) band_is at.legal name s class_is own_is at.found at.rest these)
