-- A leg on a candidate fits its service exactly where its slots lie in the band.
use Rattle.std.proofs.Common.{◌≡◌, refl, ◌∙◌, ℤ, Bool, true, false, ◌&&◌, ◌||◌, not, ◌∷◌, Option, Some, None}
use Rattle.std.specs.Prelude.{nat_le, is_some}
use Rattle.std.specs.Option.{option_and_then, option_map, option_to_list}
use Rattle.std.specs.List.{list_all}
use Rattle.std.proofs.lemmas.Bool.{and_parts, and_from, leb-true, not_from_false}
use Rattle.eon_model.specs.declared.Class.{Class}
use Rattle.eon_model.specs.declared.Class.TheVariants.{Bare, Shared, Dual}
use Rattle.eon_model.specs.Grid.{Band, Slot, units_of, lies_in_band, is_units, is_band, is_slot}
use Rattle.eon_model.specs.Route.{is_route, share_group}
use Rattle.eon_model.specs.Services.{Path, Service}
use Rattle.eon_model.specs.Legal.{Setup, need_of, is_exactly, is_protected, path_fits, fits}
use Rattle.eon_model.specs.Candidates.{SizedRoute}
use Rattle.eon_model.specs.FirstFit.{Placement, path_at, leg_placed}
use Rattle.eon_model.proofs.SetLists.{same_test}
use Rattle.eon_model.proofs.SuitLaws.{SuitsRate, SuitsBack, Suits, HasBack}
use Rattle.admission.specs.FirstClear.{stands_in}
use Rattle.admission.proofs.SpanLaws.{slot_in}
use Rattle.eon_model.proofs.FirstRows.{held}

-- ---- paths

slot_stands : (band : Band) (slot : Slot) → is_band band ≡ true →
    (nat_le 1 slot.m && lies_in_band band (units_of slot)) ≡ stands_in band slot
slot_stands band slot ok =
    same_test _ _ (λ h.
    let p = and_parts (nat_le 1 slot.m) (lies_in_band band (units_of slot)) h in
    and_from _ _ (slot_in band slot ok (leb-true 1 slot.m p.0) p.1) p.1) (λ h.
    let p = and_parts (is_slot slot) (lies_in_band band (units_of slot)) h in
    let q = and_parts (nat_le 1 slot.m && nat_le slot.m 512) (is_units (units_of slot)) p.0 in
    and_from _ _ (and_parts (nat_le 1 slot.m) (nat_le slot.m 512) q.0).0 p.1)

path_stands : (setup : Setup) (s : Service) (r : SizedRoute) (n : ℤ) → is_band setup.band ≡ true →
    SuitsRate setup s.src s.dst s.rate r →
    path_fits setup s (path_at r n) ≡ stands_in setup.band (path_at r n).slot
path_stands setup s r n band h =
    held (is_route setup.network s.src s.dst r.route) (nat_le 1 r.m)
    (is_exactly (need_of setup s.rate r.route.km) r.m) (lies_in_band setup.band (units_of (path_at r n).slot))
    h.route h.need
    ∙ slot_stands setup.band (path_at r n).slot band

-- ---- legs

bare : (a b : Bool) → a ≡ b → ((a && true) && true) ≡ (b && true)
bare a b e = (λ i. (e i && true) && true) ∙ by b
  where
    by : (b : Bool) → ((b && true) && true) ≡ (b && true)
    by true = refl
    by false = refl

protected : (a b c d apart : Bool) → a ≡ c → b ≡ d → apart ≡ true →
    ((a && true) && ((b && apart) && true)) ≡ (c && (d && true))
protected a b c d apart e f g = (λ i. (e i && true) && ((f i && g i) && true)) ∙ by c d
  where
    by : (c d : Bool) → ((c && true) && ((d && true) && true)) ≡ (c && (d && true))
    by true true = refl
    by true false = refl
    by false d = refl

module _ (setup : Setup) (s : Service) (band : is_band setup.band ≡ true) where
  backed : (w : SizedRoute) (n : ℤ) (b : SizedRoute) (z : ℤ) → SuitsRate setup s.src s.dst s.rate w →
      (SuitsRate setup s.src s.dst s.rate b × (share_group w.route b.route ≡ false)) →
      ((path_fits setup s (path_at w n) && true)
      && ((path_fits setup s (path_at b z) && not (share_group w.route b.route)) && true))
      ≡ (stands_in setup.band (path_at w n).slot && (stands_in setup.band (path_at b z).slot && true))
  backed w n b z h k =
      protected (path_fits setup s (path_at w n)) (path_fits setup s (path_at b z))
      (stands_in setup.band (path_at w n).slot) (stands_in setup.band (path_at b z).slot)
      (not (share_group w.route b.route)) (path_stands setup s w n band h) (path_stands setup s b z band k.0)
      (not_from_false _ k.1)

  leg_stands : (class : Class) (w : SizedRoute) (n : ℤ) (back : Option SizedRoute) (back_n : Option ℤ) →
      SuitsRate setup s.src s.dst s.rate w → SuitsBack setup s.src s.dst s.rate class w back →
      HasBack back back_n →
      let work = path_at w n in
      let spare = option_and_then (λ b. option_map (path_at b) back_n) back in
      ((path_fits setup s work && true)
      && (not (is_protected class) && not (is_some spare) || is_protected class && is_some spare
      && list_all (λ b. path_fits setup s b && not (share_group w.route b.route)) (option_to_list spare)))
      ≡ list_all (λ (p : Path). stands_in setup.band p.slot) (work ∷ option_to_list spare)
  leg_stands Bare w n None back_n h k has =
      bare (path_fits setup s (path_at w n)) (stands_in setup.band (path_at w n).slot) (path_stands setup s w n band h)
  leg_stands Bare w n (Some b) back_n h k has = absurd k
  leg_stands Shared w n None back_n h k has = absurd k
  leg_stands Dual w n None back_n h k has = absurd k
  leg_stands Shared w n (Some b) None h k has = absurd has
  leg_stands Dual w n (Some b) None h k has = absurd has
  leg_stands Shared w n (Some b) (Some z) h k has = backed w n b z h k
  leg_stands Dual w n (Some b) (Some z) h k has = backed w n b z h k

  pub fits-stands : (p : Placement) → Suits setup s.src s.dst s.rate s.class p.candidate →
      HasBack p.candidate.back p.back_n →
      fits setup s (leg_placed p)
      ≡ list_all (λ (q : Path). stands_in setup.band q.slot)
      ((leg_placed p).work ∷ option_to_list (leg_placed p).back)
  fits-stands p h has =
      leg_stands s.class p.candidate.work p.work_n p.candidate.back p.back_n h.work h.back has
