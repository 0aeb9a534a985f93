-- A service of a list's line by numbers: what a change can tell, part by part.
use Rattle.std.proofs.Common.{◌≡◌, refl, sym, ◌∙◌, ap, ℕ, ◌<◌, ◌≤◌, Bool, true, false, cond, ◌&&◌, List, length, nat_lt, Option, Some, None, arith}
use Rattle.std.specs.Option.{unwrap_or, option_to_list}
use Rattle.std.specs.List.{list_all, position_or_len}
use Rattle.std.proofs.lemmas.Bool.{and_parts, and_from, and_left, and_right, lt-ltb, ltb-true}
use Rattle.eon_model.specs.Names.{Name, same_name, is_name}
use Rattle.eon_model.specs.Network.{Network, number_of}
use Rattle.eon_model.specs.CommandText.{is_rate, is_centre}
use Rattle.eon_model.specs.PlanTexts.{ServiceLine, is_leg_line, is_service_line}
use Rattle.eon_model.specs.PlanReadings.{service_entered}
use Rattle.eon_model.specs.Events.{PathText, LegText, EnterText}
use Rattle.eon_model.specs.EventText.{is_path_text, is_leg_text, has_backup_for, is_enter_text}
use Rattle.eon_model.specs.Step.{node_numbered}
use Rattle.plan_core.proofs.ToldLegLaws.{some_if, none_if, from_some, from_none}
use Rattle.plan_check.specs.Numbered.{path_if_told, leg_if_told, service_if_told}

-- ---- a leg

module _ (l : LegText) (work : PathText) (is : Some work ≡ path_if_told l.work) where
  work_is : (is_path_text l.work ≡ true) × (work ≡ l.work)
  work_is = from_some (is_path_text l.work) l.work work is

  module _ (b : PathText) (e : l.back ≡ Some b) where
    pub leg-backed : (back : PathText) → Some back ≡ path_if_told b →
        Some (record { work = work; back = Some back }) ≡ leg_if_told l
    leg-backed back f =
        let told = from_some (is_path_text b) b back f in
        some_if (is_leg_text l) l (record { work = work; back = Some back })
        (ap (λ (o : Option PathText). is_leg_text (record { work = l.work; back = o })) e
        ∙ and_from (is_path_text l.work) (is_path_text b) work_is.0 told.0)
        (λ i. record { work = work_is.1 i; back = (ap Some told.1 ∙ sym e) i })

    pub leg-unbacked : None ≡ path_if_told b → None ≡ leg_if_told l
    leg-unbacked f = none_if (is_leg_text l) l
        (ap (λ (o : Option PathText). is_leg_text (record { work = l.work; back = o })) e
        ∙ and_right (is_path_text l.work) (is_path_text b) (from_none (is_path_text b) b f))

-- ---- a service

-- the name and the rate of a line are in range
pub line-named : (s : ServiceLine) → is_service_line s ≡ true → (is_name s.name ≡ true) × (is_rate s.rate ≡ true)
line-named s h =
    let legs = is_leg_line s.leg in
    let to = list_all is_centre (option_to_list s.to) in
    let next = list_all is_leg_line (option_to_list s.next) in
    let ends = is_name s.name && is_name s.src && is_name s.dst in
    let a = and_parts (ends && is_rate s.rate && legs && to) next h in
    let b = and_parts (ends && is_rate s.rate && legs) to a.0 in
    let c = and_parts (ends && is_rate s.rate) legs b.0 in
    let d = and_parts ends (is_rate s.rate) c.0 in
    let e = and_parts (is_name s.name && is_name s.src) (is_name s.dst) d.0 in
    ((and_parts (is_name s.name) (is_name s.src) e.0).0, d.1)

number-below : (names : List Name) (name : Name) → length names ≤ 64 → unwrap_or (number_of names name) 0 < 64
number-below names name few = by (nat_lt at (length names)) refl
  where
    at : ℕ
    at = position_or_len (same_name name) names

    by : (b : Bool) → nat_lt at (length names) ≡ b → unwrap_or (cond b (Some at) None) 0 < 64
    by true e = let l = ltb-true at (length names) e in omega arith
    by false e = omega arith

-- the service between these nodes, on this leg
abbrev pub entered_on : Network → ServiceLine → LegText → EnterText
entered_on net line leg = record {
  name = line.name;
  src = node_numbered net line.src;
  dst = node_numbered net line.dst;
  rate = line.rate;
  class = line.class;
  leg = leg;
}

module _ (net : Network) (line : ServiceLine) where
  abbrev s : EnterText
  s = service_entered net line

  abbrev heads : Bool
  heads = is_name s.name && nat_lt s.src 64 && nat_lt s.dst 64 && is_rate s.rate

  pub service-untold : None ≡ leg_if_told s.leg → None ≡ service_if_told s
  service-untold h = none_if (is_enter_text s) s
      (and_left (heads && is_leg_text s.leg) (has_backup_for s.class s.leg.back)
      (and_right heads (is_leg_text s.leg) (from_none (is_leg_text s.leg) s.leg h)))

  module _ (leg : LegText) (is : Some leg ≡ leg_if_told s.leg) where
    leg_is : (is_leg_text s.leg ≡ true) × (leg ≡ s.leg)
    leg_is = from_some (is_leg_text s.leg) s.leg leg is

    pub service-other : has_backup_for s.class leg.back ≡ false → None ≡ service_if_told s
    service-other h = none_if (is_enter_text s) s
        (and_right (heads && is_leg_text s.leg) (has_backup_for s.class s.leg.back)
        (ap (λ (l : LegText). has_backup_for s.class l.back) (sym leg_is.1) ∙ h))

    pub service-told : has_backup_for s.class leg.back ≡ true → length net.nodes ≤ 64 → is_service_line line ≡ true →
        (t : EnterText) → t ≡ entered_on net line leg → Some t ≡ service_if_told s
    service-told h few ok t e =
        let named = line-named line ok in
        let src = lt-ltb (node_numbered net line.src) 64 (number-below net.nodes line.src few) in
        let dst = lt-ltb (node_numbered net line.dst) 64 (number-below net.nodes line.dst few) in
        let front = and_from _ _ (and_from _ _ (and_from _ _ named.0 src) dst) named.1 in
        some_if (is_enter_text s) s t
        (and_from (heads && is_leg_text s.leg) (has_backup_for s.class s.leg.back)
        (and_from heads (is_leg_text s.leg) front leg_is.0)
        (ap (λ (l : LegText). has_backup_for s.class l.back) (sym leg_is.1) ∙ h))
        (e ∙ ap (entered_on net line) leg_is.1)
