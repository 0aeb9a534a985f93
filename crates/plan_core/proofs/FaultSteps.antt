-- Faults of the paths that are asked for, path by path.
use Rattle.std.proofs.Common.{◌≡◌, refl, sym, ◌∙◌, ap, ℕ, ℤ, ◌≤◌, Bool, true, false, cond, not, List, [], ◌∷◌, find, Option, Some, None}
use Rattle.std.specs.Prelude.{is_some}
use Rattle.std.specs.Option.{option_map, option_or, option_and_then, option_to_list, unwrap_or}
use Rattle.std.specs.Bool.{then_some}
use Rattle.std.specs.Cmp.{nat_eq_equiv}
use Rattle.std.proofs.lemmas.Bool.{both_ways}
use Rattle.eon_model.specs.declared.Part.{Part}
use Rattle.eon_model.specs.declared.Part.TheVariants.{Work, Backup}
use Rattle.eon_model.specs.Grid.{Slot, Units, Band, units_of, lies_in_band, is_band, is_slot}
use Rattle.eon_model.specs.Network.{Network}
use Rattle.eon_model.specs.Route.{Route, route_of, walks}
use Rattle.eon_model.specs.Services.{Path, Leg}
use Rattle.eon_model.specs.Legal.{Setup, need_of, is_exactly}
use Rattle.eon_model.specs.NetworkText.{is_setup}
use Rattle.eon_model.specs.Commands.{Demand, PathWords}
use Rattle.eon_model.specs.CommandText.{is_rate}
use Rattle.eon_model.specs.Replies.{Reply}
use Rattle.eon_model.specs.Step.{AskedPath, asked, asked_leg, fault_in, ◌when◌, risk_between, node_numbered, fibres_numbered, walks_between, reaches_end, is_in_band}
use Rattle.eon_model.proofs.WidthLaws.{need-positive}
use Rattle.admission.proofs.SpanLaws.{slot_in}
use Rattle.flex_grid.specs.Makes.{slot_of}
use Rattle.net_graph.specs.Walks.{route_from}
use Rattle.command_text.specs.declared.command.BackWords.{BackWords}
use Rattle.command_text.specs.Told.{told_backs, told_path}
use Rattle.push_rule.proofs.HullLaws.{none-by}
use Rattle.plan_core.specs.declared.demand.AskedPaths.{AskedPaths}
use Rattle.plan_core.specs.declared.demand.SizedPath.{SizedPath}
use Rattle.plan_core.specs.declared.demand.SizedPaths.{SizedPaths}
use Rattle.plan_core.specs.Placing.{paths_asked, path_if_walks, path_fault, slot_in_band, first_fault, reach_fault_of, reach_fault, risk_fault, band_fault, fault_of, sized, sized_paths, sized_risk, path_of, leg_of, band_fault_of}

-- ---- one path

map-cond : {X Y : Type 0} (f : X → Y) (b : Bool) (x : X) →
    option_map f (cond b (Some x) None) ≡ cond b (Some (f x)) None
map-cond f true x = refl
map-cond f false x = refl

-- the path that is made of a route
pub asked-made : (net : Network) (d : Demand) (part : Part) (words : PathWords) (src dst : ℕ) (numbers : List ℕ)
    (route : Option Route) → numbers ≡ fibres_numbered net words.fibres → src ≡ node_numbered net d.src →
    dst ≡ node_numbered net d.dst → route ≡ route_from net src dst numbers →
    option_map (λ r. record { part = part; route = r; n = words.n }) route
    ≡ path_if_walks net d (asked net part words)
asked-made net d part words src dst numbers route is s t made =
    let make = λ (r : Route). let p : AskedPath = record { part = part; route = r; n = words.n } in p in
    ap (option_map make) (made ∙ (λ i. route_from net (s i) (t i) (is i)))
    ∙ map-cond make (walks net.fibres (node_numbered net d.src) (node_numbered net d.dst)
    (fibres_numbered net words.fibres)) (route_of net (fibres_numbered net words.fibres))

module _ (net : Network) (d : Demand) (part : Part) (words : PathWords) (src dst : ℕ) (numbers : List ℕ)
    (route : Option Route) (is : numbers ≡ fibres_numbered net words.fibres) (s : src ≡ node_numbered net d.src)
    (t : dst ≡ node_numbered net d.dst) (made : route ≡ route_from net src dst numbers) where
  pub asked-some : (r : Route) (n : ℤ) → route ≡ Some r → n ≡ words.n →
      Some (record { part = part; route = r; n = n }) ≡ path_if_walks net d (asked net part words)
  asked-some r n e same =
      ap (λ (k : ℤ). let p : AskedPath = record { part = part; route = r; n = k } in Some p) same
      ∙ sym (ap (λ o. option_map (λ (q : Route). let p : AskedPath = record { part = part; route = q; n = words.n } in p) o) e)
      ∙ asked-made net d part words src dst numbers route is s t made

  pub asked-none : route ≡ None → None ≡ path_if_walks net d (asked net part words)
  asked-none e =
      sym (ap (λ o. option_map (λ (q : Route). let p : AskedPath = record { part = part; route = q; n = words.n } in p) o) e)
      ∙ asked-made net d part words src dst numbers route is s t made

walked-by : (b : Bool) (p q : AskedPath) → cond b (Some p) None ≡ Some q → (b ≡ true) × (p ≡ q)
walked-by true p q h = (refl, cc)
walked-by false p q h = cc

stuck-by : (b : Bool) (p : AskedPath) → cond b (Some p) None ≡ None → b ≡ false
stuck-by true p h = cc
stuck-by false p h = refl

fault-here : (reply : Part → Reply) (f : AskedPath → Bool) (p : AskedPath) (ps : List AskedPath) → f p ≡ true →
    fault_in reply f (p ∷ ps) ≡ Some (reply p.part)
fault-here reply f p ps h = ap (λ b. option_map (λ (q : AskedPath). reply q.part) (cond b (Some p) (find f ps))) h

fault-past : (reply : Part → Reply) (f : AskedPath → Bool) (p : AskedPath) (ps : List AskedPath) → f p ≡ false →
    fault_in reply f (p ∷ ps) ≡ fault_in reply f ps
fault-past reply f p ps h = ap (λ b. option_map (λ (q : AskedPath). reply q.part) (cond b (Some p) (find f ps))) h

-- ---- both paths

module _ (net : Network) (d : Demand) (w : PathWords) (back : Option BackWords) (work : AskedPath)
    (walk : Some work ≡ path_if_walks net d (asked net Work w)) where
  of_work : (walks_between net d (asked net Work w) ≡ true) × (asked net Work w ≡ work)
  of_work = walked-by (walks_between net d (asked net Work w)) (asked net Work w) work (sym walk)

  pub alone : back ≡ None →
      (None ≡ path_fault net d (paths_asked net w (told_backs back)))
      × (record { work = work; back = None } ≡ paths_asked net w (told_backs back))
  alone e = (
    sym (ap (λ b. path_fault net d (paths_asked net w (told_backs b))) e
        ∙ fault-past Reply.Path (λ p. not (walks_between net d p)) (asked net Work w) [] (ap not of_work.0)),
    (λ i. record { work = sym of_work.1 i; back = None })
        ∙ sym (ap (λ b. paths_asked net w (told_backs b)) e),
  )

  pub with_back : (b : BackWords) (path : AskedPath) → back ≡ Some b →
      Some path ≡ path_if_walks net d (asked net Backup (told_path b)) →
      (None ≡ path_fault net d (paths_asked net w (told_backs back)))
      × (record { work = work; back = Some path } ≡ paths_asked net w (told_backs back))
  with_back b path e h =
      let of_back = walked-by (walks_between net d (asked net Backup (told_path b))) (asked net Backup (told_path b)) path (sym h) in (
        sym (ap (λ b. path_fault net d (paths_asked net w (told_backs b))) e
            ∙ fault-past Reply.Path (λ p. not (walks_between net d p)) (asked net Work w) (asked net Backup (told_path b) ∷ []) (ap not of_work.0)
            ∙ fault-past Reply.Path (λ p. not (walks_between net d p)) (asked net Backup (told_path b)) [] (ap not of_back.0)),
        (λ i. record { work = sym of_work.1 i; back = Some (sym of_back.1 i) })
            ∙ sym (ap (λ b. paths_asked net w (told_backs b)) e),
      )

  pub with_stuck : (b : BackWords) → back ≡ Some b → None ≡ path_if_walks net d (asked net Backup (told_path b)) →
      Some (Reply.Path Backup) ≡ path_fault net d (paths_asked net w (told_backs back))
  with_stuck b e h =
      let of_back = stuck-by (walks_between net d (asked net Backup (told_path b))) (asked net Backup (told_path b)) (sym h) in
      sym (ap (λ b. path_fault net d (paths_asked net w (told_backs b))) e
      ∙ fault-past Reply.Path (λ p. not (walks_between net d p)) (asked net Work w) (asked net Backup (told_path b) ∷ []) (ap not of_work.0)
      ∙ fault-here Reply.Path (λ p. not (walks_between net d p)) (asked net Backup (told_path b)) [] (ap not of_back))

-- ---- widths and slots

pub width-wide : (setup : Setup) (rate km m : ℕ) → is_setup setup ≡ true → is_rate rate ≡ true →
    need_of setup rate km ≡ Some m → 1 ≤ m
width-wide setup rate km m ok h e =
    need-positive setup rate km m ok h (ap (λ o. is_exactly o m) e ∙ nat_eq_equiv.refl m)

made-by : (b : Bool) (s slot : Slot) → cond b (Some s) None ≡ Some slot → s ≡ slot
made-by true s slot h = cc
made-by false s slot h = cc

some-then : (b : Bool) (s : Slot) → then_some b s ≡ cond b (Some s) None
some-then true s = refl
some-then false s = refl

pub slot-made : (band : Band) (u : Units) (n : ℤ) (m : ℕ) (slot : Slot) (b : Bool) (r : Option Slot) →
    slot_of n m ≡ Some slot → u ≡ units_of slot → b ≡ lies_in_band band u → r ≡ then_some b slot →
    r ≡ slot_in_band band n m
slot-made band u n m slot b r made is lies e =
    let s : Slot = record { n = n; m = m } in
    let same : s ≡ slot = made-by (is_slot s) s slot made in
    e ∙ some-then b slot
    ∙ (λ i. cond (lies i) (Some slot) None) ∙ (λ i. cond (lies_in_band band (is i)) (Some slot) None)
    ∙ sym (ap (λ (v : Slot). cond (lies_in_band band (units_of v)) (Some v) None) same)

-- what is no slot of the grid does not lie in the band
pub slot-none : (band : Band) (n : ℤ) (m : ℕ) → is_band band ≡ true → 1 ≤ m → slot_of n m ≡ None →
    None ≡ slot_in_band band n m
slot-none band n m ok wide none =
    let s : Slot = record { n = n; m = m } in
    sym (ap (λ b. cond b (Some s) None) (out (lies_in_band band (units_of s)) refl))
  where
    out : (b : Bool) → lies_in_band band (units_of (record { n = n; m = m })) ≡ b →
        lies_in_band band (units_of (record { n = n; m = m })) ≡ false
    out true e = absurd (both_ways (is_slot (record { n = n; m = m }))
        (none-by (is_slot (record { n = n; m = m })) (record { n = n; m = m }) none)
        (slot_in band (record { n = n; m = m }) ok wide e))
    out false e = e

-- ---- one path within reach, and in the band

pub reach-some : (setup : Setup) (d : Demand) (p : AskedPath) (m : ℕ) → need_of setup d.rate p.route.km ≡ Some m →
    (None ≡ reach_fault_of setup d p) × (record { path = p; m = m } ≡ sized setup d p)
reach-some setup d p m e = (
  sym (ap (λ o. Reply.Reach p.part when not (is_some o)) e),
  sym (ap (λ (o : Option ℕ). let s : SizedPath = record { path = p; m = unwrap_or o 0 } in s) e),
)

pub reach-none : (setup : Setup) (d : Demand) (p : AskedPath) → need_of setup d.rate p.route.km ≡ None →
    Some (Reply.Reach p.part) ≡ reach_fault_of setup d p
reach-none setup d p e = sym (ap (λ o. Reply.Reach p.part when not (is_some o)) e)

slot-by : (b : Bool) (s : Slot) (r : Reply) (o : Option Slot) → o ≡ cond b (Some s) None →
    ((slot : Slot) → o ≡ Some slot → (None ≡ then_some (not b) r) × (slot ≡ s))
    × (o ≡ None → Some r ≡ then_some (not b) r)
slot-by true s r o e = (λ slot is. (refl, let same : Some s ≡ Some slot = sym e ∙ is in cc), λ is. absurd (some-no s (sym e ∙ is)))
  where
    some-no : (s : Slot) → Some s ≡ None → ⊥
    some-no s h = cc
slot-by false s r o e = (λ slot is. absurd (no-slot slot (sym e ∙ is)), λ is. refl)
  where
    no-slot : (s : Slot) → None ≡ Some s → ⊥
    no-slot s h = cc

-- a slot in the band, and one that is not there
pub band-some : (band : Band) (s : SizedPath) (o : Option Slot) (slot : Slot) → o ≡ slot_in_band band s.path.n s.m →
    o ≡ Some slot → (None ≡ band_fault_of band s) × (record { route = s.path.route; slot = slot } ≡ path_of s)
band-some band s o slot e is =
    let t : Slot = record { n = s.path.n; m = s.m } in
    let r = (slot-by (lies_in_band band (units_of t)) t (Reply.Band s.path.part) o e).0 slot is in
    (r.0, ap (λ (v : Slot). let p : Path = record { route = s.path.route; slot = v } in p) r.1)

pub band-none : (band : Band) (s : SizedPath) (o : Option Slot) → o ≡ slot_in_band band s.path.n s.m → o ≡ None →
    Some (Reply.Band s.path.part) ≡ band_fault_of band s
band-none band s o e is =
    let t : Slot = record { n = s.path.n; m = s.m } in
    (slot-by (lies_in_band band (units_of t)) t (Reply.Band s.path.part) o e).1 is

-- ---- the first of the two paths with a fault

module _ {P : Type 0} (fault : P → Option Reply) (work : P) (back : Option P) where
  pub first-work : (r : Reply) → Some r ≡ fault work → Some r ≡ first_fault fault work back
  first-work r h = ap (λ o. option_or o (option_and_then fault back)) h

  pub first-back : (o : Option Reply) → None ≡ fault work → o ≡ option_and_then fault back → o ≡ first_fault fault work back
  first-back o free h = h ∙ ap (λ x. option_or x (option_and_then fault back)) free

two-faults : (reply : Part → Reply) (f : AskedPath → Bool) (w : AskedPath) (back : Option AskedPath) →
    first_fault (λ p. reply p.part when f p) w back ≡ fault_in reply f (w ∷ option_to_list back)
two-faults reply f w back = by (f w) back
  where
    last : (c : AskedPath) (y : Bool) → then_some y (reply c.part)
        ≡ option_map (λ (p : AskedPath). reply p.part) (cond y (Some c) None)
    last c true = refl
    last c false = refl

    by : (x : Bool) (b : Option AskedPath) →
        option_or (then_some x (reply w.part)) (option_and_then (λ p. reply p.part when f p) b)
        ≡ option_map (λ (p : AskedPath). reply p.part) (cond x (Some w) (find f (option_to_list b)))
    by true b = refl
    by false None = refl
    by false (Some c) = last c (f c)

module _ (setup : Setup) (d : Demand) (p : AskedPaths) where
  reach-first : first_fault (reach_fault_of setup d) p.work p.back ≡ reach_fault setup d p
  reach-first = two-faults Reply.Reach (λ q. not (reaches_end setup d q)) p.work p.back

  band-first : first_fault (band_fault_of setup.band) (sized_paths setup d p).work (sized_paths setup d p).back
      ≡ band_fault setup d p
  band-first =
      ap (option_or (band_fault_of setup.band (sized setup d p.work))) (by p.back)
      ∙ two-faults Reply.Band (λ q. not (is_in_band setup d q)) p.work p.back
    where
      by : (b : Option AskedPath) → option_and_then (band_fault_of setup.band) (option_map (sized setup d) b)
          ≡ option_and_then (λ q. Reply.Band q.part when not (is_in_band setup d q)) b
      by None = refl
      by (Some q) = refl

  sized-risk : sized_risk setup.network (sized_paths setup d p) ≡ risk_fault setup.network p
  sized-risk = by p.back
    where
      by : (b : Option AskedPath) →
          risk_between setup.network p.work.route (option_map (λ (s : SizedPath). s.path) (option_map (sized setup d) b))
          ≡ risk_between setup.network p.work.route b
      by None = refl
      by (Some q) = refl

  sized-leg : leg_of (sized_paths setup d p) ≡ asked_leg setup d p.work p.back
  sized-leg = by p.back
    where
      by : (b : Option AskedPath) → leg_of (sized_paths setup d (record { work = p.work; back = b }))
          ≡ asked_leg setup d p.work b
      by None = refl
      by (Some q) = refl

  -- no format reaches so far
  pub reach-fault : (r : Reply) → Some r ≡ first_fault (reach_fault_of setup d) p.work p.back → Some r ≡ fault_of setup d p
  reach-fault r h = sym (ap (λ o. option_or o (option_or (risk_fault setup.network p) (band_fault setup d p)))
      (sym (h ∙ reach-first)))

  past-reach : None ≡ first_fault (reach_fault_of setup d) p.work p.back →
      option_or (risk_fault setup.network p) (band_fault setup d p) ≡ fault_of setup d p
  past-reach none = ap (λ o. option_or o (option_or (risk_fault setup.network p) (band_fault setup d p)))
      (none ∙ reach-first)

  module _ (none : None ≡ first_fault (reach_fault_of setup d) p.work p.back) (net : Network) (of_net : net ≡ setup.network)
      (s : SizedPaths) (is : s ≡ sized_paths setup d p) where
    risk-is : sized_risk net s ≡ risk_fault setup.network p
    risk-is = (λ i. sized_risk (of_net i) (is i)) ∙ sized-risk

    -- the paths have a common group
    pub risk-fault : (r : Reply) → Some r ≡ sized_risk net s → Some r ≡ fault_of setup d p
    risk-fault r h = ap (λ o. option_or o (band_fault setup d p)) (h ∙ risk-is) ∙ past-reach none

    -- a slot does not lie in the band, or nothing is in the way
    pub band-fault : (o : Option Reply) (band : Band) → None ≡ sized_risk net s → band ≡ setup.band →
        o ≡ first_fault (band_fault_of band) s.work s.back → o ≡ fault_of setup d p
    band-fault o band free of_band h =
        h ∙ (λ i. first_fault (band_fault_of (of_band i)) (is i).work (is i).back) ∙ band-first
        ∙ ap (λ q. option_or q (band_fault setup d p)) (free ∙ risk-is) ∙ past-reach none

    pub leg-is : (l : Leg) → l ≡ leg_of s → l ≡ asked_leg setup d p.work p.back
    leg-is l h = h ∙ ap leg_of is ∙ sized-leg
