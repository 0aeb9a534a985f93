-- Which block is asked for, or the first fault of the question.
use Rattle.std.proofs.Common.{◌≡◌, refl, sym, ◌∙◌, ap, ℕ, ℤ, ◌≤◌, Bool, true, false, cond, not, [], ◌∷◌, find, Option, Some, None, Result, Ok, Err}
use Rattle.std.specs.Prelude.{is_some}
use Rattle.std.specs.Option.{option_map, option_or, unwrap_or}
use Rattle.std.specs.Bool.{then_some}
use Rattle.std.specs.Cmp.{nat_eq_equiv}
use Rattle.std.proofs.lemmas.Bool.{both_ways}
use Rattle.eon_model.specs.declared.Part.{Part}
use Rattle.eon_model.specs.declared.Part.TheVariants.{Work}
use Rattle.eon_model.specs.Grid.{Slot, Units, Band, units_of, lies_in_band, is_band, is_slot}
use Rattle.eon_model.specs.Names.{Name}
use Rattle.eon_model.specs.Network.{Network}
use Rattle.eon_model.specs.Route.{Route, route_of, walks}
use Rattle.eon_model.specs.Services.{Path}
use Rattle.eon_model.specs.Legal.{Setup, need_of, is_exactly}
use Rattle.eon_model.specs.NetworkText.{is_setup}
use Rattle.eon_model.specs.CommandText.{is_rate}
use Rattle.eon_model.specs.Replies.{Reply}
use Rattle.eon_model.specs.RoomCommands.{Question}
use Rattle.eon_model.specs.RoomAnswers.{demand_of}
use Rattle.eon_model.specs.RoomReplies as said
use Rattle.eon_model.specs.Step.{AskedPath, asked, fault_in, is_node, is_fibre, node_numbered, fibres_numbered, walks_between, reaches_end, is_in_band}
use Rattle.eon_model.proofs.WidthLaws.{need-positive}
use Rattle.admission.proofs.SpanLaws.{slot_in}
use Rattle.flex_grid.specs.Makes.{slot_of}
use Rattle.room_lines.specs.declared.reply.RoomReply.{RoomReply}
use Rattle.room_lines.specs.declared.reply.RoomReply.TheVariants as reply
use Rattle.room_lines.specs.Asking.{first_unknown, route_asked, slot_in_band, fault_before, IsBlockAt, IsBlockFor}

-- ---- the slot

one_slot : (b : Bool) (s slot : Slot) → cond b (Some s) None ≡ Some slot → (b ≡ true) × (s ≡ slot)
one_slot true s slot h = (refl, cc)
one_slot false s slot h = cc

no_slot : (b : Bool) (s : Slot) → cond b (Some s) None ≡ None → b ≡ false
no_slot true s h = cc
no_slot false s h = refl

some_then : (b : Bool) (s : Slot) → then_some b s ≡ cond b (Some s) None
some_then true s = refl
some_then false s = refl

pub slot-made : (band : Band) (u : Units) (n : ℤ) (m : ℕ) (slot : Slot) (b : Bool) (r : Option Slot) →
    slot_of n m ≡ Some slot → u ≡ units_of slot → b ≡ lies_in_band band u → r ≡ then_some b slot →
    r ≡ slot_in_band band n m
slot-made band u n m slot b r made is lies e =
    let s : Slot = record { n = n; m = m } in
    let same : s ≡ slot = (one_slot (is_slot s) s slot made).1 in
    e ∙ some_then b slot
    ∙ (λ i. cond (lies i) (Some slot) None) ∙ (λ i. cond (lies_in_band band (is i)) (Some slot) None)
    ∙ sym (ap (λ (v : Slot). cond (lies_in_band band (units_of v)) (Some v) None) same)

-- what is no slot of the grid does not lie in the band
pub slot-none : (band : Band) (n : ℤ) (m : ℕ) → is_band band ≡ true → 1 ≤ m → slot_of n m ≡ None →
    None ≡ slot_in_band band n m
slot-none band n m ok wide none =
    let s : Slot = record { n = n; m = m } in
    sym (ap (λ b. cond b (Some s) None) (out (lies_in_band band (units_of s)) refl))
  where
    out : (b : Bool) → lies_in_band band (units_of (record { n = n; m = m })) ≡ b →
        lies_in_band band (units_of (record { n = n; m = m })) ≡ false
    out true e = absurd (both_ways (is_slot (record { n = n; m = m }))
        (no_slot (is_slot (record { n = n; m = m })) (record { n = n; m = m }) none)
        (slot_in band (record { n = n; m = m }) ok wide e))
    out false e = e

pub width-wide : (setup : Setup) (rate km m : ℕ) → is_setup setup ≡ true → is_rate rate ≡ true →
    need_of setup rate km ≡ Some m → 1 ≤ m
width-wide setup rate km m ok h e = need-positive setup rate km m ok h (ap (λ o. is_exactly o m) e ∙ nat_eq_equiv.refl m)

-- ---- one fault after the other

free : (say : Part → Reply) (f : AskedPath → Bool) (p : AskedPath) (other : Option Reply) → f p ≡ false →
    option_or (fault_in say f (p ∷ [])) other ≡ other
free say f p other h = ap (λ b. option_or (option_map (λ (q : AskedPath). say q.part) (cond b (Some p) None)) other) h

at_fault : (say : Part → Reply) (f : AskedPath → Bool) (p : AskedPath) (other : Option Reply) → f p ≡ true →
    option_or (fault_in say f (p ∷ [])) other ≡ Some (say p.part)
at_fault say f p other h = ap (λ b. option_or (option_map (λ (q : AskedPath). say q.part) (cond b (Some p) None)) other) h

all_known : (a b : Option Name) (other : Option Reply) → option_or a b ≡ None →
    option_or (option_map Reply.Unknown a) (option_or (option_map Reply.Unknown b) other) ≡ other
all_known None None other h = refl
all_known None (Some n) other h = cc
all_known (Some n) b other h = cc

one_unknown : (a b : Option Name) (other : Option Reply) (name : Name) → option_or a b ≡ Some name →
    option_or (option_map Reply.Unknown a) (option_or (option_map Reply.Unknown b) other) ≡ Some (Reply.Unknown name)
one_unknown None None other name h = cc
one_unknown None (Some n) other name h = let same : n ≡ name = cc in ap (λ (x : Name). Some (Reply.Unknown x)) same
one_unknown (Some n) b other name h = let same : n ≡ name = cc in ap (λ (x : Name). Some (Reply.Unknown x)) same

one_route : (b : Bool) (r route : Route) → cond b (Some r) None ≡ Some route → (b ≡ true) × (r ≡ route)
one_route true r route h = (refl, cc)
one_route false r route h = cc

no_route : (b : Bool) (r : Route) → cond b (Some r) None ≡ None → b ≡ false
no_route true r h = cc
no_route false r h = refl

-- ---- the question

module _ (setup : Setup) (q : Question) where
  abbrev net : Network
  net = setup.network

  abbrev path : AskedPath
  path = asked net Work q.work

  abbrev ends : Option Name
  ends = find (λ name. not (is_node net name)) (q.src ∷ q.dst ∷ [])

  abbrev fibres : Option Name
  fibres = find (λ name. not (is_fibre net name)) q.work.fibres

  pub unknown-fault : (name : Name) → first_unknown net q.src q.dst q.work.fibres ≡ Some name →
      IsBlockFor setup q (Err (reply.Unknown name))
  unknown-fault name h = λ other. ap (option_map said.RoomReply.Plain) (one_unknown ends fibres _ name h)

  module _ (known : first_unknown net q.src q.dst q.work.fibres ≡ None) where
    abbrev of_band : Option Reply → Option Reply
    of_band other = option_or (fault_in Reply.Band (λ p. not (is_in_band setup (demand_of [] q) p)) (path ∷ [])) other

    abbrev of_reach : Option Reply → Option Reply
    of_reach other = option_or (fault_in Reply.Reach (λ p. not (reaches_end setup (demand_of [] q) p)) (path ∷ [])) (of_band other)

    abbrev of_path : Option Reply → Option Reply
    of_path other = option_or (fault_in Reply.Path (λ p. not (walks_between net (demand_of [] q) p)) (path ∷ [])) (of_reach other)

    names_known : (other : Option Reply) → fault_before setup q other ≡ of_path other
    names_known other = all_known ends fibres (of_path other) known

    pub path-fault : route_asked net q ≡ None → IsBlockFor setup q (Err reply.Path)
    path-fault e = λ other. ap (option_map said.RoomReply.Plain) (names_known other
        ∙ at_fault Reply.Path (λ p. not (walks_between net (demand_of [] q) p)) path (of_reach other)
        (ap not (no_route (walks net.fibres (node_numbered net q.src) (node_numbered net q.dst) (fibres_numbered net q.work.fibres))
        (route_of net (fibres_numbered net q.work.fibres)) e)))

    module _ (route : Route) (e : route_asked net q ≡ Some route) where
      found : (walks net.fibres (node_numbered net q.src) (node_numbered net q.dst) (fibres_numbered net q.work.fibres) ≡ true)
          × (route_of net (fibres_numbered net q.work.fibres) ≡ route)
      found = one_route (walks net.fibres (node_numbered net q.src) (node_numbered net q.dst) (fibres_numbered net q.work.fibres))
          (route_of net (fibres_numbered net q.work.fibres)) route e

      on_path : (other : Option Reply) → fault_before setup q other ≡ of_reach other
      on_path other = names_known other
          ∙ free Reply.Path (λ p. not (walks_between net (demand_of [] q) p)) path (of_reach other) (ap not found.0)

      abbrev need : Option ℕ
      need = need_of setup q.rate path.route.km

      need_is : need ≡ need_of setup q.rate route.km
      need_is = ap (λ (r : Route). need_of setup q.rate r.km) found.1

      in_reach : (m : ℕ) → need_of setup q.rate route.km ≡ Some m → (other : Option Reply) →
          fault_before setup q other ≡ of_band other
      in_reach m h other = on_path other
          ∙ free Reply.Reach (λ p. not (reaches_end setup (demand_of [] q) p)) path (of_band other)
          (ap (λ (o : Option ℕ). not (is_some o)) (need_is ∙ h))

      abbrev slot_with : ℕ → Slot
      slot_with m = record { n = q.work.n; m = m }

      width_is : (m : ℕ) → need_of setup q.rate route.km ≡ Some m → slot_with (unwrap_or need 0) ≡ slot_with m
      width_is m h = ap (λ (o : Option ℕ). slot_with (unwrap_or o 0)) (need_is ∙ h)

      pub block-by : (r : Result Path RoomReply) → IsBlockAt setup q.rate q.work.n route r → IsBlockFor setup q r
      block-by (Ok p) h =
          let lies = one_slot (lies_in_band setup.band (units_of (slot_with h.0))) (slot_with h.0) p.slot h.2 in (
            λ other. in_reach h.0 h.1 other
                ∙ free Reply.Band (λ p. not (is_in_band setup (demand_of [] q) p)) path other
                (ap (λ (s : Slot). not (lies_in_band setup.band (units_of s))) (width_is h.0 h.1) ∙ ap not lies.0),
            (λ i. let v : Path = record { route = (h.3 ∙ sym found.1) i; slot = (sym lies.1 ∙ sym (width_is h.0 h.1)) i } in v),
          )
      block-by (Err reply.Reach) h = λ other. ap (option_map said.RoomReply.Plain) (on_path other
          ∙ at_fault Reply.Reach (λ p. not (reaches_end setup (demand_of [] q) p)) path (of_band other)
          (ap (λ (o : Option ℕ). not (is_some o)) (need_is ∙ h)))
      block-by (Err reply.Band) h = λ other. ap (option_map said.RoomReply.Plain) (in_reach h.0 h.1 other
          ∙ at_fault Reply.Band (λ p. not (is_in_band setup (demand_of [] q) p)) path other
          (ap (λ (s : Slot). not (lies_in_band setup.band (units_of s))) (width_is h.0 h.1)
          ∙ ap not (no_slot (lies_in_band setup.band (units_of (slot_with h.0))) (slot_with h.0) h.2)))
      block-by (Err reply.Path) h = absurd h
      block-by (Err (reply.Line at)) h = absurd h
      block-by (Err (reply.Unknown name)) h = absurd h
      block-by (Err (reply.Busy name)) h = absurd h
      block-by (Err (reply.Over name)) h = absurd h
      block-by (Err (reply.At name)) h = absurd h
      block-by (Err (reply.Moves shifts)) h = absurd h
      block-by (Err reply.Memory) h = absurd h
      block-by (Err reply.Bye) h = absurd h
