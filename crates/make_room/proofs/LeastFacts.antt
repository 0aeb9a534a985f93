-- Channels that settled at their least heights, in their parts of the band and behind backups.
use Rattle.std.proofs.Common.{◌≡◌, refl, sym, ◌∙◌, ap, subst, ℕ, ◌+◌, ◌≤◌, ◌⊎◌, inl, inr, true, false, cond, ◌&&◌, List, length, get_or, Option, Some, None, arith}
use Rattle.std.specs.Prelude.{slice_get, nat_le}
use Rattle.std.specs.Option.{option_map, unwrap_or}
use Rattle.std.proofs.lemmas.Bool.{and_parts, both_ways, cases_Bool, leb-true, le-leb}
use Rattle.std.proofs.lemmas.Option.{slice_get_within}
use Rattle.eon_model.specs.Grid.{Units, units_of, lies_in, is_band}
use Rattle.eon_model.specs.Names.{same_name}
use Rattle.eon_model.specs.Route.{share_fibre}
use Rattle.eon_model.specs.Services.{Path, Service, State}
use Rattle.eon_model.specs.Legal.{Setup, Legal}
use Rattle.eon_model.specs.Places.{target_in, AtRest, Places, own_places, units_at}
use Rattle.eon_model.proofs.GridLaws.{lies_in-facts}
use Rattle.eon_model.proofs.OrderLaws.{IsIn}
use Rattle.eon_model.proofs.ListLaws.{slice_get_in}
use Rattle.eon_model.proofs.Members.{any-member}
use Rattle.eon_model.proofs.FoundLaws.{found}
use Rattle.eon_model.proofs.StandLaws.{own_can}
use Rattle.make_room.specs.declared.heights.Side.{Side}
use Rattle.make_room.specs.declared.heights.Side.TheVariants.{Floor, Ceiling}
use Rattle.make_room.specs.Heights.{begin_of, end_of, base_of, end_before_of, backup_end_of, IsMaxTo}
use Rattle.make_room.specs.Sweeps.{SettlesLeast, centres_from}
use Rattle.make_room.proofs.SideLaws.{Before, NotPast, not_past-begins, begins-not_past, end-in}
use Rattle.make_room.proofs.StandFacts.{own_grid, own_wide, own_width, ends_before_it, part_facts}
use Rattle.make_room.proofs.ExtremeFacts.{index_in, HeldByChannel, InOrder, begin_is, at_most, over_limit, in_order, held}

-- a part of the band around units, not past them
around : (from : Side) (q a : Units) → lies_in q a ≡ true → NotPast from q a
around Floor q a h = (lies_in-facts q a h).0
around Ceiling q a h = (lies_in-facts q a h).1

-- what a backup tells
back_cases : (from : Side) (s : Path) (o : Service) →
    (backup_end_of from s o ≡ 0)
    ⊎ ((b : Path) × (o.leg.back ≡ Some b) × (share_fibre b.route s.route ≡ true)
    × (end_of from (units_of b.slot) ≤ begin_of from (units_of s.slot)) × (backup_end_of from s o ≡ end_of from (units_of b.slot)))
back_cases from s o = by o.leg.back refl
  where
    by : (r : Option Path) → o.leg.back ≡ r →
        (unwrap_or (option_map (end_before_of from s) o.leg.back) 0 ≡ 0)
        ⊎ ((b : Path) × (o.leg.back ≡ Some b) × (share_fibre b.route s.route ≡ true)
        × (end_of from (units_of b.slot) ≤ begin_of from (units_of s.slot))
        × (unwrap_or (option_map (end_before_of from s) o.leg.back) 0 ≡ end_of from (units_of b.slot)))
    by None e = inl (ap (λ (r : Option Path). unwrap_or (option_map (end_before_of from s) r) 0) e)
    by (Some b) e =
        let there = ap (λ (r : Option Path). unwrap_or (option_map (end_before_of from s) r) 0) e in
        elim (cases_Bool (share_fibre b.route s.route && nat_le (end_of from (units_of b.slot)) (begin_of from (units_of s.slot)))) [
          | inl t ↦
              let parts = and_parts (share_fibre b.route s.route) (nat_le (end_of from (units_of b.slot)) (begin_of from (units_of s.slot))) t in
              inr (b, e, parts.0, leb-true _ _ parts.1, there ∙ (λ i. cond (t i) (end_of from (units_of b.slot)) 0))
          | inr f ↦ inl (there ∙ (λ i. cond (f i) (end_of from (units_of b.slot)) 0))
        ]

back_on : (from : Side) (s : Path) (o : Service) (b : Path) → o.leg.back ≡ Some b → share_fibre b.route s.route ≡ true →
    end_of from (units_of b.slot) ≤ begin_of from (units_of s.slot) → backup_end_of from s o ≡ end_of from (units_of b.slot)
back_on from s o b e f h =
    ap (λ (r : Option Path). unwrap_or (option_map (end_before_of from s) r) 0) e
    ∙ (λ i. cond (f i && le-leb (end_of from (units_of b.slot)) (begin_of from (units_of s.slot)) h i) (end_of from (units_of b.slot)) 0)

-- a backup ends before the channel
pub record HeldByBackup (from : Side) (state : State) (p : Places) (s o : Service) (b : Path) : Type 0 where
  pub there : IsIn o state
  pub is : o.leg.back ≡ Some b
  pub common : share_fibre b.route s.leg.work.route ≡ true
  pub before : end_of from (units_of b.slot) ≤ begin_of from (units_at own_places s)
  pub ends : end_of from (units_of b.slot) ≡ begin_of from (units_at p s)

module _ (setup : Setup) (state : State) (rest : AtRest state) (legal : Legal setup state)
    (banded : is_band setup.band ≡ true) (from : Side) (settled : List ℕ) (sl : SettlesLeast from setup.band state settled) where
  p : Places
  p = target_in state (centres_from from state settled)

  member : (i : ℕ) (s : Service) → slice_get state i ≡ Some s → IsIn s state
  member i s e = (slice_get_in state i s e).1

  starts_at : (i : ℕ) (s : Service) → slice_get state i ≡ Some s →
      get_or sl.starts i 0 ≡ begin_of from (units_at own_places s)
  starts_at i s e = (sl.starts_are.each i s (slice_get_within state i s e) e).0

  limit_at : (i : ℕ) (s : Service) → slice_get state i ≡ Some s →
      IsMaxTo (backup_end_of from s.leg.work) state (base_of from setup.band s.leg.work) (length state) (get_or sl.limits i 0)
  limit_at i s e = sl.limits_are.each i s (slice_get_within state i s e) e

  -- the part of the band where the channel stands
  pub part_of : (s : Service) → IsIn s state → (q : Units) × (IsIn q setup.band) × (lies_in q (units_at own_places s) ≡ true)
      × (base_of from setup.band s.leg.work ≡ begin_of from q)
  part_of s i =
      let own = own_can setup state rest legal in
      elim (found (λ (q : Units). lies_in q (units_of s.leg.work.slot)) setup.band) [
        | inl none ↦
            let f = any-member (λ (q : Units). lies_in q (units_of s.leg.work.slot)) setup.band (own.in_band s i) in
            absurd (both_ways _ (none.1 f.0 f.1.0) f.1.1)
        | inr some ↦ (
          some.0,
          some.2,
          some.3,
          ap (λ (o : Option Units). unwrap_or (option_map (begin_of from) o) (begin_of from (units_of s.leg.work.slot))) some.1,
        )
      ]

  base_in : (s : Service) → IsIn s state → base_of from setup.band s.leg.work ≤ begin_of from (units_at own_places s)
  base_in s i =
      let q = part_of s i in
      subst (λ (n : ℕ). n ≤ begin_of from (units_at own_places s)) (sym q.3)
      (not_past-begins from q.0 (units_at own_places s) (part_facts setup state rest legal banded q.0 q.1).1
      (own_grid setup state rest legal banded s i) (around from q.0 (units_at own_places s) q.2))

  zero_in : (a b : ℕ) → a ≡ 0 → a ≤ b
  zero_in a b e = omega (arith, e)

  back_in : (s o : Service) → backup_end_of from s.leg.work o ≤ begin_of from (units_at own_places s)
  back_in s o = elim (back_cases from s.leg.work o) [
    | inl none ↦ zero_in (backup_end_of from s.leg.work o) (begin_of from (units_at own_places s)) none
    | inr some ↦ subst (λ (n : ℕ). n ≤ begin_of from (units_at own_places s)) (sym some.4) some.3
  ]

  limits_in : (i : ℕ) (s : Service) → slice_get state i ≡ Some s → get_or sl.limits i 0 ≤ get_or sl.starts i 0
  limits_in i s e =
      let at = limit_at i s e in
      subst (λ (n : ℕ). get_or sl.limits i 0 ≤ n) (sym (starts_at i s e))
      (elim at.from [
        | inl base ↦ subst (λ (n : ℕ). n ≤ begin_of from (units_at own_places s)) (sym base) (base_in s (member i s e))
        | inr more ↦ subst (λ (n : ℕ). n ≤ begin_of from (units_at own_places s)) more.1.3 (back_in s more.1.0)
      ])

  caps_in : (i j : ℕ) (s o : Service) → slice_get state i ≡ Some s → slice_get state j ≡ Some o →
      share_fibre o.leg.work.route s.leg.work.route ≡ true → same_name o.name s.name ≡ false →
      Before from (units_at own_places o) (units_at own_places s) →
      get_or sl.starts j 0 + (o.leg.work.slot.m + o.leg.work.slot.m) ≤ get_or sl.starts i 0
  caps_in i j s o e f common other before =
      let ends = ends_before_it setup state rest legal banded from o s (member j o f) (member i s e) before in
      let width = own_width setup state rest legal banded from o (member j o f) in
      sum_to (get_or sl.starts j 0) (begin_of from (units_at own_places o)) (o.leg.work.slot.m + o.leg.work.slot.m)
      (end_of from (units_at own_places o)) (begin_of from (units_at own_places s)) (get_or sl.starts i 0)
      (starts_at j o f) width ends (starts_at i s e)
    where
      sum_to : (a b w c d x : ℕ) → a ≡ b → c ≡ b + w → c ≤ d → x ≡ d → a + w ≤ x
      sum_to a b w c d x e f g h = omega (arith, e, f, g, h)

  caps_grid : (i : ℕ) (s : Service) → slice_get state i ≡ Some s →
      get_or sl.starts i 0 + (s.leg.work.slot.m + s.leg.work.slot.m) ≤ 8192
  caps_grid i s e =
      let j = member i s e in
      let width = own_width setup state rest legal banded from s j in
      let end = end-in from (units_at own_places s) (own_wide setup state rest legal banded s j)
      (own_grid setup state rest legal banded s j) in
      let start = starts_at i s e in
      sum_in (get_or sl.starts i 0) (begin_of from (units_at own_places s)) (s.leg.work.slot.m + s.leg.work.slot.m)
      (end_of from (units_at own_places s)) start width end
    where
      sum_in : (a b w c : ℕ) → a ≡ b → c ≡ b + w → c ≤ 8192 → a + w ≤ 8192
      sum_in a b w c e f g = omega (arith, e, f, g)

  pub least_order : InOrder from state (target_in state (centres_from from state settled))
  least_order = in_order setup state rest legal banded from sl.starts sl.limits sl.starts settled sl.settles starts_at
      limits_in caps_in caps_grid

  begin_at : (i : ℕ) (s : Service) → slice_get state i ≡ Some s →
      begin_of from (units_at (target_in state (centres_from from state settled)) s) ≡ get_or settled i 0
  begin_at = begin_is setup state rest legal banded from sl.starts sl.limits sl.starts settled sl.settles starts_at
      limits_in caps_in caps_grid

  over : (i : ℕ) (s : Service) → slice_get state i ≡ Some s →
      get_or sl.limits i 0 ≤ begin_of from (units_at (target_in state (centres_from from state settled)) s)
  over i s e = subst (λ (n : ℕ). get_or sl.limits i 0 ≤ n) (sym (begin_at i s e))
      (over_limit setup state rest legal banded from sl.starts sl.limits sl.starts settled sl.settles starts_at
      limits_in caps_in caps_grid i s e)

  -- none goes past its own place
  pub not_past_own : (s : Service) → IsIn s state →
      NotPast from (units_at (target_in state (centres_from from state settled)) s) (units_at own_places s)
  not_past_own s i =
      let at = index_in state s i in
      let low = at_most setup state rest legal banded from sl.starts sl.limits sl.starts settled sl.settles starts_at
      limits_in caps_in caps_grid at.0 s at.1 in
      begins-not_past from (units_at (target_in state (centres_from from state settled)) s) (units_at own_places s)
      (least_order.grid s i) (own_grid setup state rest legal banded s i)
      (subst (λ (n : ℕ). n ≤ begin_of from (units_at own_places s)) (sym (begin_at at.0 s at.1))
      (subst (λ (n : ℕ). get_or settled at.0 0 ≤ n) (starts_at at.0 s at.1) low))

  -- nor out of its part of the band
  pub in_its_part : (s : Service) (i : IsIn s state) →
      NotPast from (part_of s i).0 (units_at (target_in state (centres_from from state settled)) s)
  in_its_part s i =
      let at = index_in state s i in
      let q = part_of s i in
      let limit = limit_at at.0 s at.1 in
      begins-not_past from q.0 (units_at (target_in state (centres_from from state settled)) s)
      (part_facts setup state rest legal banded q.0 q.1).1 (least_order.grid s i)
      (subst (λ (n : ℕ). n ≤ begin_of from (units_at (target_in state (centres_from from state settled)) s)) q.3
      (through (base_of from setup.band s.leg.work) (get_or sl.limits at.0 0) _ limit.base_is (over at.0 s at.1)))
    where
      through : (a b c : ℕ) → a ≤ b → b ≤ c → a ≤ c
      through a b c h k = omega (arith, h, k)

  -- backups that came before it still do
  pub backs_before : (s o : Service) (b : Path) → IsIn s state → IsIn o state → o.leg.back ≡ Some b →
      share_fibre b.route s.leg.work.route ≡ true →
      end_of from (units_of b.slot) ≤ begin_of from (units_at own_places s) →
      end_of from (units_of b.slot) ≤ begin_of from (units_at (target_in state (centres_from from state settled)) s)
  backs_before s o b i j e common low =
      let at = index_in state s i in
      let to = index_in state o j in
      let limit = limit_at at.0 s at.1 in
      let more = limit.over to.0 o (slice_get_within state to.0 o to.1) to.1 in
      subst (λ (n : ℕ). n ≤ begin_of from (units_at (target_in state (centres_from from state settled)) s))
      (back_on from s.leg.work o b e common low)
      (through (backup_end_of from s.leg.work o) (get_or sl.limits at.0 0) _ more (over at.0 s at.1))
    where
      through : (a b c : ℕ) → a ≤ b → b ≤ c → a ≤ c
      through a b c h k = omega (arith, h, k)

  -- what holds it: its part of the band, a channel or a backup
  pub held_by : (s : Service) (i : IsIn s state) →
      (begin_of from (part_of s i).0 ≡ begin_of from (units_at (target_in state (centres_from from state settled)) s))
      ⊎ (((o : Service) × HeldByChannel from state (target_in state (centres_from from state settled)) s o)
      ⊎ ((o : Service) × ((b : Path) × HeldByBackup from state (target_in state (centres_from from state settled)) s o b)))
  held_by s i =
      let at = index_in state s i in
      let q = part_of s i in
      let limit = limit_at at.0 s at.1 in
      elim (held setup state rest legal banded from sl.starts sl.limits sl.starts settled sl.settles starts_at
      limits_in caps_in caps_grid at.0 s at.1) [
        | inl first ↦ elim limit.from [
          | inl base ↦ inl (sym q.3 ∙ sym base ∙ sym first ∙ sym (begin_at at.0 s at.1))
          | inr more ↦
              let o = more.1.0 in
              elim (back_cases from s.leg.work o) [
                | inl none ↦ inl (sym q.3
                    ∙ both_zero (base_of from setup.band s.leg.work) (get_or sl.limits at.0 0) (sym more.1.3 ∙ none) limit.base_is
                    ∙ sym first ∙ sym (begin_at at.0 s at.1))
                | inr some ↦ inr (inr (
                  o,
                  (
                    some.0,
                    record {
                      there = member more.0 o more.1.2;
                      is = some.1;
                      common = some.2;
                      before = some.3;
                      ends = sym some.4 ∙ more.1.3 ∙ sym first ∙ sym (begin_at at.0 s at.1);
                    },
                  ),
                ))
              ]
        ]
        | inr channel ↦ inr (inl channel)
      ]
    where
      both_zero : (a b : ℕ) → b ≡ 0 → a ≤ b → a ≡ b
      both_zero a b e h = omega (arith, e, h)
