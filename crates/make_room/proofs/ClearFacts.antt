-- Channels that settled as near to their own heights as a block lets them.
use Rattle.std.proofs.Common.{◌≡◌, refl, sym, ◌∙◌, ap, subst, ℕ, ◌+◌, ◌≤◌, ◌⊎◌, inl, inr, Bool, true, false, List, get_or, Some, arith}
use Rattle.std.specs.Prelude.{slice_get, max}
use Rattle.std.proofs.lemmas.Option.{slice_get_within}
use Rattle.eon_model.specs.Grid.{Units, is_band}
use Rattle.eon_model.specs.Names.{same_name}
use Rattle.eon_model.specs.Route.{share_fibre}
use Rattle.eon_model.specs.Services.{Service, State}
use Rattle.eon_model.specs.Legal.{Setup, Legal}
use Rattle.eon_model.specs.Places.{target_in, AtRest, Places, own_places, units_at}
use Rattle.eon_model.proofs.OrderLaws.{IsIn}
use Rattle.eon_model.proofs.ListLaws.{slice_get_in}
use Rattle.make_room.specs.declared.heights.Side.{Side}
use Rattle.make_room.specs.Heights.{begin_of, end_of}
use Rattle.make_room.specs.Sweeps.{SettlesClear, clear_begin, centres_from}
use Rattle.make_room.proofs.SideLaws.{Before, end-in, width-at, wide-units}
use Rattle.make_room.proofs.StandFacts.{wide}
use Rattle.make_room.proofs.ExtremeFacts.{index_in, HeldByChannel, InOrder, begin_is, at_most, over_limit, in_order, held}

module _ (setup : Setup) (state : State) (rest : AtRest state) (legal : Legal setup state)
    (banded : is_band setup.band ≡ true) (from : Side) (block : Units) (goes : ℕ → Service → Bool) (bounds settled : List ℕ)
    (sc : SettlesClear from state block goes bounds settled) (does : Service → Bool)
    (goes_are : (i : ℕ) (s : Service) → slice_get state i ≡ Some s → goes i s ≡ does s) (q : Places)
    (order_q : InOrder from state q)
    (caps_at : (i : ℕ) (s : Service) → slice_get state i ≡ Some s → get_or sc.caps i 0 ≡ begin_of from (units_at q s))
    (own_in : (s : Service) → IsIn s state → begin_of from (units_at own_places s) ≤ begin_of from (units_at q s))
    (block_in : (s : Service) → IsIn s state → does s ≡ true → end_of from block ≤ begin_of from (units_at q s)) where
  member : (i : ℕ) (s : Service) → slice_get state i ≡ Some s → IsIn s state
  member i s e = (slice_get_in state i s e).1

  starts_at : (i : ℕ) (s : Service) → slice_get state i ≡ Some s →
      get_or sc.starts i 0 ≡ begin_of from (units_at own_places s)
  starts_at i s e = (sc.starts_are.each i s (slice_get_within state i s e) e).0

  limit_at : (i : ℕ) (s : Service) → slice_get state i ≡ Some s →
      get_or sc.limits i 0 ≡ clear_begin from block (does s) s
  limit_at i s e = sc.limits_are.each i s (slice_get_within state i s e) e ∙ ap (λ b. clear_begin from block b s) (goes_are i s e)

  clear_in : (s : Service) (b : Bool) → IsIn s state → does s ≡ b →
      clear_begin from block b s ≤ begin_of from (units_at q s)
  clear_in s true i e =
      both (begin_of from (units_at own_places s)) (end_of from block) (begin_of from (units_at q s)) (own_in s i)
      (block_in s i e)
    where
      both : (a b c : ℕ) → a ≤ c → b ≤ c → max a b ≤ c
      both a b c h k = omega arith
  clear_in s false i e = own_in s i

  limits_in : (i : ℕ) (s : Service) → slice_get state i ≡ Some s → get_or sc.limits i 0 ≤ get_or sc.caps i 0
  limits_in i s e =
      subst (λ (n : ℕ). n ≤ get_or sc.caps i 0) (sym (limit_at i s e))
      (subst (λ (n : ℕ). clear_begin from block (does s) s ≤ n) (sym (caps_at i s e)) (clear_in s (does s) (member i s e) refl))

  width : (s : Service) → IsIn s state →
      end_of from (units_at q s) ≡ begin_of from (units_at q s) + (s.leg.work.slot.m + s.leg.work.slot.m)
  width s i = width-at from (q s) s.leg.work.slot.m (wide setup state rest legal banded s i) (order_q.grid s i)

  caps_in : (i j : ℕ) (s o : Service) → slice_get state i ≡ Some s → slice_get state j ≡ Some o →
      share_fibre o.leg.work.route s.leg.work.route ≡ true → same_name o.name s.name ≡ false →
      Before from (units_at own_places o) (units_at own_places s) →
      get_or sc.caps j 0 + (o.leg.work.slot.m + o.leg.work.slot.m) ≤ get_or sc.caps i 0
  caps_in i j s o e f common other before =
      let ends = order_q.before o s (member j o f) (member i s e) other common before in
      sum_to (get_or sc.caps j 0) (begin_of from (units_at q o)) (o.leg.work.slot.m + o.leg.work.slot.m)
      (end_of from (units_at q o)) (begin_of from (units_at q s)) (get_or sc.caps i 0)
      (caps_at j o f) (width o (member j o f)) ends (caps_at i s e)
    where
      sum_to : (a b w c d x : ℕ) → a ≡ b → c ≡ b + w → c ≤ d → x ≡ d → a + w ≤ x
      sum_to a b w c d x e f g h = omega (arith, e, f, g, h)

  caps_grid : (i : ℕ) (s : Service) → slice_get state i ≡ Some s →
      get_or sc.caps i 0 + (s.leg.work.slot.m + s.leg.work.slot.m) ≤ 8192
  caps_grid i s e =
      let j = member i s e in
      let end = end-in from (units_at q s) (wide-units (q s) s.leg.work.slot.m (wide setup state rest legal banded s j))
      (order_q.grid s j) in
      sum_in (get_or sc.caps i 0) (begin_of from (units_at q s)) (s.leg.work.slot.m + s.leg.work.slot.m)
      (end_of from (units_at q s)) (caps_at i s e) (width s j) end
    where
      sum_in : (a b w c : ℕ) → a ≡ b → c ≡ b + w → c ≤ 8192 → a + w ≤ 8192
      sum_in a b w c e f g = omega (arith, e, f, g)

  pub clear_order : InOrder from state (target_in state (centres_from from state settled))
  clear_order = in_order setup state rest legal banded from sc.starts sc.limits sc.caps settled sc.settles starts_at
      limits_in caps_in caps_grid

  begin_at : (i : ℕ) (s : Service) → slice_get state i ≡ Some s →
      begin_of from (units_at (target_in state (centres_from from state settled)) s) ≡ get_or settled i 0
  begin_at = begin_is setup state rest legal banded from sc.starts sc.limits sc.caps settled sc.settles starts_at
      limits_in caps_in caps_grid

  over : (i : ℕ) (s : Service) → slice_get state i ≡ Some s →
      clear_begin from block (does s) s ≤ begin_of from (units_at (target_in state (centres_from from state settled)) s)
  over i s e =
      subst (λ (n : ℕ). n ≤ begin_of from (units_at (target_in state (centres_from from state settled)) s)) (limit_at i s e)
      (subst (λ (n : ℕ). get_or sc.limits i 0 ≤ n) (sym (begin_at i s e))
      (over_limit setup state rest legal banded from sc.starts sc.limits sc.caps settled sc.settles starts_at
      limits_in caps_in caps_grid i s e))

  clear_own : (s : Service) (b : Bool) (n : ℕ) → clear_begin from block b s ≤ n → begin_of from (units_at own_places s) ≤ n
  clear_own s true n h = left (begin_of from (units_at own_places s)) (end_of from block) n h
    where
      left : (a b c : ℕ) → max a b ≤ c → a ≤ c
      left a b c h = omega arith
  clear_own s false n h = h

  clear_end : (s : Service) (b : Bool) (n : ℕ) → b ≡ true → clear_begin from block b s ≤ n → end_of from block ≤ n
  clear_end s true n e h = right (begin_of from (units_at own_places s)) (end_of from block) n h
    where
      right : (a b c : ℕ) → max a b ≤ c → b ≤ c
      right a b c h = omega arith
  clear_end s false n e h = absurd cc

  -- not before its own height
  pub not_back : (s : Service) → IsIn s state → begin_of from (units_at own_places s)
      ≤ begin_of from (units_at (target_in state (centres_from from state settled)) s)
  not_back s i = let at = index_in state s i in clear_own s (does s) _ (over at.0 s at.1)

  -- behind the block where it goes beyond it
  pub past_block : (s : Service) → IsIn s state → does s ≡ true →
      end_of from block ≤ begin_of from (units_at (target_in state (centres_from from state settled)) s)
  past_block s i e = let at = index_in state s i in clear_end s (does s) _ e (over at.0 s at.1)

  -- and no further than it can go
  pub within_bound : (s : Service) → IsIn s state →
      begin_of from (units_at (target_in state (centres_from from state settled)) s) ≤ begin_of from (units_at q s)
  within_bound s i =
      let at = index_in state s i in
      subst (λ (n : ℕ). n ≤ begin_of from (units_at q s)) (sym (begin_at at.0 s at.1))
      (subst (λ (n : ℕ). get_or settled at.0 0 ≤ n) (caps_at at.0 s at.1)
      (at_most setup state rest legal banded from sc.starts sc.limits sc.caps settled sc.settles starts_at
      limits_in caps_in caps_grid at.0 s at.1))

  clear_cases : (s : Service) (b : Bool) (n : ℕ) → n ≡ clear_begin from block b s →
      (n ≡ begin_of from (units_at own_places s)) ⊎ ((b ≡ true) × (end_of from block ≡ n))
  clear_cases s true n e = elim (max_is (begin_of from (units_at own_places s)) (end_of from block)) [
    | inl a ↦ inl (e ∙ a)
    | inr b ↦ inr (refl, sym (e ∙ b))
  ]
    where
      max_is : (a b : ℕ) → (max a b ≡ a) ⊎ (max a b ≡ b)
      max_is a b = grind arith
  clear_cases s false n e = inl e

  pub clear_held : (s : Service) → IsIn s state →
      (begin_of from (units_at (target_in state (centres_from from state settled)) s) ≡ begin_of from (units_at own_places s))
      ⊎ (((does s ≡ true)
      × (end_of from block ≡ begin_of from (units_at (target_in state (centres_from from state settled)) s)))
      ⊎ ((o : Service) × HeldByChannel from state (target_in state (centres_from from state settled)) s o))
  clear_held s i =
      let at = index_in state s i in
      elim (held setup state rest legal banded from sc.starts sc.limits sc.caps settled sc.settles starts_at
      limits_in caps_in caps_grid at.0 s at.1) [
        | inl first ↦ elim (clear_cases s (does s) _ (begin_at at.0 s at.1 ∙ first ∙ limit_at at.0 s at.1)) [
          | inl own ↦ inl own
          | inr edge ↦ inr (inl edge)
        ]
        | inr channel ↦ inr (inr channel)
      ]
