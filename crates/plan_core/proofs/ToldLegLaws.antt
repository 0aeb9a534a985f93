-- A leg that an event tells, path by path.
use Rattle.std.proofs.Common.{◌≡◌, refl, sym, ◌∙◌, ap, subst, ℕ, Bool, true, false, cond, ◌&&◌, ◌||◌, not, Option, Some, None}
use Rattle.std.specs.Prelude.{is_some, nat_le}
use Rattle.std.specs.Bool.{then_some}
use Rattle.std.specs.Option.{option_map, option_to_list}
use Rattle.std.specs.List.{list_all}
use Rattle.std.proofs.lemmas.Bool.{and_left, and_right, and_from, not_from_true, not_from_false, false≢true}
use Rattle.eon_model.specs.declared.Class.{Class}
use Rattle.eon_model.specs.Grid.{units_of, lies_in_band}
use Rattle.eon_model.specs.Route.{Route, walks, route_of, share_group}
use Rattle.eon_model.specs.Services.{Path, Leg}
use Rattle.eon_model.specs.Legal.{Setup, need_of, is_exactly, is_protected}
use Rattle.eon_model.specs.Events.{PathText, LegText, path_told, leg_told}
use Rattle.eon_model.specs.EventText.{has_backup_for}
use Rattle.eon_model.proofs.FirstRoutesLaws.{route_of-is_route}
use Rattle.net_graph.specs.Walks.{route_from}
use Rattle.plan_core.specs.Following.{slot_suits, path_suits, backup_suits, leg_suits}

-- ---- what is there where a test passes

pub some_if : {X : Type 0} (can : Bool) (x y : X) → can ≡ true → y ≡ x → Some y ≡ then_some can x
some_if can x y h e = ap Some e ∙ sym (ap (λ b. then_some b x) h)

pub none_if : {X : Type 0} (can : Bool) (x : X) → can ≡ false → None ≡ then_some can x
none_if can x h = sym (ap (λ b. then_some b x) h)

pub from_some : {X : Type 0} (can : Bool) (x y : X) → Some y ≡ then_some can x → (can ≡ true) × (y ≡ x)
from_some true x y h = (refl, cc)
from_some false x y h = cc

pub from_none : {X : Type 0} (can : Bool) (x : X) → None ≡ then_some can x → can ≡ false
from_none true x h = cc
from_none false x h = refl

cond_some : {X : Type 0} (b : Bool) (x : X) → cond b (Some x) None ≡ then_some b x
cond_some true x = refl
cond_some false x = refl

-- ---- three tests, one after the other

module _ {X : Type 0} (a b c can : Bool) (is : (a && (b && c)) ≡ can) (x : X) where
  pub no_first : a ≡ false → None ≡ then_some can x
  no_first e = none_if can x (sym is ∙ and_left a (b && c) e)

  pub no_second : b ≡ false → None ≡ then_some can x
  no_second e = none_if can x (sym is ∙ and_right a (b && c) (and_left b c e))

  pub no_third : c ≡ false → None ≡ then_some can x
  no_third e = none_if can x (sym is ∙ and_right a (b && c) (and_right b c e))

  pub all_three : a ≡ true → b ≡ true → c ≡ true → (y : X) → y ≡ x → Some y ≡ then_some can x
  all_three e f g y same = some_if can x y (sym is ∙ and_from a (b && c) e (and_from b c f g)) same

-- ---- a path

module _ (setup : Setup) (src dst rate : ℕ) (t : PathText) (r : Route)
    (found : Some r ≡ route_from setup.network src dst t.fibres) where
  walked : (walks setup.network.fibres src dst t.fibres ≡ true) × (r ≡ route_of setup.network t.fibres)
  walked = from_some (walks setup.network.fibres src dst t.fibres) (route_of setup.network t.fibres) r
      (found ∙ cond_some (walks setup.network.fibres src dst t.fibres) (route_of setup.network t.fibres))

  routed : path_suits setup src dst rate (path_told setup.network t) ≡ slot_suits setup rate r.km t.slot
  routed =
      (λ i. ((route_of-is_route setup.network src dst t.fibres walked.0 i && nat_le 1 t.slot.m)
      && is_exactly (need_of setup rate (route_of setup.network t.fibres).km) t.slot.m)
      && lies_in_band setup.band (units_of t.slot))
      ∙ (λ i. slot_suits setup rate (sym walked.1 i).km t.slot)

  pub path_fit : slot_suits setup rate r.km t.slot ≡ true → (p : Path) → p ≡ record { route = r; slot = t.slot } →
      Some p ≡ then_some (path_suits setup src dst rate (path_told setup.network t)) (path_told setup.network t)
  path_fit h p is = some_if (path_suits setup src dst rate (path_told setup.network t)) (path_told setup.network t) p
      (routed ∙ h) (is ∙ (λ i. record { route = walked.1 i; slot = t.slot }))

  pub path_unfit : slot_suits setup rate r.km t.slot ≡ false →
      None ≡ then_some (path_suits setup src dst rate (path_told setup.network t)) (path_told setup.network t)
  path_unfit h = none_if (path_suits setup src dst rate (path_told setup.network t)) (path_told setup.network t)
      (routed ∙ h)

-- ---- a backup beside its working route

module _ (fits : Path → Bool) (work : Route) (told back : Path) (is : Some back ≡ then_some (fits told) told) where
  pub back_apart : share_group work back.route ≡ false →
      Some back ≡ then_some (fits told && not (share_group work told.route)) told
  back_apart h =
      let f = from_some (fits told) told back is in
      some_if (fits told && not (share_group work told.route)) told back
      (and_from (fits told) (not (share_group work told.route)) f.0
      (not_from_false (share_group work told.route) (ap (λ (p : Path). share_group work p.route) (sym f.1) ∙ h))) f.1

  pub back_shares : share_group work back.route ≡ true →
      None ≡ then_some (fits told && not (share_group work told.route)) told
  back_shares h =
      let f = from_some (fits told) told back is in
      none_if (fits told && not (share_group work told.route)) told
      (and_right (fits told) (not (share_group work told.route))
      (not_from_true (share_group work told.route) (ap (λ (p : Path). share_group work p.route) (sym f.1) ∙ h)))

pub back_unfit : (fits : Path → Bool) (work : Route) (told : Path) → None ≡ then_some (fits told) told →
    None ≡ then_some (fits told && not (share_group work told.route)) told
back_unfit fits work told is = none_if (fits told && not (share_group work told.route)) told
    (and_left (fits told) (not (share_group work told.route)) (from_none (fits told) told is))

-- ---- a leg

bare : (p : Bool) → not p ≡ true → (not p && true || p && false && true) ≡ true
bare true h = absurd (false≢true h)
bare false h = refl

backed : (p b : Bool) → p ≡ true → (not p && false || p && true && (b && true)) ≡ b
backed true true h = refl
backed true false h = refl
backed false b h = absurd (false≢true h)

module _ (setup : Setup) (src dst rate : ℕ) (class : Class) (t : LegText)
    (has : has_backup_for class t.back ≡ true) (work : Path)
    (is : Some work ≡ then_some (path_suits setup src dst rate (path_told setup.network t.work)) (path_told setup.network t.work)) where
  work_is : (path_suits setup src dst rate (path_told setup.network t.work) ≡ true) × (work ≡ path_told setup.network t.work)
  work_is = from_some (path_suits setup src dst rate (path_told setup.network t.work)) (path_told setup.network t.work) work is

  pub leg_bare : t.back ≡ None → (l : Leg) → l ≡ record { work = work; to = None; back = None } →
      Some l ≡ then_some (leg_suits setup src dst rate class (leg_told setup.network t)) (leg_told setup.network t)
  leg_bare none l e =
      some_if (leg_suits setup src dst rate class (leg_told setup.network t)) (leg_told setup.network t) l
      ((λ i. (work_is.0 i && true) && (not (is_protected class) && not (is_some (option_map (path_told setup.network) (none i)))
      || is_protected class && is_some (option_map (path_told setup.network) (none i))
      && list_all (backup_suits setup src dst rate (path_told setup.network t.work).route)
      (option_to_list (option_map (path_told setup.network) (none i)))))
      ∙ bare (is_protected class) (subst (λ (o : Option PathText). has_backup_for class o ≡ true) none has))
      (e ∙ (λ i. record { work = work_is.1 i; to = None; back = option_map (path_told setup.network) (sym none i) }))

  module _ (b : PathText) (some : t.back ≡ Some b) where
    backed_is : leg_suits setup src dst rate class (leg_told setup.network t)
        ≡ backup_suits setup src dst rate work.route (path_told setup.network b)
    backed_is =
        (λ i. (work_is.0 i && true) && (not (is_protected class) && not (is_some (option_map (path_told setup.network) (some i)))
        || is_protected class && is_some (option_map (path_told setup.network) (some i))
        && list_all (backup_suits setup src dst rate (path_told setup.network t.work).route)
        (option_to_list (option_map (path_told setup.network) (some i)))))
        ∙ backed (is_protected class) (backup_suits setup src dst rate (path_told setup.network t.work).route (path_told setup.network b))
        (subst (λ (o : Option PathText). has_backup_for class o ≡ true) some has)
        ∙ (λ i. backup_suits setup src dst rate (sym work_is.1 i).route (path_told setup.network b))

    pub leg_backed : (back : Path) → Some back ≡ then_some
        (backup_suits setup src dst rate work.route (path_told setup.network b)) (path_told setup.network b) →
        (l : Leg) → l ≡ record { work = work; to = None; back = Some back } →
        Some l ≡ then_some (leg_suits setup src dst rate class (leg_told setup.network t)) (leg_told setup.network t)
    leg_backed back h l e =
        let f = from_some (backup_suits setup src dst rate work.route (path_told setup.network b)) (path_told setup.network b) back h in
        some_if (leg_suits setup src dst rate class (leg_told setup.network t)) (leg_told setup.network t) l
        (backed_is ∙ f.0)
        (e ∙ (λ i. record { work = work_is.1 i; to = None; back = Some (f.1 i) })
        ∙ (λ i. record { work = path_told setup.network t.work; to = None; back = option_map (path_told setup.network) (sym some i) }))

    pub leg_unbacked : None ≡ then_some
        (backup_suits setup src dst rate work.route (path_told setup.network b)) (path_told setup.network b) →
        None ≡ then_some (leg_suits setup src dst rate class (leg_told setup.network t)) (leg_told setup.network t)
    leg_unbacked h = none_if (leg_suits setup src dst rate class (leg_told setup.network t)) (leg_told setup.network t)
        (backed_is ∙ from_none (backup_suits setup src dst rate work.route (path_told setup.network b)) (path_told setup.network b) h)
