-- What a drill lists can be told, and the group of a name has a number in range.
use Rattle.std.proofs.Common.{◌≡◌, refl, ◌∙◌, ap, subst, ℕ, suc, ◌+◌, ◌≤◌, ◌<◌, arith, Bool, true, false, cond, [], ◌∷◌, ◌++◌, length, List, Option, Some, None}
use Rattle.std.specs.Prelude.{IfSome, is_some, slice_get}
use Rattle.std.specs.Option.{option_map, option_or, option_to_list, unwrap_or}
use Rattle.std.specs.List.{list_all, flat_map}
use Rattle.std.proofs.lemmas.Bool.{and_from}
use Rattle.std.proofs.lemmas.List.{length-map}
use Rattle.std.proofs.lemmas.List.Folds.{list_all-append}
use Rattle.eon_model.specs.Names.{Name}
use Rattle.eon_model.specs.Network.{Network, Group, fibre_of, group_names, number_of, risk_number_of}
use Rattle.eon_model.specs.Route.{hits}
use Rattle.eon_model.specs.Services.{Path, Leg, Service, State}
use Rattle.eon_model.specs.Legal.{Setup, Legal}
use Rattle.eon_model.specs.Listings.{hit_by, hits_of}
use Rattle.eon_model.specs.NetworkText.{is_setup}
use Rattle.eon_model.proofs.FollowLaws.{number_in}
use Rattle.eon_model.proofs.ListTests.{list_all-below}
use Rattle.eon_model.proofs.SetupFacts.{setup-facts}
use Rattle.plan_report.specs.InRange.{PathInRange, LegInRange, ServiceInRange}
use Rattle.plan_report.proofs.InRangeLaws.{service_at-on}
use Rattle.reply_text.specs.Tellable.{are_fibres, can_switch}
use Rattle.plan_core.proofs.ListingLaws.{fibre-in_range}

-- ---- what is listed

module _ (setup : Setup) (g : ℕ) where
  back-told : (back : Option Path) → IfSome back (PathInRange setup.network) →
      list_all (λ p. are_fibres setup p.route.fibres) (option_to_list back) ≡ true
  back-told None h = refl
  back-told (Some p) h = and_from _ true (list_all-below (length setup.network.fibres) p.route.fibres h) refl

  leg-told : (s : Service) (number : ℕ) (l : Leg) → LegInRange setup.network l →
      list_all (can_switch setup) (hit_by g s number l) ≡ true
  leg-told s number l range = by (hits g l.work.route)
    where
      by : (hit : Bool) →
          list_all (can_switch setup) (cond hit (record { name = s.name; leg = number; back = l.back } ∷ []) []) ≡ true
      by true = and_from _ true (back-told l.back range.spare) refl
      by false = refl

  second-told : (s : Service) (next : Option Leg) → IfSome next (LegInRange setup.network) →
      list_all (can_switch setup) (flat_map (hit_by g s 2) (option_to_list next)) ≡ true
  second-told s None h = refl
  second-told s (Some l) h =
      list_all-append (can_switch setup) (hit_by g s 2 l) [] ∙ and_from _ true (leg-told s 2 l h) refl

  all-told : (ss : List Service) →
      ((i : ℕ) (s : Service) → slice_get ss i ≡ Some s → ServiceInRange setup.network s) →
      list_all (can_switch setup) (hits_of g ss) ≡ true
  all-told [] on = refl
  all-told (s ∷ ss) on =
      let range = on 0 s refl in
      let first = hit_by g s 1 s.leg in
      let second = flat_map (hit_by g s 2) (option_to_list s.next) in
      list_all-append (can_switch setup) (first ++ second) (hits_of g ss)
      ∙ and_from _ _
      (list_all-append (can_switch setup) first second
      ∙ and_from _ _ (leg-told s 1 s.leg range.carried) (second-told s s.next range.second))
      (all-told ss (λ i x e. on (suc i) x e))

-- the backups that are listed of a legal state
pub hits-told : (setup : Setup) (state : State) (g : ℕ) → is_setup setup ≡ true → Legal setup state →
    list_all (can_switch setup) (hits_of g state) ≡ true
hits-told setup state g ok legal = all-told setup g state (λ i s e. service_at-on setup state i s ok legal e)

-- ---- the number of a group

named-in_range : (n : ℕ) (groups : List Group) (name : Name) (i : ℕ) (found : Option ℕ) → n ≤ 128 →
    length groups ≤ 128 → number_of (group_names groups) name ≡ found → option_map (λ j. n + j) found ≡ Some i → i < 256
named-in_range n groups name i None few_fibres few_groups e h = cc
named-in_range n groups name i (Some j) few_fibres few_groups e h =
    let same : n + j ≡ i = cc in
    let below = number_in (group_names groups) name (ap is_some e) in
    let here : j < length (group_names groups) =
    subst (λ (o : Option ℕ). unwrap_or o 0 < length (group_names groups)) e below in
    let count = length-map groups (λ (x : Group). x.name) in
    omega arith

risk-by : (net : Network) (name : Name) (i : ℕ) (fibre : Option ℕ) → length net.fibres ≤ 128 →
    length net.groups ≤ 128 → fibre_of net name ≡ fibre →
    option_or fibre (option_map (λ j. length net.fibres + j) (number_of (group_names net.groups) name)) ≡ Some i → i < 256
risk-by net name i None few_fibres few_groups e h =
    named-in_range (length net.fibres) net.groups name i (number_of (group_names net.groups) name) few_fibres few_groups
    refl h
risk-by net name i (Some k) few_fibres few_groups e h =
    let below : i < length net.fibres = fibre-in_range net name i (e ∙ h) in omega arith

-- the number of a group is in range
pub risk-in_range : (setup : Setup) (name : Name) (i : ℕ) → is_setup setup ≡ true →
    risk_number_of setup.network name ≡ Some i → i < 256
risk-in_range setup name i ok h =
    let graph = (setup-facts setup ok).graph in
    risk-by setup.network name i (fibre_of setup.network name) graph.few_fibres graph.few_groups refl h
