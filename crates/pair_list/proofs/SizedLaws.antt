-- Each candidate has routes of the network between its nodes, with the widths that the rate needs on them.
use Rattle.std.proofs.Common.{◌≡◌, refl, ap, ℕ, zero, suc, ◌+◌, ◌≤◌, true, List, [], ◌∷◌, Option, Some, None, arith}
use Rattle.std.specs.Prelude.{nat_le}
use Rattle.std.specs.List.{list_all}
use Rattle.std.specs.Option.{option_map, option_to_list}
use Rattle.std.proofs.Math.Nat.{div-le_of_le-mul}
use Rattle.std.proofs.lemmas.Bool.{and_from, le-leb, eqb-true}
use Rattle.eon_model.specs.declared.Class.{Class}
use Rattle.eon_model.specs.declared.Class.TheVariants.{Bare, Shared, Dual}
use Rattle.eon_model.specs.CommandText.{is_rate}
use Rattle.eon_model.specs.NetworkText.{is_format, is_setup}
use Rattle.eon_model.specs.Formats.{Format, reaching, format_for, div_ceil}
use Rattle.eon_model.specs.Legal.{Setup, need_of, is_exactly}
use Rattle.eon_model.specs.Candidates.{SizedRoute, Candidate, candidates}
use Rattle.eon_model.proofs.OrderLaws.{AllOf}
use Rattle.eon_model.proofs.FindLaws.{find_has}
use Rattle.eon_model.proofs.PairLaws.{list_all-filter}
use Rattle.eon_model.proofs.WidthLaws.{need-positive, format_positive}
use Rattle.eon_model.proofs.SetupFacts.{setup-facts}
use Rattle.eon_model.proofs.SuitLaws.{SuitsRate, SuitsBack, Suits, candidates-suit}
use Rattle.pair_list.specs.Sized.{is_sized, is_sized_candidate}

-- ---- widths

rounded_small : (rate per : ℕ) → 1 ≤ rate → 1 ≤ per → div_ceil rate per ≤ rate
rounded_small zero per r p = absurd (omega arith)
rounded_small (suc rate) zero r p = absurd (omega arith)
rounded_small (suc rate) (suc per) r p =
    div-le_of_le-mul (suc per) (omega arith)

need_small : (rows : List Format) (guard rate m km : ℕ) (found : Option Format) → format_for rows km ≡ found →
    list_all is_format rows ≡ true → guard ≤ 64 → 1 ≤ rate → rate ≤ 60000 →
    option_map (λ f. div_ceil rate f.per + guard) found ≡ Some m → m ≤ 60064
need_small rows guard rate m km None e h g r l x = cc
need_small rows guard rate m km (Some f) e h g r l x =
    let among = find_has is_format (λ f. list_all (λ g. nat_le g.per f.per) (reaching rows km))
    (reaching rows km) f e (list_all-filter is_format (λ f. nat_le km f.reach) rows h) in
    let small = rounded_small rate f.per r (format_positive f among) in
    let same : div_ceil rate f.per + guard ≡ m = cc in
    omega arith

is_there : (o : Option ℕ) (m : ℕ) → is_exactly o m ≡ true → o ≡ Some m
is_there None m h = cc
is_there (Some n) m h = ap (λ k. Some k) (eqb-true n m h)

-- ---- candidates

module _ (setup : Setup) (s t rate : ℕ) (ok : is_setup setup ≡ true) (least : 1 ≤ rate) (most : rate ≤ 60000) where
  suits_sized : (r : SizedRoute) → SuitsRate setup s t rate r → is_sized setup s t rate r ≡ true
  suits_sized r h =
      let facts = setup-facts setup ok in
      let in_range : is_rate rate ≡ true = and_from _ _ (le-leb 1 rate least) (le-leb rate 60000 most) in
      let some = need-positive setup rate r.route.km r.m ok in_range h.need in
      let small = need_small setup.formats setup.guard rate r.m r.route.km (format_for setup.formats r.route.km) refl
      facts.formats facts.guard least most (is_there (need_of setup rate r.route.km) r.m h.need) in
      and_from _ _ (and_from _ _ (and_from _ _ h.route h.need) (le-leb 1 r.m some)) (le-leb r.m 60064 small)

  back_sized : (class : Class) (w : SizedRoute) (back : Option SizedRoute) → SuitsBack setup s t rate class w back →
      list_all (is_sized setup s t rate) (option_to_list back) ≡ true
  back_sized class w None h = refl
  back_sized Bare w (Some b) h = absurd h
  back_sized Shared w (Some b) h = and_from _ true (suits_sized b h.0) refl
  back_sized Dual w (Some b) h = and_from _ true (suits_sized b h.0) refl

  all_sized : (class : Class) (cs : List Candidate) → AllOf (Suits setup s t rate class) cs →
      list_all (is_sized_candidate setup s t rate) cs ≡ true
  all_sized class [] a = refl
  all_sized class (c ∷ cs) a =
      and_from _ _ (and_from _ _ (suits_sized c.work a.0.work) (back_sized class c.work c.back a.0.back))
      (all_sized class cs a.1)

  pub candidates-sized : (class : Class) (avoid : Option ℕ) →
      list_all (is_sized_candidate setup s t rate) (candidates setup s t rate class avoid) ≡ true
  candidates-sized class avoid =
      all_sized class (candidates setup s t rate class avoid) (candidates-suit setup s t rate class avoid)
