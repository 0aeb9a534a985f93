-- What the units that backups bar tell of a place, and of the lowest one.
use Rattle.std.proofs.Common.{◌≡◌, refl, sym, ◌∙◌, ap, subst, ℕ, ◌-◌, ◌<◌, ℤ, inl, inr, Bool, true, false, cond, ◌&&◌, ◌||◌, not, nat_eq, List, [], ◌∷◌, ◌++◌, length, Option, Some, None}
use Rattle.std.specs.Prelude.{IfSome}
use Rattle.std.specs.List.{AllByRecursion, list_all, list_any}
use Rattle.eon_model.specs.Grid.{Band, has_unit, lies_in, span_of}
use Rattle.eon_model.specs.Lists.{has_number}
use Rattle.eon_model.specs.Sets.{NumberSet, has_member, members}
use Rattle.eon_model.specs.Rows.{Taken, Reserved, Holders, counts_among, without_reserved, has_no_sharer, units_in, is_unshared, may_stand_beside}
use Rattle.eon_model.specs.RowLaws.{HasUnit}
use Rattle.eon_model.proofs.OrderLaws.{IsIn}
use Rattle.eon_model.proofs.UnitLaws.{all_agree, all_swap, not_any}
use Rattle.eon_model.proofs.CountLaws.{no_sharers, no_other_sharers}
use Rattle.spectrum_map.specs.Kept.{Kept, holders_in}
use Rattle.backup_sharing.specs.Shared.{Sharers, IsThere, IsOwnThere, AreOthers, AreCounted, counts_beside, own_on, but_own, bars, map_at}
use Rattle.backup_sharing.proofs.BarLaws.{member_of}

-- a test that agrees on the members of a list
any_alike : {X : Type 0} (f g : X → Bool) (xs : List X) → ((x : X) → IsIn x xs → f x ≡ g x) →
    list_any f xs ≡ list_any g xs
any_alike f g [] h = refl
any_alike f g (x ∷ xs) h = λ i. h x (inl refl) i || any_alike f g xs (λ y k. h y (inr k)) i

pub own_there : (s : Sharers) (band : Band) → s.band ≡ band → (own : Option Reserved) → IfSome own (IsThere s) →
    IsOwnThere band own
own_there s band e None h = h
own_there s band e (Some r) h = subst (λ (b : Band). lies_in (span_of b) r.taken.units ≡ true) e h.units

not_not : (b : Bool) → not (not b) ≡ b
not_not true = refl
not_not false = refl

module _ (band : Band) (fibres : ℕ) (maps : List Kept) (rs : List Reserved) (counted : AreCounted band fibres maps rs)
    (own : Option Reserved) (risk : NumberSet) (groups : (g : ℕ) → has_member risk g ≡ true → g < length maps) where
  beside : (g fibre : ℕ) (u : ℤ) →
      but_own (own_on own g fibre) u (counts_among rs fibre g u) ≡ counts_beside own (counts_among rs) fibre g u
  beside g fibre u = by own
    where
      by : (o : Option Reserved) →
          but_own (own_on o g fibre) u (counts_among rs fibre g u) ≡ counts_beside o (counts_among rs) fibre g u
      by None = refl
      by (Some r) = at (has_member r.risk g) (has_number r.taken.fibres fibre)
        where
          at : (a b : Bool) → but_own (cond (a && b) (Some r.taken.units) None) u (counts_among rs fibre g u)
              ≡ cond (a && (b && has_unit r.taken.units u)) (counts_among rs fibre g u - 1) (counts_among rs fibre g u)
          at true true = refl
          at true false = refl
          at false b = refl

  -- a unit is not barred on a fibre exactly where the counts say so
  pub barred_not : (fibre : ℕ) (u : ℤ) →
      not (bars maps risk own fibre u) ≡ has_no_sharer (counts_beside own (counts_among rs)) risk fibre u
  barred_not fibre u =
      ap not (any_alike (λ g. not (nat_eq (but_own (own_on own g fibre) u (holders_in (map_at maps g) fibre u)) 0))
      (λ g. not (nat_eq (counts_beside own (counts_among rs) fibre g u) 0)) (members risk)
      (λ g i. ap (λ (h : Holders). not (nat_eq (but_own (own_on own g fibre) u (h fibre u)) 0))
      (counted.each g (groups g (member_of risk g i))).holders_are
      ∙ ap (λ n. not (nat_eq n 0)) (beside g fibre u)))
      ∙ not_any (λ g. not (nat_eq (counts_beside own (counts_among rs) fibre g u) 0)) (members risk)
      ∙ all_agree _ _ (λ g. not_not (nat_eq (counts_beside own (counts_among rs) fibre g u) 0)) (members risk)

  -- on none of the fibres
  pub unbarred : (fs : List ℕ) (us : List ℤ) →
      list_all (λ u. not (list_any (λ fibre. bars maps risk own fibre u) fs)) us
      ≡ list_all (λ fibre. list_all (has_no_sharer (counts_beside own (counts_among rs)) risk fibre) us) fs
  unbarred fs us =
      all_agree _ _ (λ u. not_any (λ fibre. bars maps risk own fibre u) fs
      ∙ all_agree _ _ (λ fibre. barred_not fibre u) fs) us
      ∙ all_swap (λ u fibre. has_no_sharer (counts_beside own (counts_among rs)) risk fibre u) us fs

  pub fits-counts : (t : Taken) →
      list_all (λ u. not (list_any (λ fibre. bars maps risk own fibre u) t.fibres)) (units_in t.units)
      ≡ is_unshared (counts_beside own (counts_among rs)) risk t
  fits-counts t = unbarred t.fibres (units_in t.units)

  pub fits-legs : (t : Taken) → HasUnit t → (others : List Reserved) → AreOthers own rs others →
      is_unshared (counts_beside own (counts_among rs)) risk t ≡ list_all (may_stand_beside risk t) others
  fits-legs t some others are = by own are
    where
      but_one : (before : List Reserved) (r : Reserved) (after : List Reserved) →
          AllByRecursion (λ (s : Reserved). HasUnit s.taken) (before ++ r ∷ after) →
          AllByRecursion (λ (s : Reserved). HasUnit s.taken) (before ++ after)
      but_one [] r after a = a.1
      but_one (s ∷ before) r after a = (a.0, but_one before r after a.1)

      by : (o : Option Reserved) → AreOthers o rs others →
          is_unshared (counts_beside o (counts_among rs)) risk t ≡ list_all (may_stand_beside risk t) others
      by None e = no_sharers rs risk t some counted.some ∙ ap (list_all (may_stand_beside risk t)) (sym e)
      by (Some r) a =
          ap (λ (l : List Reserved). is_unshared (without_reserved r (counts_among l)) risk t) a.around
          ∙ no_other_sharers a.before a.after r risk t some (but_one a.before r a.after
          (subst (AllByRecursion (λ (s : Reserved). HasUnit s.taken)) a.around counted.some))
          ∙ ap (list_all (may_stand_beside risk t)) (sym a.others_are)
