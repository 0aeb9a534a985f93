-- The groups and the fibres of a backup.
use Rattle.std.proofs.Common.{◌≡◌, refl, sym, ◌∙◌, ap, ℕ, suc, nat_eq, ◌+◌, ◌<◌, Bool, true, false, ◌||◌, ◌&&◌, not, List, [], ◌∷◌, ◌++◌, length, take, arith}
use Rattle.std.specs.Prelude.{get_or}
use Rattle.std.specs.List.{list_any}
use Rattle.std.specs.FinSet.{contains, insert, empty, contains-empty}
use Rattle.std.specs.Ordering.{nat_cmp}
use Rattle.std.proofs.Math.Seq.{take-suc}
use Rattle.std.proofs.lemmas.Bool.{false≢true, eqb-true}
use Rattle.eon_model.specs.Lists.{numbers_differ}
use Rattle.eon_model.specs.Sets.{NumberSet}
use Rattle.eon_model.proofs.SetLaws.{member-insert}
use Rattle.eon_model.proofs.PairLaws.{all_pairs-append, all_across}
use Rattle.sharing_rows.specs.Backups.{IsBelow}

pub none_below : (groups : ℕ) (s : NumberSet) → s ≡ empty → IsBelow groups s
none_below groups s is g h =
    absurd (false≢true (sym (contains-empty nat_cmp g) ∙ ap (λ (t : NumberSet). contains t g) (sym is) ∙ h))

-- with one of them more
pub more_below : (groups n : ℕ) (s t : NumberSet) → IsBelow groups s → n < groups → t ≡ insert s n → IsBelow groups t
more_below groups n s t each low is g h =
    by (nat_eq g n) refl (sym (member-insert s n g) ∙ ap (λ (v : NumberSet). contains v g) (sym is) ∙ h)
  where
    by : (b : Bool) → nat_eq g n ≡ b → (b || contains s g) ≡ true → g < groups
    by true e j = let same : g ≡ n = eqb-true g n e in omega (arith, low)
    by false e j = each g j

-- one number more, which was not among them
pub differ_more : (xs : List ℕ) (x : ℕ) → numbers_differ xs ≡ true → list_any (λ y. nat_eq y x) xs ≡ false →
    numbers_differ (xs ++ x ∷ []) ≡ true
differ_more xs x each none =
    all_pairs-append (λ (a b : ℕ). not (nat_eq a b)) xs (x ∷ [])
    ∙ ap (λ (b : Bool). (b && true) && all_across (λ (a b : ℕ). not (nat_eq a b)) xs (x ∷ [])) each
    ∙ aside xs none
  where
    aside : (ys : List ℕ) → list_any (λ y. nat_eq y x) ys ≡ false →
        all_across (λ (a b : ℕ). not (nat_eq a b)) ys (x ∷ []) ≡ true
    aside [] h = refl
    aside (y ∷ ys) h = one (nat_eq y x) (list_any (λ z. nat_eq z x) ys) _ h (aside ys)
      where
        one : (b c d : Bool) → (b || c) ≡ false → (c ≡ false → d ≡ true) → ((not b && true) && d) ≡ true
        one true c d j f = absurd (false≢true (sym j))
        one false c d j f = f j

-- the first ones, with the next one that is not among them
pub differ_next : (xs : List ℕ) (i d : ℕ) → i < length xs → numbers_differ (take i xs) ≡ true →
    list_any (λ y. nat_eq y (get_or xs i d)) (take i xs) ≡ false → numbers_differ (take (i + 1) xs) ≡ true
differ_next xs i d within each none =
    ap numbers_differ (ap (λ (k : ℕ). take k xs) (add_one i) ∙ take-suc xs i d within)
    ∙ differ_more (take i xs) (get_or xs i d) each none
  where
    add_one : (n : ℕ) → n + 1 ≡ suc n
    add_one n = omega arith
