-- What a walk over fibres or over the parts of a band has marked so far.
use Rattle.std.proofs.Common.{◌≡◌, refl, sym, ◌∙◌, ap, ℕ, zero, suc, ◌+◌, ◌<◌, ◌≤◌, arith, inl, inr, ℤ, Bool, true, false, ◌&&◌, ◌||◌, not, List, [], ◌∷◌, length, get_or, take}
use Rattle.std.specs.Prelude.{nat_lt}
use Rattle.std.specs.List.{list_any}
use Rattle.std.proofs.lemmas.List.{take_more, take_all}
use Rattle.std.proofs.lemmas.List.Folds.{list_any-append}
use Rattle.eon_model.specs.Grid.{Band, has_unit, lies_in, span_of, unit_count, is_band}
use Rattle.eon_model.proofs.OrderLaws.{IsIn}
use Rattle.eon_model.proofs.Members.{any-by}
use Rattle.eon_model.proofs.GridLaws.{lies_in_itself}
use Rattle.eon_model.proofs.BandLaws.{band-parts, in_span}
use Rattle.flex_grid.specs.Padded.{blank}
use Rattle.spectrum_map.specs.Kept.{is_unit_that}
use Rattle.spectrum_map.proofs.QueryLaws.{either_unit}
use Rattle.block_fit.specs.Blocks.{is_in_parts}

-- one element more
any_more : {X : Type 0} (test : X → Bool) (xs : List X) (n : ℕ) (x : X) → n < length xs →
    list_any test (take (n + 1) xs) ≡ (list_any test (take n xs) || test (get_or xs n x))
any_more test xs n x l =
    ap (list_any test) (take_more xs n x l)
    ∙ list_any-append test (take n xs) (get_or xs n x ∷ [])
    ∙ ap (λ b. list_any test (take n xs) || b) (nothing (test (get_or xs n x)))
  where
    nothing : (b : Bool) → (b || false) ≡ b
    nothing true = refl
    nothing false = refl

module _ (band : Band) (test : ℕ → ℤ → Bool) (fibres : List ℕ) where
  -- marked at first, or by one of these fibres
  abbrev pub by_fibres : List ℕ → Bool → ℕ → Bool
  by_fibres fs b i = b || is_unit_that band (λ u. list_any (λ fibre. test fibre u) fs) i

  pub fibre_more : (n : ℕ) (b : Bool) (i : ℕ) → n < length fibres →
      (by_fibres (take n fibres) b i || is_unit_that band (test (get_or fibres n 0)) i)
      ≡ by_fibres (take (n + 1) fibres) b i
  fibre_more n b i l =
      either_unit b band (λ u. list_any (λ fibre. test fibre u) (take n fibres)) (test (get_or fibres n 0)) i
      ∙ (λ k. b || is_unit_that band (λ u. sym (any_more (λ fibre. test fibre u) fibres n 0 l) k) i)

  pub fibre_all : (n : ℕ) (b : Bool) (i : ℕ) → length fibres ≤ n → by_fibres (take n fibres) b i ≡ by_fibres fibres b i
  fibre_all n b i l = ap (λ fs. by_fibres fs b i) (take_all n fibres l)

  pub fibre_none : (b : Bool) (i : ℕ) → b ≡ by_fibres (take 0 fibres) b i
  fibre_none b i = by b (is_unit_that band (λ u. false) i) (never (nat_lt i (unit_count (span_of band))))
    where
      never : (c : Bool) → (c && false) ≡ false
      never true = refl
      never false = refl

      by : (b c : Bool) → c ≡ false → b ≡ (b || c)
      by true c e = refl
      by false c e = sym e

-- marked at first, and in none of these parts
abbrev pub past_parts : Band → Bool → ℤ → Bool
past_parts parts b u = b && not (is_in_parts parts u)

pub part_more : (band : Band) (n : ℕ) (b : Bool) (u : ℤ) → n < length band →
    (past_parts (take n band) b u && not (has_unit (get_or band n blank) u)) ≡ past_parts (take (n + 1) band) b u
part_more band n b u l =
    regroup b (is_in_parts (take n band) u) (has_unit (get_or band n blank) u)
    ∙ ap (λ x. b && not x) (sym (any_more (λ part. has_unit part u) band n blank l))
  where
    regroup : (a x y : Bool) → ((a && not x) && not y) ≡ (a && not (x || y))
    regroup true true y = refl
    regroup true false y = refl
    regroup false x y = refl

pub part_all : (band : Band) (n : ℕ) (b : Bool) (u : ℤ) → length band ≤ n →
    past_parts (take n band) b u ≡ past_parts band b u
part_all band n b u l = ap (λ parts. past_parts parts b u) (take_all n band l)

pub part_none : (b : Bool) → b ≡ (b && true)
part_none true = refl
part_none false = refl

item_in : {X : Type 0} (xs : List X) (n : ℕ) (d : X) → n < length xs → IsIn (get_or xs n d) xs
item_in [] n d l = absurd (omega (arith, l))
item_in (x ∷ xs) zero d l = inl refl
item_in (x ∷ xs) (suc n) d l = inr (item_in xs n d (omega (arith, l)))

-- a part lies in the band's span
pub part_within : (band : Band) → is_band band ≡ true → (n : ℕ) → n < length band →
    lies_in (span_of band) (get_or band n blank) ≡ true
part_within band ok n l =
    let part = get_or band n blank in
    in_span band (band-parts band ok) (get_or band n blank)
    (any-by (λ p. lies_in p (get_or band n blank)) band (get_or band n blank) (item_in band n blank l)
    (lies_in_itself (get_or band n blank)))
