-- A scan over named bytes, one entry on.
use Rattle.std.proofs.Common.{◌≡◌, ℕ, ◌+◌, ◌<◌, true, false, cond, eqb, List, [], ◌∷◌, length, map, get_or, drop, Option, Some, sym, ap, ◌∙◌, arith}
use Rattle.std.proofs.lemmas.List.{drop_more, get_or-map, length-map}
use Rattle.std.specs.Ordering.{nat_cmp}
use Rattle.std.specs.Cmp.Lexicographic.{slice_cmp, texts_ties}
use Rattle.std.proofs.lemmas.Cmp.{nat_list_cmp_total}
use Rattle.std.specs.FinMap.{find, get, from_entries, get-from_entries}
use lib.Pointwise.{pointwise}
use Rattle.eon_outside.specs.Memory.{bytes_at}

module _ {X : Type 0} (f : X → List ℕ × List ℕ) (name : List ℕ) (xs : List X) (i : ℕ) (x : X) where
  abbrev rest : List (List ℕ × List ℕ)
  rest = drop (i + 1) (map f xs)

  entry_at : i < length xs → x ≡ get_or xs i x → get_or (map f xs) i ([], []) ≡ f x
  entry_at within is = get_or-map f xs i x ([], []) within ∙ ap f (sym is)

  pub bytes_at_entry : i < length xs → x ≡ get_or xs i x → bytes_at (map f xs) i ≡ (f x).1
  bytes_at_entry within is = ap (λ e. e.1) (entry_at within is)

  scan : i < length xs → x ≡ get_or xs i x
      → find (slice_cmp nat_cmp) name (drop i (map f xs)) ≡ cond (pointwise eqb name (f x).0) (Some (f x).1) (find (slice_cmp nat_cmp) name rest)
  scan within is =
      let inside : i < length (map f xs) = omega (arith, length-map xs f) in
      ap (find (slice_cmp nat_cmp) name) (drop_more (map f xs) i ([], []) inside)
      ∙ ap (λ e. find (slice_cmp nat_cmp) name (e ∷ rest)) (entry_at within is)
      ∙ ap (λ b. cond b (Some (f x).1) (find (slice_cmp nat_cmp) name rest)) (sym (texts_ties name (f x).0))

  -- the entry has the name
  pub found_here : i < length xs → x ≡ get_or xs i x → pointwise eqb name (f x).0 ≡ true
      → find (slice_cmp nat_cmp) name (drop i (map f xs)) ≡ Some (bytes_at (map f xs) i)
  found_here within is same =
      scan within is ∙ ap (λ b. cond b (Some (f x).1) (find (slice_cmp nat_cmp) name rest)) same
      ∙ ap (λ e. Some e.1) (sym (entry_at within is))

  -- the entry has another name
  pub found_later : i < length xs → x ≡ get_or xs i x → pointwise eqb name (f x).0 ≡ false
      → find (slice_cmp nat_cmp) name (drop i (map f xs)) ≡ find (slice_cmp nat_cmp) name rest
  found_later within is other = scan within is ∙ ap (λ b. cond b (Some (f x).1) (find (slice_cmp nat_cmp) name rest)) other

-- what a scan finds is what the map has
pub got : (entries : List (List ℕ × List ℕ)) (name : List ℕ) (found : Option (List ℕ))
    → find (slice_cmp nat_cmp) name entries ≡ found → get (from_entries {R = slice_cmp nat_cmp} entries) name ≡ found
got entries name found e = get-from_entries nat_list_cmp_total entries name ∙ e
