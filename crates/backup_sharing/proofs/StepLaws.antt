-- Maps that are changed one after the other.
use Rattle.std.proofs.Common.{◌≡◌, refl, sym, ◌∙◌, ap, subst, ℕ, ◌+◌, ◌<◌, arith, inl, inr, Bool, true, false, cond, ◌&&◌, List, length, set}
use Rattle.std.specs.Prelude.{nat_lt}
use Rattle.std.specs.List.{AllByRecursion}
use Rattle.std.proofs.lemmas.Bool.{cases_lt, cases_eq, lt-ltb, le-ltb}
use Rattle.std.proofs.lemmas.List.{get_or-set_same, get_or-set_other}
use Rattle.eon_model.specs.Grid.{Band, lies_in, span_of}
use Rattle.eon_model.specs.Rows.{Taken, Holders, at_each}
use Rattle.eon_model.specs.Sets.{NumberSet, has_member}
use Rattle.spectrum_map.specs.Kept.{Kept, IsKeptThere, holders_in}
use Rattle.spectrum_map.proofs.BitLaws.{lt_alike}
use Rattle.backup_sharing.specs.Shared.{Goes, GoTo, map_at, blank}

stays : (b : Bool) (change : Holders → Holders) (m : Kept) → b ≡ false → Goes b change m m
stays b change m e = record { band = refl; fibres = refl; holders = ap (λ c. cond c (change (holders_in m)) (holders_in m)) (sym e) }

pub go_none : (risk : NumberSet) (change : Holders → Holders) (maps : List Kept) → GoTo 0 risk change maps maps
go_none risk change maps g =
    stays (nat_lt g 0 && has_member risk g) change (map_at maps g)
    (ap (λ b. b && has_member risk g) (le-ltb g 0 (omega arith)))

module _ (n : ℕ) (risk : NumberSet) (change : Holders → Holders) (before now : List Kept)
    (so_far : GoTo n risk change before now) where
  -- the map of the next group is as it was
  pub next_unchanged : Goes false change (map_at before n) (map_at now n)
  next_unchanged = subst (λ (b : Bool). Goes b change (map_at before n) (map_at now n))
      (ap (λ b. b && has_member risk n) (le-ltb n n (omega arith))) (so_far n)

  elsewhere : (g : ℕ) → (g ≡ n → ⊥) → (nat_lt g n && has_member risk g) ≡ (nat_lt g (n + 1) && has_member risk g)
  elsewhere g other = ap (λ b. b && has_member risk g)
      (lt_alike g n g (n + 1) (λ h. omega (arith, h)) (λ h. elim (cases_lt g n) [
        | inl less ↦ less
        | inr more ↦ absurd (other (omega (arith, h, more)))
      ]))

  here : (nat_lt n (n + 1) && has_member risk n) ≡ has_member risk n
  here = ap (λ b. b && has_member risk n) (lt-ltb n (n + 1) (omega arith))

  -- past the next group
  pub go_on : n < length now → (new : Kept) → Goes (has_member risk n) change (map_at now n) new →
      GoTo (n + 1) risk change before (set now n new)
  go_on l new goes g = elim (cases_eq g n) [
    | inl same ↦ subst (λ (k : ℕ). Goes (nat_lt k (n + 1) && has_member risk k) change (map_at before k)
        (map_at (set now n new) k)) (sym same) at
    | inr other ↦ subst (λ (m : Kept). Goes (nat_lt g (n + 1) && has_member risk g) change (map_at before g) m)
        (sym (get_or-set_other now n g new blank other))
        (subst (λ (b : Bool). Goes b change (map_at before g) (map_at now g)) (elsewhere g other) (so_far g))
  ]
    where
      changed : Goes (has_member risk n) change (map_at before n) new
      changed = record {
        band = goes.band ∙ next_unchanged.band;
        fibres = goes.fibres ∙ next_unchanged.fibres;
        holders = goes.holders ∙ ap (λ h. cond (has_member risk n) (change h) h) next_unchanged.holders;
      }

      at : Goes (nat_lt n (n + 1) && has_member risk n) change (map_at before n) (map_at (set now n new) n)
      at = subst (λ (m : Kept). Goes (nat_lt n (n + 1) && has_member risk n) change (map_at before n) m)
          (sym (get_or-set_same now n new blank l))
          (subst (λ (b : Bool). Goes b change (map_at before n) new) (sym here) changed)

  -- what is asked of the map of the next group
  pub there_next : (t : Taken) → IsKeptThere (map_at before n) t → IsKeptThere (map_at now n) t
  there_next t there = record {
    fibres = subst (λ (k : ℕ). AllByRecursion (λ f. f < k) t.fibres) (sym next_unchanged.fibres) there.fibres;
    once = there.once;
    units = subst (λ (b : Band). lies_in (span_of b) t.units ≡ true) (sym next_unchanged.band) there.units;
  }

  pub test_next : (test : ℕ → Bool) (t : Taken) →
      at_each (λ fibre u. test (holders_in (map_at before n) fibre u)) t ≡ true →
      at_each (λ fibre u. test (holders_in (map_at now n) fibre u)) t ≡ true
  test_next test t h = subst (λ (k : Holders). at_each (λ fibre u. test (k fibre u)) t ≡ true)
      (sym next_unchanged.holders) h
