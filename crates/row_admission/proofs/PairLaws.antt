-- The first placement over rows, pair by pair.
use Rattle.std.proofs.Common.{◌≡◌, refl, sym, ◌∙◌, ap, subst, ℕ, zero, suc, ◌+◌, ◌<◌, arith, length, get_or, ℤ, List, [], ◌∷◌, drop, Option, Some, None}
use Rattle.std.specs.List.{AllByRecursion}
use Rattle.std.specs.Option.{option_map, option_or}
use Rattle.eon_model.specs.declared.Class.{Class}
use Rattle.eon_model.specs.Grid.{Band}
use Rattle.eon_model.specs.Candidates.{Candidate}
use Rattle.eon_model.specs.FirstFit.{Placement}
use Rattle.eon_model.specs.FirstInRows.{least_channel, least_backup, placed_at, placement_in_rows, first_in_rows}
use Rattle.eon_model.specs.Rows.{Rows, Counts}
use Rattle.admission.specs.declared.placing.Found.{Found}
use Rattle.admission.specs.declared.placing.Admit.TheVariants.{Placed}
use Rattle.admission.specs.Told.{found_at, answer_for}

module _ (band : Band) (rows : Rows) (counts : Counts) (class : Class) where
  -- ---- on one pair

  abbrev pub pair_found : ℕ → Candidate → Option Found
  pair_found rank c = option_map found_at (placement_in_rows band rows counts class rank c)

  found_of : (rank : ℕ) (c : Candidate) (n : Option ℤ) (b : Option (Option ℤ)) → least_channel band rows c.work ≡ n →
      least_backup band rows counts class c.work.route.risk c.back ≡ b →
      option_map found_at (placed_at rank c n b) ≡ pair_found rank c
  found_of rank c n b e f = λ i. option_map found_at (placed_at rank c (sym e i) (sym f i))

  pub no_work : (rank : ℕ) (c : Candidate) → least_channel band rows c.work ≡ None → None ≡ pair_found rank c
  no_work rank c e = found_of rank c None (least_backup band rows counts class c.work.route.risk c.back) e refl

  pub no_back : (rank : ℕ) (c : Candidate) (n : ℤ) → least_channel band rows c.work ≡ Some n →
      least_backup band rows counts class c.work.route.risk c.back ≡ None → None ≡ pair_found rank c
  no_back rank c n e f = found_of rank c (Some n) None e f

  pub placed_here : (rank : ℕ) (c : Candidate) (n : ℤ) (b : Option ℤ) → least_channel band rows c.work ≡ Some n →
      least_backup band rows counts class c.work.route.risk c.back ≡ Some b →
      Some (record { pair = rank; work_n = n; back_n = b }) ≡ pair_found rank c
  placed_here rank c n b e f = found_of rank c (Some n) (Some b) e f

  -- ---- pair by pair

  -- the first placement on the pairs from this one on
  abbrev pub found_from : ℕ → List Candidate → Option Placement
  found_from i cs = first_in_rows band rows counts class i (drop i cs)

  from_step : (i : ℕ) (cs : List Candidate) (c : Candidate) → drop i cs ≡ c ∷ drop (i + 1) cs →
      found_from i cs ≡ option_or (placement_in_rows band rows counts class i c) (found_from (i + 1) cs)
  from_step i cs c e = ap (first_in_rows band rows counts class i) e

  -- a pair without one is passed over
  pub pair_past : (i : ℕ) (cs : List Candidate) (c : Candidate) → drop i cs ≡ c ∷ drop (i + 1) cs →
      None ≡ pair_found i c → found_from (i + 1) cs ≡ found_from i cs
  pair_past i cs c e h =
      by (placement_in_rows band rows counts class i c) h ∙ sym (from_step i cs c e)
    where
      by : (o : Option Placement) → None ≡ option_map found_at o →
          found_from (i + 1) cs ≡ option_or o (found_from (i + 1) cs)
      by None k = refl
      by (Some p) k = cc

  answer_placed : (pairs : ℕ) (p : Placement) → 0 < pairs → Placed (found_at p) ≡ answer_for pairs (Some p)
  answer_placed zero p h = absurd (omega arith)
  answer_placed (suc n) p h = refl

  -- the first pair with one has the first of all
  pub pair_here : (i : ℕ) (cs : List Candidate) (c : Candidate) (f : Found) → drop i cs ≡ c ∷ drop (i + 1) cs →
      i < length cs → Some f ≡ pair_found i c → found_from i cs ≡ first_in_rows band rows counts class 0 cs →
      Placed f ≡ answer_for (length cs) (first_in_rows band rows counts class 0 cs)
  pair_here i cs c f e l h s =
      by (placement_in_rows band rows counts class i c) h (sym (from_step i cs c e) ∙ s)
    where
      by : (o : Option Placement) → Some f ≡ option_map found_at o →
          option_or o (found_from (i + 1) cs) ≡ first_in_rows band rows counts class 0 cs →
          Placed f ≡ answer_for (length cs) (first_in_rows band rows counts class 0 cs)
      by None k t = cc
      by (Some p) k t =
          let same : f ≡ found_at p = cc in
          ap Placed same ∙ answer_placed (length cs) p (omega arith) ∙ ap (answer_for (length cs)) t

-- what holds of all holds of each
pub all_at : {X : Type 0} (P : X → Type 0) (xs : List X) (i : ℕ) (x : X) → AllByRecursion P xs → i < length xs →
    x ≡ get_or xs i x → P x
all_at P [] i x a l e = absurd (omega arith)
all_at P (y ∷ ys) zero x a l e = subst P (sym e) a.0
all_at P (y ∷ ys) (suc i) x a l e = all_at P ys i x a.1 (omega arith) e
