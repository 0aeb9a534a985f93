-- The first placement on one pair of routes: the least centre of the working path, and the least one of the
-- backup.
use Rattle.std.proofs.Common.{◌≡◌, refl, sym, ◌∙◌, ap, ℕ, zero, suc, ◌+◌, ◌<◌, arith, length, ℤ, Bool, true, false, ◌&&◌, List, ◌∷◌, find, drop, Option, Some, None}
use Rattle.std.specs.List.{list_all}
use Rattle.std.specs.Option.{option_map, option_and_then, option_to_list, option_or}
use Rattle.std.proofs.lemmas.List.Folds.{find-append}
use Rattle.eon_model.specs.declared.Class.{Class}
use Rattle.eon_model.specs.Grid.{Band}
use Rattle.eon_model.specs.Route.{Route}
use Rattle.eon_model.specs.Services.{Leg, State}
use Rattle.eon_model.specs.Candidates.{SizedRoute, Candidate}
use Rattle.eon_model.specs.FirstFit.{Placement, centres_in, path_at, backup_centres, placements_of, placements_from}
use Rattle.admission.specs.FirstClear.{placement_stands, first_clear}
use Rattle.admission.specs.Clear.{work_fits, back_fits, work_found, back_found}
use Rattle.admission.specs.declared.placing.Found.{Found}
use Rattle.admission.specs.declared.placing.Admit.TheVariants.{Placed}
use Rattle.admission.specs.Told.{found_at, answer_for}
use Rattle.admission.proofs.SplitLemmas.{stand_split}
use Rattle.eon_model.proofs.FirstRows.{find_same, find_map, find_both, both_found}

-- ---- the placements of a candidate

module _ (list : State) (band : Band) (class : Class) (own : Option Leg) where
  and_true : (a : Bool) → (a && true) ≡ a
  and_true true = refl
  and_true false = refl

  backs : (work : Route) (o : Option SizedRoute) →
      find (λ n. list_all (back_fits list band own class work)
      (option_to_list (option_and_then (λ b. option_map (path_at b) n) o))) (backup_centres band o)
      ≡ back_found list band class own work o
  backs work None = refl
  backs work (Some b) =
      find_map (λ n. list_all (back_fits list band own class work) (option_to_list (option_map (path_at b) n)))
      (λ n. Some n) (centres_in band)
      ∙ ap (option_map (λ n. Some n)) (find_same _ (λ n. back_fits list band own class work (path_at b n))
      (λ n. and_true (back_fits list band own class work (path_at b n))) (centres_in band))

  find-placements : (rank : ℕ) (c : Candidate) →
      find (placement_stands list band class own) (placements_of band rank c)
      ≡ both_found (λ n b. record { candidate = c; rank = rank; work_n = n; back_n = b })
      (work_found list band c.work) (back_found list band class own c.work.route c.back)
  find-placements rank c =
      find_both (λ n. work_fits list band (path_at c.work n))
      (λ n. list_all (back_fits list band own class c.work.route)
      (option_to_list (option_and_then (λ b. option_map (path_at b) n) c.back)))
      (λ n b. record { candidate = c; rank = rank; work_n = n; back_n = b }) (placement_stands list band class own)
      (λ n b. stand_split list band class own (path_at c.work n)
      (option_and_then (λ r. option_map (path_at r) b) c.back))
      (backup_centres band c.back) (centres_in band)
      ∙ ap (both_found (λ n b. record { candidate = c; rank = rank; work_n = n; back_n = b }) (work_found list band c.work))
      (backs c.work.route c.back)

  -- ---- what is found on one pair

  abbrev pub pair_found : ℕ → Candidate → Option Found
  pair_found rank c = option_map found_at (find (placement_stands list band class own) (placements_of band rank c))

  found_of : (rank : ℕ) (c : Candidate) (n : Option ℤ) (b : Option (Option ℤ)) →
      work_found list band c.work ≡ n → back_found list band class own c.work.route c.back ≡ b →
      both_found (λ n b. record { pair = rank; work_n = n; back_n = b }) n b ≡ pair_found rank c
  found_of rank c n b e f =
      by n b
      ∙ (λ i. option_map found_at (both_found (λ n b. record { candidate = c; rank = rank; work_n = n; back_n = b })
      (sym e i) (sym f i)))
      ∙ ap (option_map found_at) (sym (find-placements rank c))
    where
      by : (n : Option ℤ) (b : Option (Option ℤ)) →
          both_found (λ n b. record { pair = rank; work_n = n; back_n = b }) n b
          ≡ option_map found_at (both_found (λ n b. record { candidate = c; rank = rank; work_n = n; back_n = b }) n b)
      by None b = refl
      by (Some n) None = refl
      by (Some n) (Some b) = refl

  pub no_work : (rank : ℕ) (c : Candidate) → work_found list band c.work ≡ None → None ≡ pair_found rank c
  no_work rank c e = found_of rank c None (back_found list band class own c.work.route c.back) e refl

  pub no_back : (rank : ℕ) (c : Candidate) (n : ℤ) → work_found list band c.work ≡ Some n →
      back_found list band class own c.work.route c.back ≡ None → None ≡ pair_found rank c
  no_back rank c n e f = found_of rank c (Some n) None e f

  pub placed_here : (rank : ℕ) (c : Candidate) (n : ℤ) (b : Option ℤ) → work_found list band c.work ≡ Some n →
      back_found list band class own c.work.route c.back ≡ Some b →
      Some (record { pair = rank; work_n = n; back_n = b }) ≡ pair_found rank c
  placed_here rank c n b e f = found_of rank c (Some n) (Some b) e f

  -- ---- pair by pair

  -- the first placement on the pairs from this one on
  abbrev pub found_from : ℕ → List Candidate → Option Placement
  found_from i cs = find (placement_stands list band class own) (placements_from band i (drop i cs))

  from_step : (i : ℕ) (cs : List Candidate) (c : Candidate) → drop i cs ≡ c ∷ drop (i + 1) cs →
      found_from i cs
      ≡ option_or (find (placement_stands list band class own) (placements_of band i c)) (found_from (i + 1) cs)
  from_step i cs c e =
      ap (λ ds. find (placement_stands list band class own) (placements_from band i ds)) e
      ∙ find-append (placement_stands list band class own) (placements_of band i c)
      (placements_from band (i + 1) (drop (i + 1) cs))

  -- a pair without one is passed over
  pub pair_past : (i : ℕ) (cs : List Candidate) (c : Candidate) → drop i cs ≡ c ∷ drop (i + 1) cs →
      None ≡ pair_found i c → found_from (i + 1) cs ≡ found_from i cs
  pair_past i cs c e h =
      by (find (placement_stands list band class own) (placements_of band i c)) h ∙ sym (from_step i cs c e)
    where
      by : (o : Option Placement) → None ≡ option_map found_at o →
          found_from (i + 1) cs ≡ option_or o (found_from (i + 1) cs)
      by None k = refl
      by (Some p) k = cc

  answer_placed : (pairs : ℕ) (p : Placement) → 0 < pairs → Placed (found_at p) ≡ answer_for pairs (Some p)
  answer_placed zero p h = absurd (omega arith)
  answer_placed (suc n) p h = refl

  -- the first pair with one has the first of all
  pub pair_here : (i : ℕ) (cs : List Candidate) (c : Candidate) (f : Found) → drop i cs ≡ c ∷ drop (i + 1) cs →
      i < length cs → Some f ≡ pair_found i c → found_from i cs ≡ first_clear list band class cs own →
      Placed f ≡ answer_for (length cs) (first_clear list band class cs own)
  pair_here i cs c f e l h s =
      by (find (placement_stands list band class own) (placements_of band i c)) h (sym (from_step i cs c e) ∙ s)
    where
      by : (o : Option Placement) → Some f ≡ option_map found_at o →
          option_or o (found_from (i + 1) cs) ≡ first_clear list band class cs own →
          Placed f ≡ answer_for (length cs) (first_clear list band class cs own)
      by None k t = cc
      by (Some p) k t =
          let same : f ≡ found_at p = cc in
          ap Placed same ∙ answer_placed (length cs) p (omega arith) ∙ ap (answer_for (length cs)) t
