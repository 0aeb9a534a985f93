-- Which of the lines that have told a sheet begin with a word.
use Rattle.std.proofs.Common.{◌≡◌, refl, sym, ◌∙◌, ap, ℕ, zero, suc, ◌-◌, Bool, true, false, cond, not, List, [], ◌∷◌, ◌++◌, ◌<◌, arith, map, filter, take, nat_lt}
use Rattle.std.specs.Prelude.{codes}
use Rattle.std.specs.Option.{option_map_or}
use Rattle.std.proofs.lemmas.List.Elements.{filter-append}
use Rattle.std.proofs.lemmas.Bool.{le-ltb}
use Rattle.eon_model.specs.Grid.{Units}
use Rattle.eon_model.specs.Names.{Name, is_above}
use Rattle.eon_model.specs.Network.{Fibre, Group}
use Rattle.eon_model.specs.Formats.{Format}
use Rattle.eon_model.specs.NetworkFault.{Fields, field_at, has_word, lines_with, last_fields}
use Rattle.net_graph.specs.Graph.{comes_after}
use Rattle.net_file.specs.Steps.{SoFar, parts_of}
use Rattle.net_file.specs.Drafts.{format_line_words, node_line_words, fibre_line_words, group_line_words, number_words, part_line_words, limit_words, head_at, end_words, lines_at}
use Rattle.std.proofs.lemmas.List.{append-nil}

-- ---- parts of a list

module _ {X : Type 0} (p : X → Bool) where
  -- what a list keeps, by its first element
  kept_first : (x : X) (xs : List X) → p x ≡ false → filter p (x ∷ xs) ≡ filter p xs
  kept_first x xs e = λ i. cond (e i) (x ∷ filter p xs) (filter p xs)

  first_passes : (x : X) (xs : List X) → p x ≡ true → filter p (x ∷ xs) ≡ [] → ⊥
  first_passes x xs e h =
      let k : x ∷ filter p xs ≡ [] = sym (λ i. cond (e i) (x ∷ filter p xs) (filter p xs)) ∙ h in cc

  -- the first fails, and what is taken of the others keeps nothing
  fails_first : (x : X) (xs taken : List X) (b : Bool) → p x ≡ b → filter p (x ∷ xs) ≡ [] →
      (filter p xs ≡ [] → filter p taken ≡ []) → filter p (x ∷ taken) ≡ []
  fails_first x xs taken true e h more = absurd (first_passes x xs e h)
  fails_first x xs taken false e h more = kept_first x taken e ∙ more (sym (kept_first x xs e) ∙ h)

  none_taken : (n : ℕ) (xs : List X) → filter p xs ≡ [] → filter p (take n xs) ≡ []
  none_taken zero xs h = refl
  none_taken (suc n) [] h = refl
  none_taken (suc n) (x ∷ xs) h = fails_first x xs (take n xs) (p x) refl h (none_taken n xs)

  all_kept : {Y : Type 0} (f : Y → X) → ((y : Y) → p (f y) ≡ true) → (ys : List Y) →
      filter p (map f ys) ≡ map f ys
  all_kept f h [] = refl
  all_kept f h (y ∷ ys) =
      (λ i. cond (h y i) (f y ∷ filter p (map f ys)) (filter p (map f ys))) ∙ ap (λ v. f y ∷ v) (all_kept f h ys)

  none_kept : {Y : Type 0} (f : Y → X) → ((y : Y) → p (f y) ≡ false) → (ys : List Y) →
      filter p (map f ys) ≡ []
  none_kept f h [] = refl
  none_kept f h (y ∷ ys) =
      (λ i. cond (h y i) (f y ∷ filter p (map f ys)) (filter p (map f ys))) ∙ none_kept f h ys

  parts_kept : (a b c d e f : List X) → filter p (((a ++ b) ++ ((c ++ d) ++ e)) ++ f)
      ≡ ((filter p a ++ filter p b) ++ ((filter p c ++ filter p d) ++ filter p e)) ++ filter p f
  parts_kept a b c d e f = simp filter-append

  -- the parts that are kept of the six parts
  six_kept : (a b c d e f va vb vc vd ve vf : List X) → filter p a ≡ va → filter p b ≡ vb →
      filter p c ≡ vc → filter p d ≡ vd → filter p e ≡ ve → filter p f ≡ vf →
      filter p (((a ++ b) ++ ((c ++ d) ++ e)) ++ f) ≡ ((va ++ vb) ++ ((vc ++ vd) ++ ve)) ++ vf
  six_kept a b c d e f va vb vc vd ve vf ha hb hc hd he hf =
      parts_kept a b c d e f ∙ (λ i. ((ha i ++ hb i) ++ ((hc i ++ hd i) ++ he i)) ++ hf i)

-- ---- the first lines and the last

end_dropped : (p : Fields → Bool) → p (codes "end" ∷ []) ≡ false → (far : ℕ) → filter p (end_words far) ≡ []
end_dropped p h far = by_test (nat_lt 10 far)
  where
    by_test : (b : Bool) → filter p (cond b ((codes "end" ∷ []) ∷ []) []) ≡ []
    by_test true = λ i. cond (h i) ((codes "end" ∷ []) ∷ []) []
    by_test false = refl

-- the lines before the formats that are kept
head_kept : (p : Fields → Bool) (far : ℕ) (s : SoFar) (a b c : List Fields) →
    filter p (take far (number_words (codes "net") s.version ∷ [])) ≡ a →
    filter p (map part_line_words (parts_of s.band)) ≡ b → filter p (take (far - 2) (limit_words s)) ≡ c →
    filter p (head_at far s) ≡ (a ++ b) ++ c
head_kept p far s a b c ha hb hc =
    let net = take far (number_words (codes "net") s.version ∷ []) in
    let parts = map part_line_words (parts_of s.band) in
    let limits = take (far - 2) (limit_words s) in
    filter-append p (net ++ parts) limits ∙ ap (λ v. v ++ filter p limits) (filter-append p net parts)
    ∙ (λ i. (ha i ++ hb i) ++ hc i)

head_dropped : (p : Fields → Bool) (far : ℕ) (s : SoFar) → filter p (number_words (codes "net") s.version ∷ []) ≡ [] →
    ((part : Units) → p (part_line_words part) ≡ false) → filter p (limit_words s) ≡ [] →
    filter p (head_at far s) ≡ []
head_dropped p far s net parts limits =
    head_kept p far s [] [] [] (none_taken p far (number_words (codes "net") s.version ∷ []) net)
    (none_kept p part_line_words parts (parts_of s.band)) (none_taken p (far - 2) (limit_words s) limits)

-- ---- the lines with a word

pub formats_with : (far : ℕ) (s : SoFar) → lines_with (lines_at far s) (codes "format") ≡ map format_line_words s.formats
unfolding lines_at
formats_with far s =
    let p = has_word (codes "format") in
    let net = s.network in
    six_kept p (head_at far s) (map format_line_words s.formats)
    (map node_line_words net.nodes) (map (fibre_line_words net.nodes) net.fibres)
    (map (group_line_words net.fibres) net.groups) (end_words far)
    [] (map format_line_words s.formats) [] [] [] []
    (head_dropped p far s refl (λ y. refl) refl) (all_kept p format_line_words (λ y. refl) s.formats)
    (none_kept p node_line_words (λ y. refl) net.nodes)
    (none_kept p (fibre_line_words net.nodes) (λ y. refl) net.fibres)
    (none_kept p (group_line_words net.fibres) (λ y. refl) net.groups) (end_dropped p refl far)
    ∙ append-nil (map format_line_words s.formats ++ []) ∙ append-nil (map format_line_words s.formats)

pub nodes_with : (far : ℕ) (s : SoFar) → lines_with (lines_at far s) (codes "node") ≡ map node_line_words s.network.nodes
unfolding lines_at
nodes_with far s =
    let p = has_word (codes "node") in
    let net = s.network in
    let kept = map node_line_words net.nodes in
    six_kept p (head_at far s) (map format_line_words s.formats)
    (map node_line_words net.nodes) (map (fibre_line_words net.nodes) net.fibres)
    (map (group_line_words net.fibres) net.groups) (end_words far)
    [] [] kept [] [] []
    (head_dropped p far s refl (λ y. refl) refl) (none_kept p format_line_words (λ y. refl) s.formats)
    (all_kept p node_line_words (λ y. refl) net.nodes)
    (none_kept p (fibre_line_words net.nodes) (λ y. refl) net.fibres)
    (none_kept p (group_line_words net.fibres) (λ y. refl) net.groups) (end_dropped p refl far)
    ∙ append-nil ((kept ++ []) ++ []) ∙ append-nil (kept ++ []) ∙ append-nil kept

pub fibres_with : (far : ℕ) (s : SoFar) → lines_with (lines_at far s) (codes "fibre")
    ≡ map (fibre_line_words s.network.nodes) s.network.fibres
unfolding lines_at
fibres_with far s =
    let p = has_word (codes "fibre") in
    let net = s.network in
    let kept = map (fibre_line_words net.nodes) net.fibres in
    six_kept p (head_at far s) (map format_line_words s.formats)
    (map node_line_words net.nodes) (map (fibre_line_words net.nodes) net.fibres)
    (map (group_line_words net.fibres) net.groups) (end_words far)
    [] [] [] kept [] []
    (head_dropped p far s refl (λ y. refl) refl) (none_kept p format_line_words (λ y. refl) s.formats)
    (none_kept p node_line_words (λ y. refl) net.nodes)
    (all_kept p (fibre_line_words net.nodes) (λ y. refl) net.fibres)
    (none_kept p (group_line_words net.fibres) (λ y. refl) net.groups) (end_dropped p refl far)
    ∙ append-nil (kept ++ []) ∙ append-nil kept

pub groups_with_word : (far : ℕ) (s : SoFar) → lines_with (lines_at far s) (codes "group")
    ≡ map (group_line_words s.network.fibres) s.network.groups
unfolding lines_at
groups_with_word far s =
    let p = has_word (codes "group") in
    let net = s.network in
    let kept = map (group_line_words net.fibres) net.groups in
    six_kept p (head_at far s) (map format_line_words s.formats)
    (map node_line_words net.nodes) (map (fibre_line_words net.nodes) net.fibres)
    (map (group_line_words net.fibres) net.groups) (end_words far)
    [] [] [] [] kept []
    (head_dropped p far s refl (λ y. refl) refl) (none_kept p format_line_words (λ y. refl) s.formats)
    (none_kept p node_line_words (λ y. refl) net.nodes)
    (none_kept p (fibre_line_words net.nodes) (λ y. refl) net.fibres)
    (all_kept p (group_line_words net.fibres) (λ y. refl) net.groups) (end_dropped p refl far)
    ∙ append-nil kept

-- those of the band
pub parts_with : (far : ℕ) (s : SoFar) → lines_with (lines_at far s) (codes "band")
    ≡ map part_line_words (parts_of s.band)
unfolding lines_at
parts_with far s =
    let p = has_word (codes "band") in
    let net = s.network in
    let kept = map part_line_words (parts_of s.band) in
    six_kept p (head_at far s) (map format_line_words s.formats)
    (map node_line_words net.nodes) (map (fibre_line_words net.nodes) net.fibres)
    (map (group_line_words net.fibres) net.groups) (end_words far)
    kept [] [] [] [] []
    (head_kept p far s [] kept [] (none_taken p far (number_words (codes "net") s.version ∷ []) refl)
    (all_kept p part_line_words (λ y. refl) (parts_of s.band)) (none_taken p (far - 2) (limit_words s) refl)
    ∙ append-nil kept)
    (none_kept p format_line_words (λ y. refl) s.formats)
    (none_kept p node_line_words (λ y. refl) net.nodes)
    (none_kept p (fibre_line_words net.nodes) (λ y. refl) net.fibres)
    (none_kept p (group_line_words net.fibres) (λ y. refl) net.groups) (end_dropped p refl far)
    ∙ append-nil ((kept ++ []) ++ []) ∙ append-nil (kept ++ []) ∙ append-nil kept

-- no line with a number has come before its turn
pub none_yet : (word : List ℕ) (far : ℕ) (s : SoFar) →
    filter (has_word word) (take far (number_words (codes "net") s.version ∷ [])) ≡ [] →
    ((part : Units) → has_word word (part_line_words part) ≡ false) →
    filter (has_word word) (take (far - 2) (limit_words s)) ≡ [] →
    ((f : Format) → has_word word (format_line_words f) ≡ false) →
    ((n : Name) → has_word word (node_line_words n) ≡ false) →
    ((nodes : List Name) (f : Fibre) → has_word word (fibre_line_words nodes f) ≡ false) →
    ((fibres : List Fibre) (g : Group) → has_word word (group_line_words fibres g) ≡ false) →
    has_word word (codes "end" ∷ []) ≡ false → lines_with (lines_at far s) word ≡ []
unfolding lines_at
none_yet word far s hn hp hl hf ho hb hg he =
    let p = has_word word in
    let net = s.network in
    six_kept p (head_at far s) (map format_line_words s.formats)
    (map node_line_words net.nodes) (map (fibre_line_words net.nodes) net.fibres)
    (map (group_line_words net.fibres) net.groups) (end_words far)
    [] [] [] [] [] []
    (head_kept p far s [] [] [] hn (none_kept p part_line_words hp (parts_of s.band)) hl)
    (none_kept p format_line_words hf s.formats)
    (none_kept p node_line_words ho net.nodes)
    (none_kept p (fibre_line_words net.nodes) (hb net.nodes) net.fibres)
    (none_kept p (group_line_words net.fibres) (hg net.fibres) net.groups) (end_dropped p he far)

-- no line is the last one before the text has come so far
pub ends_with : (far : ℕ) (s : SoFar) → far < 11 → lines_with (lines_at far s) (codes "end") ≡ []
unfolding lines_at
ends_with far s l =
    let p = has_word (codes "end") in
    let net = s.network in
    six_kept p (head_at far s) (map format_line_words s.formats)
    (map node_line_words net.nodes) (map (fibre_line_words net.nodes) net.fibres)
    (map (group_line_words net.fibres) net.groups) (end_words far)
    [] [] [] [] [] []
    (head_dropped p far s refl (λ y. refl) refl) (none_kept p format_line_words (λ y. refl) s.formats)
    (none_kept p node_line_words (λ y. refl) net.nodes)
    (none_kept p (fibre_line_words net.nodes) (λ y. refl) net.fibres)
    (none_kept p (group_line_words net.fibres) (λ y. refl) net.groups)
    (λ i. filter p (cond (le-ltb 10 far (omega arith) i) ((codes "end" ∷ []) ∷ []) []))

-- ---- their names, and the last of them

pub names_mapped : {X : Type 0} (words : X → Fields) (key : X → Name) → ((x : X) → field_at (words x) 1 ≡ key x) →
    (xs : List X) → map (λ (fields : Fields). field_at fields 1) (map words xs) ≡ map key xs
names_mapped words key h [] = refl
names_mapped words key h (x ∷ xs) = λ i. h x i ∷ names_mapped words key h xs i

pub last_compared : {X : Type 0} (words : X → Fields) (key : X → Name) → ((x : X) → field_at (words x) 1 ≡ key x) →
    (xs : List X) (name : Name) →
    option_map_or (λ (last : Fields). not (is_above name (field_at last 1))) (last_fields (map words xs)) false
    ≡ not (comes_after (map key xs) name)
last_compared words key h [] name = refl
last_compared words key h (x ∷ []) name = ap (λ (k : Name). not (is_above name k)) (h x)
last_compared words key h (x ∷ y ∷ xs) name = last_compared words key h (y ∷ xs) name
