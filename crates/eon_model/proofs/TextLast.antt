-- The last line of several, and lines of one kind that all pass.
use Rattle.std.proofs.Common.{◌≡◌, refl, sym, ◌∙◌, ap, subst, true, false, not, List, [], ◌∷◌, ◌++◌, map, Option, Some, append_assoc, ◌≤◌, length, arith}
use Rattle.std.specs.Option.{option_map_or, option_and_then}
use Rattle.std.specs.List.{list_all}
use Rattle.std.proofs.lemmas.List.{append-nil, map-append}
use Rattle.std.proofs.lemmas.Bool.{and_parts, not_from_true}
use Rattle.eon_model.specs.Names.{Name, is_above}
use Rattle.eon_model.specs.NetworkFault.{Word, Fields, word_spelled, field_at, may_follow, may_stand_after, last_word, last_fields}
use Rattle.eon_model.proofs.TextCauses.{Passes, AllPass}

-- ---- the last line

pub last-push : (lines : List Fields) (line : Fields) → last_fields (lines ++ line ∷ []) ≡ Some line
last-push [] line = refl
last-push (x ∷ []) line = refl
last-push (x ∷ y ∷ lines) line = last-push (y ∷ lines) line

last_behind : (before : List Fields) (line : Fields) (lines : List Fields) →
    last_fields (before ++ line ∷ lines) ≡ last_fields (line ∷ lines)
last_behind [] line lines = refl
last_behind (x ∷ []) line lines = refl
last_behind (x ∷ y ∷ before) line lines = last_behind (y ∷ before) line lines

module _ {X : Type 0} (words : X → Fields) (w : Word)
    (each : (x : X) → word_spelled (field_at (words x) 0) ≡ Some w) where
  last_of : (x : X) (xs : List X) → last_word (map words (x ∷ xs)) ≡ Some w
  last_of x [] = each x
  last_of x (y ∷ xs) = last_of y xs

  -- the last of some lines of one kind
  pub last-kind : (before : List Fields) (xs : List X) → 1 ≤ length xs → last_word (before ++ map words xs) ≡ Some w
  last-kind before [] l = absurd (omega arith)
  last-kind before (x ∷ xs) l =
      ap (λ (o : Option Fields). option_and_then (λ fields. word_spelled (field_at fields 0)) o)
      (last_behind before (words x) (map words xs)) ∙ last_of x xs

  -- what may stand behind lines of one kind, and behind what stands before them where they are none
  pub stands-behind : (v : Word) (before : List Fields) (xs : List X) →
      (xs ≡ [] → may_stand_after (last_word before) v ≡ true) → may_follow w v ≡ true →
      may_stand_after (last_word (before ++ map words xs)) v ≡ true
  stands-behind v before [] here after =
      ap (λ e. may_stand_after (last_word e) v) (append-nil before) ∙ here refl
  stands-behind v before (x ∷ xs) here after =
      ap (λ (o : Option Fields). may_stand_after (option_and_then (λ fields. word_spelled (field_at fields 0)) o) v)
      (last_behind before (words x) (map words xs))
      ∙ ap (λ o. may_stand_after o v) (last_of x xs) ∙ after

-- a name above those before it is above the last of them
module _ {X : Type 0} (words : X → Fields) (key : X → Name) (named : (x : X) → field_at (words x) 1 ≡ key x) where
  pub above-last : (name : Name) (xs : List X) → list_all (λ x. is_above name (key x)) xs ≡ true →
      option_map_or (λ last. not (is_above name (field_at last 1))) (last_fields (map words xs)) false ≡ false
  above-last name [] h = refl
  above-last name (x ∷ []) h =
      ap (λ n. not (is_above name n)) (named x)
      ∙ not_from_true (is_above name (key x)) (and_parts (is_above name (key x)) true h).0
  above-last name (x ∷ y ∷ xs) h =
      above-last name (y ∷ xs) (and_parts (is_above name (key x)) (list_all (λ z. is_above name (key z)) (y ∷ xs)) h).1

-- ---- lines of one kind that all pass

module _ {X : Type 0} (words : X → Fields) (base : List Fields) (all : List X)
    (one : (before : List X) (x : X) (after : List X) → before ++ x ∷ after ≡ all →
    (w : Word) × Passes (base ++ map words before) w (words x)) where
  more : (before : List X) (x : X) → base ++ map words (before ++ x ∷ []) ≡ (base ++ map words before) ++ words x ∷ []
  more before x = ap (λ v. base ++ v) (map-append words before (x ∷ []))
      ∙ sym (append_assoc base (map words before) (words x ∷ []))

  from : (before after : List X) → before ++ after ≡ all → AllPass (base ++ map words before) (map words after)
  from before [] e = tt
  from before (x ∷ after) e = (
    one before x after e,
    subst (λ (v : List Fields). AllPass v (map words after)) (more before x)
        (from (before ++ x ∷ []) after (append_assoc before (x ∷ []) after ∙ e)),
  )

  pub each-passes : AllPass base (map words all)
  each-passes = subst (λ (v : List Fields). AllPass v (map words all)) (append-nil base) (from [] all refl)
