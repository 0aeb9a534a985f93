-- Fields joined are their line, and lines joined are their text.
use Rattle.std.proofs.Common.{◌≡◌, refl, sym, ◌∙◌, ap, ℕ, Bool, true, false, cond, List, [], ◌∷◌, ◌++◌, map, nat_eq}
use Rattle.std.specs.List.{flat_map}
use Rattle.std.proofs.lemmas.Bool.{eqb-true}
use Rattle.eon_model.specs.Spelling.{spaced, line, fields_of, field_before}
use Rattle.net_file.specs.Readings.{is_nil}
use Rattle.net_file.proofs.CutLaws.{fields-some}
use Rattle.eon_model.proofs.WholeLines.{ended, text_of}

abbrev pub Words : Type 0
Words = List (List ℕ)

-- ---- fields

spaced_nil : (fs : Words) → is_nil fs ≡ false → spaced ([] ∷ fs) ≡ 32 ∷ spaced fs
spaced_nil [] h = absurd cc
spaced_nil (f ∷ fs) h = refl

spaced_before : (b : ℕ) (fs : Words) → is_nil fs ≡ false → spaced (field_before b fs) ≡ b ∷ spaced fs
spaced_before b [] h = absurd cc
spaced_before b (f ∷ []) h = refl
spaced_before b (f ∷ g ∷ fs) h = refl

spaced_either : (t : Bool) (b : ℕ) (bytes : List ℕ) (fs : Words) → nat_eq b 32 ≡ t → is_nil fs ≡ false →
    spaced fs ≡ bytes → spaced (cond t ([] ∷ fs) (field_before b fs)) ≡ b ∷ bytes
spaced_either true b bytes fs e h same =
    spaced_nil fs h ∙ (λ i. sym (eqb-true b 32 e) i ∷ same i)
spaced_either false b bytes fs e h same = spaced_before b fs h ∙ ap (λ v. b ∷ v) same

-- a line's fields joined are the line
pub spaced-fields : (bytes : List ℕ) → spaced (fields_of bytes) ≡ bytes
spaced-fields [] = refl
spaced-fields (b ∷ bytes) =
    spaced_either (nat_eq b 32) b bytes (fields_of bytes) refl (fields-some bytes) (spaced-fields bytes)

-- ---- lines

-- lines of words, with nothing behind them, are their text
pub text-spaced : (all : List Words) → text_of (map spaced all, []) ≡ flat_map line all
text-spaced [] = refl
text-spaced (ws ∷ all) =
    ended_twice (spaced ws) (flat_map ended (map spaced all)) ∙ ap (λ v. line ws ++ v) (text-spaced all)
  where
    ended_twice : (l rest : List ℕ) → (ended l ++ rest) ++ [] ≡ ended l ++ (rest ++ [])
    ended_twice [] rest = refl
    ended_twice (b ∷ l) rest = ap (λ v. b ∷ v) (ended_twice l rest)
