-- The fibres of a path, as they are read.
use Rattle.std.proofs.Common.{◌≡◌, refl, sym, ◌∙◌, ap, subst, ℕ, zero, suc, ◌+◌, ◌<◌, ◌≤◌, Bool, true, false, cond, not, List, [], ◌∷◌, ◌++◌, length, take, drop, replicate, Option, Some, None, arith}
use Rattle.std.specs.Prelude.{nat_lt, is_none, position, Ok, Err}
use Rattle.std.specs.List.{list_all, position_from}
use Rattle.std.proofs.lemmas.Bool.{and_parts, ltb-true, ltb-false, false_from_ne_true}
use Rattle.std.proofs.lemmas.List.{take-append-drop}
use Rattle.std.proofs.lemmas.Iterator.Adapters.{position_from-zero}
use Rattle.eon_base.proofs.NameLemmas.{none_fails}
use Rattle.eon_model.specs.EventFault.{Field, FibreField, EventFault, FieldAt, fault_from}
use Rattle.eon_model.proofs.EventFields.{AreBytes, bytes_behind, length_taken}
use Rattle.journal_record.specs.Reading.{fibres_but, fibres_at}
use Rattle.journal_record.proofs.JudgedParts.{Refuses, Judged}
use Rattle.journal_record.proofs.JudgedFields.{nothing_due}

-- the bytes have one byte at least
one_there : (b : ℕ) (bytes : List ℕ) → nat_lt (length (b ∷ bytes)) 1 ≡ false
one_there b bytes = false_from_ne_true _ (λ t. let l = ltb-true (length (b ∷ bytes)) 1 t in absurd (omega arith))

-- a fault behind a fibre
known_first : (fields : List Field) (at b : ℕ) (bytes : List ℕ) (x : EventFault) → nat_lt b 128 ≡ true →
    Refuses fields (at + 1) bytes x → Refuses (FibreField ∷ fields) at (b ∷ bytes) x
known_first fields at b bytes x e q zero h = absurd (omega arith)
known_first fields at b bytes x e q (suc turns) h =
    (λ i. cond (one_there b bytes i) (Some EventFault.Short)
    (cond (e i) (fault_from turns (at + 1) fields bytes) (Some (FieldAt at)))) ∙ q turns (omega arith)

-- a number that no fibre has
unknown_first : (fields : List Field) (at b : ℕ) (bytes : List ℕ) → nat_lt b 128 ≡ false →
    Refuses (FibreField ∷ fields) at (b ∷ bytes) (FieldAt at)
unknown_first fields at b bytes e zero h = absurd (omega arith)
unknown_first fields at b bytes e (suc turns) h =
    λ i. cond (one_there b bytes i) (Some EventFault.Short)
    (cond (e i) (fault_from turns (at + 1) fields bytes) (Some (FieldAt at)))

-- no byte is left
none_first : (fields : List Field) (at : ℕ) → Refuses (FibreField ∷ fields) at [] EventFault.Short
none_first fields at zero h = absurd (omega arith)
none_first fields at (suc turns) h = refl

abbrev unknown : ℕ → Bool
unknown b = not (nat_lt b 128)

-- the first that is out of range
unknown_at : (count i base at : ℕ) (bytes : List ℕ) (k : ℕ) → position_from unknown i (take count bytes) ≡ Some k →
    base + i ≡ at → (fields : List Field) → Refuses (replicate count FibreField ++ fields) at bytes (FieldAt (base + k))
unknown_at zero i base at [] k e s fields = cc
unknown_at zero i base at (b ∷ bytes) k e s fields = cc
unknown_at (suc count) i base at [] k e s fields = cc
unknown_at (suc count) i base at (b ∷ bytes) k e s fields =
    by_first (λ behind. unknown_at count (i + 1) base (at + 1) bytes k behind (omega arith) fields) (nat_lt b 128) refl e
  where
    by_first : (position_from unknown (i + 1) (take count bytes) ≡ Some k →
        Refuses (replicate count FibreField ++ fields) (at + 1) bytes (FieldAt (base + k))) →
        (c : Bool) → nat_lt b 128 ≡ c →
        cond (not c) (Some i) (position_from unknown (i + 1) (take count bytes)) ≡ Some k →
        Refuses (FibreField ∷ (replicate count FibreField ++ fields)) at (b ∷ bytes) (FieldAt (base + k))
    by_first more true c e =
        known_first (replicate count FibreField ++ fields) at b bytes (FieldAt (base + k)) c (more e)
    by_first more false c e =
        let same : i ≡ k = cc in
        subst (λ (n : ℕ). Refuses (FibreField ∷ (replicate count FibreField ++ fields)) at (b ∷ bytes) (FieldAt n))
        (sym s ∙ ap (λ (j : ℕ). base + j) same)
        (unknown_first (replicate count FibreField ++ fields) at b bytes c)

-- too few
too_few : (count at : ℕ) (bytes : List ℕ) → list_all (λ b. nat_lt b 128) (take count bytes) ≡ true →
    length bytes < count → (fields : List Field) → Refuses (replicate count FibreField ++ fields) at bytes EventFault.Short
too_few zero at bytes h l fields = absurd (omega arith)
too_few (suc count) at [] h l fields = none_first (replicate count FibreField ++ fields) at
too_few (suc count) at (b ∷ bytes) h l fields =
    let p = and_parts (nat_lt b 128) (list_all (λ c. nat_lt c 128) (take count bytes)) h in
    known_first (replicate count FibreField ++ fields) at b bytes EventFault.Short p.0
    (too_few count (at + 1) bytes p.1 (omega arith) fields)

-- a fault behind them
fault_behind : (count at : ℕ) (bytes : List ℕ) → list_all (λ b. nat_lt b 128) (take count bytes) ≡ true →
    count ≤ length bytes → (fields : List Field) (x : EventFault) → Refuses fields (at + count) (drop count bytes) x →
    Refuses (replicate count FibreField ++ fields) at bytes x
fault_behind zero at [] h l fields x q = subst (λ (n : ℕ). Refuses fields n [] x) (omega arith) q
fault_behind zero at (b ∷ bytes) h l fields x q = subst (λ (n : ℕ). Refuses fields n (b ∷ bytes) x) (omega arith) q
fault_behind (suc count) at [] h l fields x q = absurd (omega arith)
fault_behind (suc count) at (b ∷ bytes) h l fields x q =
    let p = and_parts (nat_lt b 128) (list_all (λ c. nat_lt c 128) (take count bytes)) h in
    let further : at + suc count ≡ (at + 1) + count = omega arith in
    known_first (replicate count FibreField ++ fields) at b bytes x p.0
    (fault_behind count (at + 1) bytes p.1 (omega arith) fields x
    (subst (λ (n : ℕ). Refuses fields n (drop count bytes) x) further q))

abbrev pub FibresMade : ℕ → List ℕ → List ℕ → Type 0
FibresMade count fibres v =
    (length fibres ≡ count) × ((list_all (λ b. nat_lt b 128) fibres ≡ true) × (v ≡ fibres))

pub judged-fibres : (count at : ℕ) (bytes : List ℕ) → AreBytes bytes →
    Judged (replicate count FibreField) nothing_due (FibresMade count) at bytes (fibres_at count at bytes)
unfolding fibres_at
judged-fibres count at bytes small = by_first (position unknown (take count bytes)) refl
  where
    by_length : (c : Bool) → nat_lt (length bytes) count ≡ c →
        list_all (λ b. nat_lt b 128) (take count bytes) ≡ true →
        Judged (replicate count FibreField) nothing_due (FibresMade count) at bytes
        (cond c (Err EventFault.Short) (Ok (take count bytes, (at + count, drop count bytes))))
    by_length true e known = too_few count at bytes known (ltb-true (length bytes) count e)
    by_length false e known =
        let l = ltb-false (length bytes) count e in
        record {
          front = take count bytes;
          made = (length_taken count bytes l, (known, refl));
          whole = sym (take-append-drop count bytes);
          small = bytes_behind count bytes small;
          more = fault_behind count at bytes known l;
        }

    by_first : (o : Option ℕ) → position unknown (take count bytes) ≡ o →
        Judged (replicate count FibreField) nothing_due (FibresMade count) at bytes (fibres_but o count at bytes)
    by_first (Some k) e =
        unknown_at count 0 at at bytes k (sym (position_from-zero unknown (take count bytes)) ∙ e) (omega arith)
    by_first None e =
        by_length (nat_lt (length bytes) count) refl
        (sym (none_fails (λ b. nat_lt b 128) (take count bytes)) ∙ ap is_none e)
