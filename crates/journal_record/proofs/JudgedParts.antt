-- What reading answers, against the fields that are due: a value whose bytes stand in front, or the first fault.
use Rattle.std.proofs.Common.{◌≡◌, refl, sym, ◌∙◌, ap, subst, ℕ, zero, suc, ◌+◌, ◌<◌, ◌≤◌, Bool, true, false, cond, List, [], ◌∷◌, ◌++◌, length, take, drop, Option, Some, arith}
use Rattle.std.specs.Prelude.{nat_lt, Ok, Err}
use Rattle.std.proofs.lemmas.Bool.{ltb-false}
use Rattle.std.proofs.lemmas.List.{append_assoc, length-drop, take-append-drop}
use Rattle.eon_model.specs.EventFault.{Field, field_size, field_holds, fields_told, EventFault, FieldAt, fault_from}
use Rattle.eon_model.proofs.EventFields.{AreBytes, bytes_behind}
use Rattle.journal_record.specs.Reading.{Read, ◌>>=◌, field_at}

-- with more turns than bytes, this is the first fault of the fields in these bytes
abbrev pub Refuses : List Field → ℕ → List ℕ → EventFault → Type 0
Refuses fields at bytes e = (turns : ℕ) → length bytes < turns → fault_from turns at fields bytes ≡ Some e

-- a value with these bytes in front, and each fault behind it is one of the whole
pub record Well (fs gs : List Field) (Made : List ℕ → Type 0) (at : ℕ) (bytes : List ℕ) (after : ℕ) (rest : List ℕ) : Type 0 where
  pub front : List ℕ
  pub made : Made front
  pub whole : bytes ≡ front ++ rest
  pub small : AreBytes rest
  pub more : (fields : List Field) (e : EventFault) → Refuses (gs ++ fields) after rest e → Refuses (fs ++ fields) at bytes e

abbrev pub Judged : {A : Type 0} → List Field → (A → List Field) → (A → List ℕ → Type 0) → ℕ → List ℕ → Read A → Type 0
Judged fs gs Made at bytes (Ok p) = Well fs (gs p.0) (Made p.0) at bytes p.1.0 p.1.1
Judged fs gs Made at bytes (Err e) = (fields : List Field) → Refuses (fs ++ fields) at bytes e

-- one after the other
pub judged-then : {A B : Type 0} (fs hs : List Field) (gs : A → List Field) (ks : B → List Field)
    (MadeA : A → List ℕ → Type 0) (MadeB : B → List ℕ → Type 0) (at : ℕ) (bytes : List ℕ) (r : Read A)
    (g : A × (ℕ × List ℕ) → Read B) → Judged fs gs MadeA at bytes r →
    ((p : A × (ℕ × List ℕ)) (front : List ℕ) → MadeA p.0 front → AreBytes p.1.1 →
    Judged (gs p.0 ++ hs) ks (λ w v. MadeB w (front ++ v)) p.1.0 p.1.1 (g p)) →
    Judged (fs ++ hs) ks MadeB at bytes (r >>= g)
judged-then fs hs gs ks MadeA MadeB at bytes (Err e) g j k =
    λ fields. subst (λ (v : List Field). Refuses v at bytes e) (sym (append_assoc fs hs fields)) (j (hs ++ fields))
judged-then {A} {B} fs hs gs ks MadeA MadeB at bytes (Ok p) g j k = behind (g p) (k p j.front j.made j.small)
  where
    over : (fields : List Field) (e : EventFault) → Refuses ((gs p.0 ++ hs) ++ fields) p.1.0 p.1.1 e →
        Refuses ((fs ++ hs) ++ fields) at bytes e
    over fields e h =
        subst (λ (v : List Field). Refuses v at bytes e) (sym (append_assoc fs hs fields)) (j.more (hs ++ fields) e
        (subst (λ (v : List Field). Refuses v p.1.0 p.1.1 e) (append_assoc (gs p.0) hs fields) h))

    behind : (s : Read B) → Judged (gs p.0 ++ hs) ks (λ w v. MadeB w (j.front ++ v)) p.1.0 p.1.1 s →
        Judged (fs ++ hs) ks MadeB at bytes s
    behind (Err e) q = λ fields. over fields e (q fields)
    behind (Ok w) q = record {
      front = j.front ++ q.front;
      made = q.made;
      whole = j.whole ∙ ap (λ (v : List ℕ). j.front ++ v) q.whole ∙ sym (append_assoc j.front q.front w.1.1);
      small = q.small;
      more = λ fields e h. over fields e (q.more fields e h);
    }

-- nothing more is due
pub judged-end : {A : Type 0} (Made : A → List ℕ → Type 0) (at : ℕ) (bytes : List ℕ) (v : A) → AreBytes bytes →
    Made v [] → Judged [] (λ (w : A). []) Made at bytes (Ok (v, (at, bytes)))
judged-end Made at bytes v small made =
    record { front = []; made = made; whole = refl; small = small; more = λ fields e h. h }

-- one field
pub judged-field : {A : Type 0} (f : Field) (value : List ℕ → A) (gs : A → List Field) (Made : A → List ℕ → Type 0)
    (at : ℕ) (bytes : List ℕ) → AreBytes bytes → 1 ≤ field_size f bytes →
    (field_size f bytes ≤ length bytes → field_holds f (take (field_size f bytes) bytes) ≡ true →
    (fields_told f (take (field_size f bytes) bytes) ≡ gs (value (take (field_size f bytes) bytes)))
    × Made (value (take (field_size f bytes) bytes)) (take (field_size f bytes) bytes)) →
    Judged (f ∷ []) gs Made at bytes (field_at f value at bytes)
unfolding field_at
judged-field {A} f value gs Made at bytes small some told = by_size (nat_lt (length bytes) (field_size f bytes)) refl
  where
    tried : ℕ → List Field → Bool → Bool → Option EventFault
    tried turns fields c d = cond c (Some EventFault.Short) (cond d
        (fault_from turns (at + field_size f bytes) (fields_told f (take (field_size f bytes) bytes) ++ fields)
        (drop (field_size f bytes) bytes)) (Some (FieldAt at)))

    short : nat_lt (length bytes) (field_size f bytes) ≡ true → (fields : List Field) → Refuses (f ∷ fields) at bytes EventFault.Short
    short e fields zero h = absurd (omega arith)
    short e fields (suc turns) h = λ i. tried turns fields (e i) (field_holds f (take (field_size f bytes) bytes))

    refused : nat_lt (length bytes) (field_size f bytes) ≡ false → field_holds f (take (field_size f bytes) bytes) ≡ false →
        (fields : List Field) → Refuses (f ∷ fields) at bytes (FieldAt at)
    refused e d fields zero h = absurd (omega arith)
    refused e d fields (suc turns) h = λ i. tried turns fields (e i) (d i)

    goes : nat_lt (length bytes) (field_size f bytes) ≡ false → field_holds f (take (field_size f bytes) bytes) ≡ true →
        (fields : List Field) (x : EventFault) →
        Refuses (fields_told f (take (field_size f bytes) bytes) ++ fields) (at + field_size f bytes)
        (drop (field_size f bytes) bytes) x → Refuses (f ∷ fields) at bytes x
    goes e d fields x q zero h = absurd (omega arith)
    goes e d fields x q (suc turns) h =
        let l = ltb-false (length bytes) (field_size f bytes) e in
        let k = length-drop (field_size f bytes) bytes in
        (λ i. tried turns fields (e i) (d i)) ∙ q turns (omega arith)

    by_holds : (d : Bool) → nat_lt (length bytes) (field_size f bytes) ≡ false →
        field_holds f (take (field_size f bytes) bytes) ≡ d → Judged (f ∷ []) gs Made at bytes (cond d
        (Ok (value (take (field_size f bytes) bytes), (at + field_size f bytes, drop (field_size f bytes) bytes)))
        (Err (FieldAt at)))
    by_holds true e d =
        let l = ltb-false (length bytes) (field_size f bytes) e in
        let t = told l d in
        record {
          front = take (field_size f bytes) bytes;
          made = t.1;
          whole = sym (take-append-drop (field_size f bytes) bytes);
          small = bytes_behind (field_size f bytes) bytes small;
          more = λ fields x q. goes e d fields x (subst (λ (v : List Field). Refuses (v ++ fields)
              (at + field_size f bytes) (drop (field_size f bytes) bytes) x) (sym t.0) q);
        }
    by_holds false e d = refused e d

    by_size : (c : Bool) → nat_lt (length bytes) (field_size f bytes) ≡ c → Judged (f ∷ []) gs Made at bytes (cond c
        (Err EventFault.Short) (cond (field_holds f (take (field_size f bytes) bytes))
        (Ok (value (take (field_size f bytes) bytes), (at + field_size f bytes, drop (field_size f bytes) bytes)))
        (Err (FieldAt at))))
    by_size true e = short e
    by_size false e = by_holds (field_holds f (take (field_size f bytes) bytes)) e refl
