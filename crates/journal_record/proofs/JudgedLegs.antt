-- Paths and legs, as they are read.
use Rattle.std.proofs.Common.{◌≡◌, refl, sym, ◌∙◌, ap, subst, ℕ, true, ◌&&◌, List, [], ◌∷◌, ◌++◌, replicate, Option, Some, None}
use Rattle.std.specs.Prelude.{nat_le, Ok}
use Rattle.std.specs.Option.{option_to_list}
use Rattle.std.specs.List.{flat_map}
use Rattle.std.proofs.lemmas.Bool.{and_from}
use Rattle.std.proofs.lemmas.List.{append-nil}
use Rattle.eon_model.specs.declared.Class.{Class}
use Rattle.eon_model.specs.declared.Class.TheVariants.{Bare, Shared, Dual}
use Rattle.eon_model.specs.Grid.{Slot}
use Rattle.eon_model.specs.Events.{PathText, LegText}
use Rattle.eon_model.specs.EventText.{slot_text, path_text, is_path_text, is_leg_text, has_backup_for}
use Rattle.eon_model.specs.EventFault.{CountField, FibreField, SlotField, path_fields}
use Rattle.eon_model.proofs.EventFields.{AreBytes, few_fibres}
use Rattle.journal_record.specs.Reading.{◌>>=◌, field_at, fibres_at, one_byte, slot_in, path_at, some_path_at, back_at, leg_at}
use Rattle.journal_record.proofs.JudgedParts.{Judged, judged-then, judged-end}
use Rattle.journal_record.proofs.JudgedFields.{nothing_due, CountMade, fibres_due, judged-count, SlotMade, judged-slot, paths_due}
use Rattle.journal_record.proofs.JudgedFibres.{FibresMade, judged-fibres}

-- ---- a path

abbrev pub PathMade : PathText → List ℕ → Type 0
PathMade p v = (is_path_text p ≡ true) × (v ≡ path_text p)

path_made : (k : ℕ) (fibres : List ℕ) (s : Slot) (a b c : List ℕ) → CountMade k a → FibresMade k fibres b →
    SlotMade s c → PathMade (record { fibres = fibres; slot = s }) (a ++ (b ++ (c ++ [])))
path_made k fibres s a b c p q r = (
  and_from _ _ (and_from _ _
      (subst (λ (n : ℕ). (nat_le 1 n && nat_le n 63) ≡ true) (sym q.0) (few_fibres k p.0)) q.1.0) r.0,
  (λ i. p.1 i ++ (q.1.1 i ++ (r.1 i ++ [])))
      ∙ ap (λ (v : List ℕ). k ∷ fibres ++ v) (append-nil (slot_text s))
      ∙ ap (λ (n : ℕ). n ∷ fibres ++ slot_text s) (sym q.0),
)

pub judged-path : (at : ℕ) (bytes : List ℕ) → AreBytes bytes →
    Judged path_fields nothing_due PathMade at bytes (path_at at bytes)
unfolding path_at
judged-path at bytes small =
    judged-then (CountField ∷ []) (SlotField ∷ []) fibres_due nothing_due CountMade PathMade at bytes
    (field_at CountField one_byte at bytes)
    (λ count. fibres_at count.0 count.1.0 count.1.1 >>= (λ fibres.
    field_at SlotField slot_in fibres.1.0 fibres.1.1 >>= (λ slot.
    Ok (record { fibres = fibres.0; slot = slot.0 }, slot.1))))
    (judged-count at bytes small)
    (λ count a made_a small_a.
    judged-then (replicate count.0 FibreField) (SlotField ∷ []) nothing_due nothing_due (FibresMade count.0)
    (λ w v. PathMade w (a ++ v)) count.1.0 count.1.1 (fibres_at count.0 count.1.0 count.1.1)
    (λ fibres. field_at SlotField slot_in fibres.1.0 fibres.1.1 >>= (λ slot.
    Ok (record { fibres = fibres.0; slot = slot.0 }, slot.1)))
    (judged-fibres count.0 count.1.0 count.1.1 small_a)
    (λ fibres b made_b small_b.
    judged-then (SlotField ∷ []) [] nothing_due nothing_due SlotMade (λ w v. PathMade w (a ++ (b ++ v)))
    fibres.1.0 fibres.1.1 (field_at SlotField slot_in fibres.1.0 fibres.1.1)
    (λ slot. Ok (record { fibres = fibres.0; slot = slot.0 }, slot.1))
    (judged-slot fibres.1.0 fibres.1.1 small_b)
    (λ slot c made_c small_c.
    judged-end (λ w v. PathMade w (a ++ (b ++ (c ++ v)))) slot.1.0 slot.1.1
    (record { fibres = fibres.0; slot = slot.0 }) small_c
    (path_made count.0 fibres.0 slot.0 a b c made_a made_b made_c))))

-- ---- a leg

abbrev pub LegMade : Class → LegText → List ℕ → Type 0
LegMade class l v =
    (is_leg_text l ≡ true) × ((has_backup_for class l.back ≡ true)
    × (v ≡ path_text l.work ++ flat_map path_text (option_to_list l.back)))

abbrev BackMade : Option PathText → List ℕ → Type 0
BackMade (Some p) v = PathMade p v
BackMade None v = ⊥

judged-some : (at : ℕ) (bytes : List ℕ) → AreBytes bytes →
    Judged path_fields nothing_due BackMade at bytes (some_path_at at bytes)
judged-some at bytes small =
    judged-then path_fields [] nothing_due nothing_due PathMade BackMade at bytes (path_at at bytes)
    (λ p. Ok (Some p.0, p.1)) (judged-path at bytes small)
    (λ p a made_a small_a.
    judged-end (λ w v. BackMade w (a ++ v)) p.1.0 p.1.1 (Some p.0) small_a
    (made_a.0, append-nil a ∙ made_a.1))

two_made : (class : Class) (work : PathText) (o : Option PathText) (a b : List ℕ) →
    ((back : PathText) → has_backup_for class (Some back) ≡ true) → PathMade work a → BackMade o b →
    LegMade class (record { work = work; back = o }) (a ++ (b ++ []))
two_made class work (Some back) a b h p q = (
  and_from _ _ p.0 q.0,
  (h back, λ i. p.1 i ++ (q.1 i ++ [])),
)
two_made class work None a b h p q = absurd q

judged-two : (class : Class) (at : ℕ) (bytes : List ℕ) → ((back : PathText) → has_backup_for class (Some back) ≡ true) →
    AreBytes bytes → Judged (path_fields ++ path_fields) nothing_due (LegMade class) at bytes
    (path_at at bytes >>= (λ work. some_path_at work.1.0 work.1.1 >>= (λ back.
    Ok (record { work = work.0; back = back.0 }, back.1))))
judged-two class at bytes h small =
    judged-then path_fields path_fields nothing_due nothing_due PathMade (LegMade class) at bytes (path_at at bytes)
    (λ work. some_path_at work.1.0 work.1.1 >>= (λ back. Ok (record { work = work.0; back = back.0 }, back.1)))
    (judged-path at bytes small)
    (λ work a made_a small_a.
    judged-then path_fields [] nothing_due nothing_due BackMade (λ w v. LegMade class w (a ++ v))
    work.1.0 work.1.1 (some_path_at work.1.0 work.1.1)
    (λ back. Ok (record { work = work.0; back = back.0 }, back.1)) (judged-some work.1.0 work.1.1 small_a)
    (λ back b made_b small_b.
    judged-end (λ w v. LegMade class w (a ++ (b ++ v))) back.1.0 back.1.1
    (record { work = work.0; back = back.0 }) small_b
    (two_made class work.0 back.0 a b h made_a made_b)))

pub judged-leg : (class : Class) (at : ℕ) (bytes : List ℕ) → AreBytes bytes →
    Judged (paths_due class) nothing_due (LegMade class) at bytes (leg_at class at bytes)
unfolding leg_at back_at
judged-leg Bare at bytes small =
    judged-then path_fields [] nothing_due nothing_due PathMade (LegMade Bare) at bytes (path_at at bytes)
    (λ work. Ok (record { work = work.0; back = None }, work.1)) (judged-path at bytes small)
    (λ work a made_a small_a.
    judged-end (λ w v. LegMade Bare w (a ++ v)) work.1.0 work.1.1 (record { work = work.0; back = None }) small_a
    (made_a.0, (refl, λ i. made_a.1 i ++ [])))
judged-leg Shared at bytes small = judged-two Shared at bytes (λ back. refl) small
judged-leg Dual at bytes small = judged-two Dual at bytes (λ back. refl) small
