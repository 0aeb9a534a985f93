-- Each field of an event, as it is read.
use Rattle.std.proofs.Common.{◌≡◌, refl, sym, ◌∙◌, ap, subst, ℕ, zero, suc, ◌+◌, ◌≤◌, ℤ, true, not, ◌&&◌, List, [], ◌∷◌, ◌++◌, length, take, drop, replicate, arith}
use Rattle.std.specs.Prelude.{nat_lt, ◌==◌, slice_index, if◌then◌else◌}
use Rattle.std.specs.List.{list_all}
use Rattle.std.specs.Int.{w32, to_be_bytes, from_be_bytes}
use Rattle.std.proofs.lemmas.Bool.{and_parts, and_from, ltb-true, eq-eqb}
use Rattle.eon_model.specs.declared.Class.{Class}
use Rattle.eon_model.specs.declared.Class.TheVariants.{Bare, Shared, Dual}
use Rattle.eon_model.specs.Grid.{Slot, is_slot}
use Rattle.eon_model.specs.Names.{Name, is_name}
use Rattle.eon_model.specs.CommandText.{is_rate, is_centre}
use Rattle.eon_model.specs.EventText.{name_text, signed_text, slot_text, class_flag, is_digest}
use Rattle.eon_model.specs.EventFault.{Field, NameField, NodeField, RateField, CentreField, FlagField, CountField, FibreField, SlotField, DigestField, path_fields}
use Rattle.eon_model.proofs.EventFields.{AreBytes, length_taken, two_back, four_back, two_signed, is_byte}
use Rattle.journal_record.specs.Reading.{field_at, one_byte, name_in, rate_in, centre_in, class_of_flag, class_in, slot_in, whole_in}
use Rattle.journal_record.proofs.JudgedParts.{Judged, judged-field}

abbrev pub nothing_due : {A : Type 0} → A → List Field
nothing_due v = []

-- ---- bytes in front

bytes_taken : (k : ℕ) (bytes : List ℕ) → AreBytes bytes → AreBytes (take k bytes)
bytes_taken zero [] h = refl
bytes_taken zero (b ∷ bytes) h = refl
bytes_taken (suc k) [] h = refl
bytes_taken (suc k) (b ∷ bytes) h =
    let p = and_parts (nat_lt b 256) (list_all (λ c. nat_lt c 256) bytes) h in
    and_from _ _ p.0 (bytes_taken k bytes p.1)

byte_front : (bytes : List ℕ) → 1 ≤ length bytes → take 1 bytes ≡ slice_index (take 1 bytes) 0 ∷ []
byte_front [] l = absurd (omega arith)
byte_front (b ∷ bytes) l = refl

name_front : (bytes : List ℕ) → 1 + slice_index bytes 0 ≤ length bytes →
    take (1 + slice_index bytes 0) bytes ≡ name_text (drop 1 (take (1 + slice_index bytes 0) bytes))
name_front [] l = absurd (omega arith)
name_front (k ∷ bytes) l =
    let one : suc k ≡ 1 + k = omega arith in
    subst (λ (j : ℕ). take j (k ∷ bytes) ≡ name_text (drop 1 (take j (k ∷ bytes)))) one
    (ap (λ (j : ℕ). j ∷ take k bytes) (sym (length_taken k bytes (omega arith))))

four_whole : (w : List ℕ) → length w ≡ 4 → AreBytes w → to_be_bytes w32 (from_be_bytes w32 w) ≡ w
four_whole [] e h = absurd (omega arith)
four_whole (a ∷ []) e h = absurd (omega arith)
four_whole (a ∷ b ∷ []) e h = absurd (omega arith)
four_whole (a ∷ b ∷ c ∷ []) e h = absurd (omega arith)
four_whole (a ∷ b ∷ c ∷ d ∷ []) e h =
    let p = and_parts (nat_lt a 256) (list_all (λ x. nat_lt x 256) (b ∷ c ∷ d ∷ [])) h in
    let q = and_parts (nat_lt b 256) (list_all (λ x. nat_lt x 256) (c ∷ d ∷ [])) p.1 in
    let r = and_parts (nat_lt c 256) (list_all (λ x. nat_lt x 256) (d ∷ [])) q.1 in
    let s = and_parts (nat_lt d 256) true r.1 in
    four_back a b c d (is_byte a p.0) (is_byte b q.0) (is_byte c r.0) (is_byte d s.0)
four_whole (a ∷ b ∷ c ∷ d ∷ f ∷ w) e h = absurd (omega arith)

centre_whole : (w : List ℕ) → length w ≡ 2 → AreBytes w → signed_text (centre_in w) ≡ w
centre_whole [] e h = absurd (omega arith)
centre_whole (a ∷ []) e h = absurd (omega arith)
centre_whole (a ∷ b ∷ []) e h =
    let p = and_parts (nat_lt a 256) (list_all (λ x. nat_lt x 256) (b ∷ [])) h in
    let q = and_parts (nat_lt b 256) true p.1 in
    two_signed a b (is_byte a p.0) (is_byte b q.0)
centre_whole (a ∷ b ∷ c ∷ w) e h = absurd (omega arith)

slot_whole : (w : List ℕ) → length w ≡ 4 → AreBytes w → slot_text (slot_in w) ≡ w
slot_whole [] e h = absurd (omega arith)
slot_whole (a ∷ []) e h = absurd (omega arith)
slot_whole (a ∷ b ∷ []) e h = absurd (omega arith)
slot_whole (a ∷ b ∷ c ∷ []) e h = absurd (omega arith)
slot_whole (a ∷ b ∷ c ∷ d ∷ []) e h =
    let p = and_parts (nat_lt a 256) (list_all (λ x. nat_lt x 256) (b ∷ c ∷ d ∷ [])) h in
    let q = and_parts (nat_lt b 256) (list_all (λ x. nat_lt x 256) (c ∷ d ∷ [])) p.1 in
    let r = and_parts (nat_lt c 256) (list_all (λ x. nat_lt x 256) (d ∷ [])) q.1 in
    let s = and_parts (nat_lt d 256) true r.1 in
    λ i. two_signed a b (is_byte a p.0) (is_byte b q.0) i ++ two_back c d (is_byte c r.0) (is_byte d s.0) i
slot_whole (a ∷ b ∷ c ∷ d ∷ f ∷ w) e h = absurd (omega arith)

-- ---- what is read of each

abbrev pub NameMade : Name → List ℕ → Type 0
NameMade name v = (is_name name ≡ true) × (v ≡ name_text name)

pub judged-name : (at : ℕ) (bytes : List ℕ) → AreBytes bytes →
    Judged (NameField ∷ []) nothing_due NameMade at bytes (field_at NameField name_in at bytes)
judged-name at bytes small =
    judged-field NameField name_in nothing_due NameMade at bytes small (omega arith)
    (λ l h. (refl, (h, name_front bytes l)))

abbrev pub NodeMade : ℕ → List ℕ → Type 0
NodeMade node v = (nat_lt node 64 ≡ true) × (v ≡ node ∷ [])

pub judged-node : (at : ℕ) (bytes : List ℕ) → AreBytes bytes →
    Judged (NodeField ∷ []) nothing_due NodeMade at bytes (field_at NodeField one_byte at bytes)
judged-node at bytes small =
    judged-field NodeField one_byte nothing_due NodeMade at bytes small (omega arith)
    (λ l h. (refl, (h, byte_front bytes l)))

abbrev pub RateMade : ℕ → List ℕ → Type 0
RateMade rate v = (is_rate rate ≡ true) × (v ≡ to_be_bytes w32 rate)

pub judged-rate : (at : ℕ) (bytes : List ℕ) → AreBytes bytes →
    Judged (RateField ∷ []) nothing_due RateMade at bytes (field_at RateField rate_in at bytes)
judged-rate at bytes small =
    judged-field RateField rate_in nothing_due RateMade at bytes small (omega arith)
    (λ l h. (refl, (h, sym (four_whole (take 4 bytes) (length_taken 4 bytes l) (bytes_taken 4 bytes small)))))

abbrev pub CentreMade : ℤ → List ℕ → Type 0
CentreMade n v = (is_centre n ≡ true) × (v ≡ signed_text n)

pub judged-centre : (at : ℕ) (bytes : List ℕ) → AreBytes bytes →
    Judged (CentreField ∷ []) nothing_due CentreMade at bytes (field_at CentreField centre_in at bytes)
judged-centre at bytes small =
    judged-field CentreField centre_in nothing_due CentreMade at bytes small (omega arith)
    (λ l h. (refl, (h, sym (centre_whole (take 2 bytes) (length_taken 2 bytes l) (bytes_taken 2 bytes small)))))

-- the paths that a class has
abbrev pub paths_due : Class → List Field
paths_due Bare = path_fields
paths_due Shared = path_fields ++ path_fields
paths_due Dual = path_fields ++ path_fields

abbrev pub FlagMade : Class → List ℕ → Type 0
FlagMade class v = v ≡ class_flag class ∷ []

flag_told : (n : ℕ) → nat_lt n 3 ≡ true →
    ((if n == 0 then path_fields else path_fields ++ path_fields) ≡ paths_due (class_of_flag n))
    × (n ≡ class_flag (class_of_flag n))
flag_told zero h = (refl, refl)
flag_told (suc zero) h = (refl, refl)
flag_told (suc (suc zero)) h = (refl, refl)
flag_told (suc (suc (suc n))) h = let l = ltb-true (suc (suc (suc n))) 3 h in absurd (omega arith)

pub judged-class : (at : ℕ) (bytes : List ℕ) → AreBytes bytes →
    Judged (FlagField ∷ []) paths_due FlagMade at bytes (field_at FlagField class_in at bytes)
judged-class at bytes small =
    judged-field FlagField class_in paths_due FlagMade at bytes small (omega arith)
    (λ l h. let t = flag_told (slice_index (take 1 bytes) 0) h in
    (t.0, byte_front bytes l ∙ ap (λ (n : ℕ). n ∷ []) t.1))

abbrev pub CountMade : ℕ → List ℕ → Type 0
CountMade k v = ((not (k == 0) && nat_lt k 64) ≡ true) × (v ≡ k ∷ [])

abbrev pub fibres_due : ℕ → List Field
fibres_due k = replicate k FibreField

pub judged-count : (at : ℕ) (bytes : List ℕ) → AreBytes bytes →
    Judged (CountField ∷ []) fibres_due CountMade at bytes (field_at CountField one_byte at bytes)
judged-count at bytes small =
    judged-field CountField one_byte fibres_due CountMade at bytes small (omega arith)
    (λ l h. (refl, (h, byte_front bytes l)))

abbrev pub SlotMade : Slot → List ℕ → Type 0
SlotMade s v = (is_slot s ≡ true) × (v ≡ slot_text s)

pub judged-slot : (at : ℕ) (bytes : List ℕ) → AreBytes bytes →
    Judged (SlotField ∷ []) nothing_due SlotMade at bytes (field_at SlotField slot_in at bytes)
judged-slot at bytes small =
    judged-field SlotField slot_in nothing_due SlotMade at bytes small (omega arith)
    (λ l h. (refl, (h, sym (slot_whole (take 4 bytes) (length_taken 4 bytes l) (bytes_taken 4 bytes small)))))

abbrev pub DigestMade : List ℕ → List ℕ → Type 0
DigestMade digest v = (is_digest digest ≡ true) × (v ≡ digest)

pub judged-digest : (at : ℕ) (bytes : List ℕ) → AreBytes bytes →
    Judged (DigestField ∷ []) nothing_due DigestMade at bytes (field_at DigestField whole_in at bytes)
judged-digest at bytes small =
    judged-field DigestField whole_in nothing_due DigestMade at bytes small (omega arith)
    (λ l h. (refl, (and_from _ _ (eq-eqb (length (take 32 bytes)) 32 (length_taken 32 bytes l)) (bytes_taken 32 bytes small), refl)))
