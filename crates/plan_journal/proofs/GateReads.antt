-- What is read behind an open gate.
use Rattle.std.proofs.Common.{◌≡◌, refl, sym, ◌∙◌, ap, subst, inl, inr, ℕ, ◌+◌, ◌<◌, ◌^◌, Bool, true, false, ◌&&◌, not, List, [], ◌∷◌, length, drop, Option, None, arith}
use Rattle.std.specs.Prelude.{nat_le, is_some, ◌==◌}
use Rattle.std.proofs.lemmas.Bool.{and_parts, leb-true, cases_Bool, both_ways}
use Rattle.std.proofs.lemmas.List.{length-take, length-drop}
use Rattle.eon_model.specs.Events.{Event}
use Rattle.eon_model.specs.EventText.{event_text, is_event, room_for}
use Rattle.eon_model.specs.EventFault.{event_fault, EventFault}
use Rattle.eon_model.specs.JournalFault.{HasRecord, IsBadRecord, told_length, told_number, told_event, is_record_at}
use Rattle.eon_model.proofs.EventFields.{AreBytes}
use Rattle.eon_model.proofs.EventTextLaws.{event_text-unique}
use Rattle.eon_model.proofs.RecordLaws.{record-at, record-is}

-- ---- what the test asks

-- four tests in a row
abbrev all_of : Bool → Bool → Bool → Bool → Bool
all_of a b c d = ((a && b) && c) && d

module _ (behind : List ℕ) (room number : ℕ) where
  abbrev pub test : Bool
  test = is_record_at (1 ∷ behind) room 0 number

  abbrev fits : Bool
  fits = nat_le (told_length behind + 7) (length behind) && nat_le (told_length behind + 8) room

  abbrev numbered : Bool
  numbered = told_number behind == number

  abbrev told : Bool
  told = not (is_some (event_fault (told_event behind)))

  test-is : test ≡ ((fits && numbered) && told)
  test-is =
      let none : 0 + told_length behind ≡ told_length behind = omega arith in
      ap (λ (n : ℕ). ((nat_le (told_length behind + 7) (length behind) && nat_le (n + 8) room) && numbered) && told) none

third : (a b c : Bool) → c ≡ false → ((a && b) && c) ≡ false
third true true c h = h
third true false c h = refl
third false b c h = refl

second : (a b c : Bool) → b ≡ false → ((a && b) && c) ≡ false
second true b c h = ap (λ (v : Bool). v && c) h
second false b c h = refl

first : (a b c : Bool) → a ≡ false → ((a && b) && c) ≡ false
first a b c h = ap (λ (v : Bool). (v && b) && c) h

all_three : (a b c : Bool) → a ≡ true → b ≡ true → c ≡ true → ((a && b) && c) ≡ true
all_three a b c h k l = λ i. (h i && k i) && l i

pub not-whole : (behind : List ℕ) (room number : ℕ) →
    (nat_le (told_length behind + 7) (length behind) && nat_le (told_length behind + 8) room) ≡ false →
    test behind room number ≡ false
not-whole behind room number h =
    test-is behind room number ∙ first (fits behind room number) (numbered behind room number) (told behind room number) h

not_le : (n k : ℕ) → k < n → nat_le n k ≡ false
not_le n k l = elim (cases_Bool (nat_le n k)) [ inl h ↦ let m = leb-true n k h in absurd (omega arith) | inr h ↦ h ]

pub too-short : (behind : List ℕ) (room number : ℕ) → length behind < 7 → test behind room number ≡ false
too-short behind room number l = not-whole behind room number
    (ap (λ (v : Bool). v && nat_le (told_length behind + 8) room)
    (not_le (told_length behind + 7) (length behind) (omega arith)))

pub other-number : (behind : List ℕ) (room number : ℕ) → (told_number behind == number) ≡ false →
    test behind room number ≡ false
other-number behind room number h =
    test-is behind room number ∙ second (fits behind room number) (numbered behind room number) (told behind room number) h

pub no-event : (behind : List ℕ) (room number : ℕ) → is_some (event_fault (told_event behind)) ≡ true →
    test behind room number ≡ false
no-event behind room number h =
    test-is behind room number
    ∙ third (fits behind room number) (numbered behind room number) (told behind room number) (ap not h)

pub one-event : (behind : List ℕ) (room number : ℕ) →
    (nat_le (told_length behind + 7) (length behind) && nat_le (told_length behind + 8) room) ≡ true →
    (told_number behind == number) ≡ true → event_fault (told_event behind) ≡ None → test behind room number ≡ true
one-event behind room number h k l =
    test-is behind room number
    ∙ all_three (fits behind room number) (numbered behind room number) (told behind room number) h k
    (ap (λ (o : Option EventFault). not (is_some o)) l)

-- ---- what stands there

pub reads-record : (behind : List ℕ) (room number : ℕ) (e : Event) → AreBytes (1 ∷ behind) → number < 2 ^ 32 →
    test behind room number ≡ true → is_event e ≡ true → event_text e ≡ told_event behind →
    HasRecord (1 ∷ behind) room 0 number e
reads-record behind room number e small few h ok text =
    let r = record-at (1 ∷ behind) room 0 number small few h in
    let told = record-is (1 ∷ behind) room 0 number few r.0 r.1 in
    let same : r.0 ≡ e = event_text-unique r.0 e r.1.in_range ok (sym told.1 ∙ sym text) in
    subst (λ (v : Event). HasRecord (1 ∷ behind) room 0 number v) same r.1

-- and what it takes
pub taken_is : (behind : List ℕ) (room number : ℕ) (e : Event) → test behind room number ≡ true →
    event_text e ≡ told_event behind → (len : ℕ) → len ≡ told_length behind → len + 7 ≡ room_for e
taken_is behind room number e h text len is =
    let all = and_parts (fits behind room number && numbered behind room number) (told behind room number)
    (sym (test-is behind room number) ∙ h) in
    let both = and_parts (fits behind room number) (numbered behind room number) all.0 in
    let whole = and_parts (nat_le (told_length behind + 7) (length behind)) (nat_le (told_length behind + 8) room) both.0 in
    let there = leb-true (told_length behind + 7) (length behind) whole.0 in
    let long = ap length text in
    let a = length-take (told_length behind) (drop 6 behind) in
    let b = length-drop 6 behind in
    omega arith

pub reads-none : (behind : List ℕ) (room number : ℕ) → number < 2 ^ 32 → test behind room number ≡ false →
    IsBadRecord (1 ∷ behind) room 0 number
reads-none behind room number few h = record {
  gate = inr refl;
  none = λ e r. both_ways (test behind room number) h (record-is (1 ∷ behind) room 0 number few e r).0;
}

pub none-at_all : (room number : ℕ) → IsBadRecord [] room 0 number
none-at_all room number = record { gate = inl (omega arith); none = λ e r. let w = r.whole in absurd (omega arith) }
