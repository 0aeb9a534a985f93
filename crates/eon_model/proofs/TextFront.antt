-- The lines at the front of a text pass.
use Rattle.std.proofs.Common.{◌≡◌, refl, ◌∙◌, ap, ℕ, Bool, true, false, cond, ◌&&◌, ◌||◌, not, List, [], ◌∷◌, ◌++◌, length, map, nat_le, Option, Some, arith}
use Rattle.std.specs.Prelude.{codes}
use Rattle.std.specs.Option.{option_and_then}
use Rattle.std.specs.Fmt.{decimal}
use Rattle.std.proofs.lemmas.Bool.{and_from, le-leb, leb-false}
use Rattle.eon_model.specs.Grid as grid
use Rattle.eon_model.specs.Legal.{Setup}
use Rattle.eon_model.specs.NetworkText.{version_of}
use Rattle.eon_model.specs.Numerals.{is_within, number_value}
use Rattle.eon_model.specs.NetworkFault as fault
use Rattle.eon_model.specs.NetworkFault.{Net, Band, Guard, K, Services, Journal, Word, Fields, has_word, word_spelled, field_at, last_word, may_stand_after, may_follow, lines_with, has_parts, band_lines}
use Rattle.eon_model.proofs.SetupFacts.{SetupFacts}
use Rattle.eon_model.proofs.NetworkTextLaws.{number_words, band_words}
use Rattle.eon_model.proofs.TextNumbers.{Spelled, number-spelled}
use Rattle.eon_model.proofs.TextCauses.{Passes, AllPass, AllPass-append}
use Rattle.eon_model.proofs.TextLists.{all-with, none-with, with-right, with-neither}
use Rattle.eon_model.proofs.TextLast.{last-push, stands-behind, each-passes}
use Rattle.eon_model.proofs.TextNetworks.{not_nil}
use Rattle.eon_model.proofs.TextBand.{net_line, version-told, one-version, part-passes, last_true}

-- ---- the lines

-- the lines of the version and the band
abbrev pub with_band : grid.Band → List Fields
with_band band = (net_line band ∷ []) ++ map band_words band

abbrev pub with_guard : Setup → List Fields
with_guard s = with_band s.band ++ number_words (codes "guard") s.guard ∷ []

abbrev pub with_k : Setup → List Fields
with_k s = with_guard s ++ number_words (codes "k") s.k ∷ []

abbrev pub with_services : Setup → List Fields
with_services s = with_k s ++ number_words (codes "services") s.services ∷ []

-- the lines before the formats
abbrev pub front : Setup → List Fields
front s = with_services s ++ number_words (codes "journal") s.journal ∷ []

one_number : {least most n : ℕ} → Spelled least most n → ((is_within least most (number_value (decimal n)) && true) && true) ≡ true
one_number s = last_true _ (last_true _ s.ranged)

-- ---- lines of one kind among them

module _ (s : Setup) (word : List ℕ) (net : lines_with (net_line s.band ∷ []) word ≡ []) where
  pub none-banded : ((p : grid.Units) → has_word word (band_words p) ≡ false) → lines_with (with_band s.band) word ≡ []
  none-banded band = with-neither word (net_line s.band ∷ []) (map band_words s.band) net (none-with word band_words band s.band)

  pub none-more : (lines : List Fields) (line : Fields) → lines_with lines word ≡ [] → lines_with (line ∷ []) word ≡ [] →
      lines_with (lines ++ line ∷ []) word ≡ []
  none-more lines line e f = with-neither word lines (line ∷ []) e f

-- lines of a kind that is none of these
pub front-none : (s : Setup) (word : List ℕ) → lines_with (net_line s.band ∷ []) word ≡ [] →
    ((p : grid.Units) → has_word word (band_words p) ≡ false) →
    lines_with (number_words (codes "guard") s.guard ∷ []) word ≡ [] →
    lines_with (number_words (codes "k") s.k ∷ []) word ≡ [] →
    lines_with (number_words (codes "services") s.services ∷ []) word ≡ [] →
    lines_with (number_words (codes "journal") s.journal ∷ []) word ≡ [] → lines_with (front s) word ≡ []
front-none s word net band guard k services journal =
    none-more s word net (with_services s) _ (none-more s word net (with_k s) _ (none-more s word net (with_guard s) _
    (none-more s word net (with_band s.band) _ (none-banded s word net band) guard) k) services) journal

-- the last of them
pub front-last : (s : Setup) → last_word (front s) ≡ Some Journal
front-last s = ap (λ (o : Option Fields). option_and_then (λ fields. word_spelled (field_at fields 0)) o)
    (last-push (with_services s) (number_words (codes "journal") s.journal))

-- ---- one line after another

after_line : (lines : List Fields) (line : Fields) (last w : Word) → word_spelled (field_at line 0) ≡ Some last →
    may_follow last w ≡ true → may_stand_after (last_word (lines ++ line ∷ [])) w ≡ true
after_line lines line last w e h =
    ap (λ (o : Option Fields). may_stand_after (option_and_then (λ fields. word_spelled (field_at fields 0)) o) w)
    (last-push lines line) ∙ ap (λ (o : Option Word). may_stand_after o w) e ∙ h

net_passes : (band : grid.Band) → is_within 1 2 (version_of band) ≡ true → Passes [] Net (net_line band)
net_passes band h = let n = number-spelled 1 2 (version_of band) (omega arith) h in record {
  word = refl;
  stands = refl;
  parts = refl;
  form = last_true _ n.spelled;
  ranges = one_number n;
  few = refl;
  ordered = refl;
  once = refl;
  known = refl;
  apart = refl;
  eighth = refl;
}

version_within : (band : grid.Band) → is_within 1 2 (version_of band) ≡ true
version_within band = by_test (nat_le (length band) 1)
  where
    by_test : (b : Bool) → is_within 1 2 (cond {A = ℕ} b 1 2) ≡ true
    by_test true = refl
    by_test false = refl

-- behind one part in version 1, and behind two or more in version 2
guard_parts : (band : grid.Band) → fault.has_its_parts (with_band band) Guard ≡ true
guard_parts band = by_test (nat_le 2 (length band)) refl
  where
    lines : band_lines (with_band band) ≡ map band_words band
    lines = with-right (codes "band") (net_line band ∷ []) (map band_words band) (map band_words band) refl
        (all-with (codes "band") band_words (λ x. refl) band)

    long : {X Y : Type 0} (f : X → Y) (xs : List X) → length (map f xs) ≡ length xs
    long f [] = refl
    long f (x ∷ xs) = let more = long f xs in omega arith

    by_test : (b : Bool) → nat_le 2 (length band) ≡ b →
        (not (has_parts (with_band band)) || nat_le 2 (length (band_lines (with_band band)))) ≡ true
    by_test true h =
        (λ i. not (has_parts (with_band band)) || nat_le 2 (length (lines i)))
        ∙ ap (λ n. not (has_parts (with_band band)) || nat_le 2 n) (long band_words band)
        ∙ ap (λ b. not (has_parts (with_band band)) || b) h ∙ any_true (not (has_parts (with_band band)))
      where
        any_true : (b : Bool) → (b || true) ≡ true
        any_true true = refl
        any_true false = refl
    by_test false h =
        ap (λ b. not b || nat_le 2 (length (band_lines (with_band band))))
        (version-told band (map band_words band) ∙ one-version band (let l = leb-false 2 (length band) h in omega arith))

guard_passes : (s : Setup) → SetupFacts s → Passes (with_band s.band) Guard (number_words (codes "guard") s.guard)
guard_passes s r = let n = number-spelled 0 64 s.guard (omega arith) (and_from (nat_le 0 s.guard) (nat_le s.guard 64) (le-leb 0 s.guard (omega arith)) r.guard_test) in record {
  word = refl;
  stands = stands-behind band_words Band (λ x. refl) Guard (net_line s.band ∷ []) s.band (not_nil _ s.band r.some_parts) refl;
  parts = guard_parts s.band;
  form = last_true _ n.spelled;
  ranges = one_number n;
  few = ap (λ (v : List Fields). nat_le 1 (length v)) (none-banded s (codes "guard") refl (λ x. refl));
  ordered = refl;
  once = refl;
  known = refl;
  apart = refl;
  eighth = refl;
}

k_passes : (s : Setup) → SetupFacts s → Passes (with_guard s) K (number_words (codes "k") s.k)
k_passes s r = let n = number-spelled 1 16 s.k (omega arith) r.k_test in record {
  word = refl;
  stands = after_line (with_band s.band) (number_words (codes "guard") s.guard) Guard K refl refl;
  parts = refl;
  form = last_true _ n.spelled;
  ranges = one_number n;
  few = ap (λ (v : List Fields). nat_le 1 (length v)) (none-more s (codes "k") refl (with_band s.band) _ (none-banded s (codes "k") refl (λ x. refl)) refl);
  ordered = refl;
  once = refl;
  known = refl;
  apart = refl;
  eighth = refl;
}

services_passes : (s : Setup) → SetupFacts s → Passes (with_k s) Services (number_words (codes "services") s.services)
services_passes s r = let n = number-spelled 1 4096 s.services (omega arith) r.services_test in record {
  word = refl;
  stands = after_line (with_guard s) (number_words (codes "k") s.k) K Services refl refl;
  parts = refl;
  form = last_true _ n.spelled;
  ranges = one_number n;
  few = ap (λ (v : List Fields). nat_le 1 (length v)) (none-more s (codes "services") refl (with_guard s) _ (none-more s (codes "services") refl (with_band s.band) _ (none-banded s (codes "services") refl (λ x. refl)) refl) refl);
  ordered = refl;
  once = refl;
  known = refl;
  apart = refl;
  eighth = refl;
}

journal_passes : (s : Setup) → SetupFacts s → Passes (with_services s) Journal (number_words (codes "journal") s.journal)
journal_passes s r = let n = number-spelled 4096 67108864 s.journal (omega arith) r.journal_test in record {
  word = refl;
  stands = after_line (with_k s) (number_words (codes "services") s.services) Services Journal refl refl;
  parts = refl;
  form = last_true _ n.spelled;
  ranges = one_number n;
  few = ap (λ (v : List Fields). nat_le 1 (length v)) (none-more s (codes "journal") refl (with_k s) _ (none-more s (codes "journal") refl (with_guard s) _ (none-more s (codes "journal") refl (with_band s.band) _ (none-banded s (codes "journal") refl (λ x. refl)) refl) refl) refl);
  ordered = refl;
  once = refl;
  known = refl;
  apart = refl;
  eighth = refl;
}

band_passes : (s : Setup) → SetupFacts s → AllPass (net_line s.band ∷ []) (map band_words s.band)
band_passes s r = each-passes band_words (net_line s.band ∷ []) s.band λ before part after e.
    (Band, part-passes s.band before part after e r.band r.few_parts r.wide)

pub front-passes : (s : Setup) → SetupFacts s → AllPass [] (front s)
front-passes s r =
    AllPass-append [] (with_services s) (number_words (codes "journal") s.journal ∷ [])
    (AllPass-append [] (with_k s) (number_words (codes "services") s.services ∷ [])
    (AllPass-append [] (with_guard s) (number_words (codes "k") s.k ∷ [])
    (AllPass-append [] (with_band s.band) (number_words (codes "guard") s.guard ∷ [])
    (AllPass-append [] (net_line s.band ∷ []) (map band_words s.band)
    ((Net, net_passes s.band (version_within s.band)), tt) (band_passes s r))
    ((Guard, guard_passes s r), tt)) ((K, k_passes s r), tt)) ((Services, services_passes s r), tt))
    ((Journal, journal_passes s r), tt)
