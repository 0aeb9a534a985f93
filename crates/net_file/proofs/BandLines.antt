-- What the lines before say of the band: its parts, and whether there may be more.
use Rattle.std.proofs.Common.{◌≡◌, refl, sym, ◌∙◌, ap, ℕ, zero, suc, ◌<◌, ◌≤◌, ℤ, pos, ◌+ℤ◌, true, false, ◌&&◌, ◌||◌, not, List, [], ◌∷◌, ◌++◌, length, map, nat_le, nat_eq, Option, Some, None, arith}
use Rattle.std.specs.Prelude.{int_le}
use Rattle.std.specs.Option.{is_none, option_map_or, unwrap_or}
use Rattle.std.specs.List.{list_all}
use Rattle.std.proofs.lemmas.Bool.{and_parts, both_ways, leb-true, ne_eqb}
use Rattle.eon_model.specs.Grid.{Units, Band, is_units, is_band, span_of}
use Rattle.eon_model.specs.Numerals.{is_within}
use Rattle.eon_model.specs.NetworkFault as model
use Rattle.eon_model.specs.NetworkFault.{Word, Fields, Net, Guard, K, Services, Journal, Node, End, last_word, last_fields, first_fields, may_stand_after, has_parts, band_lines, least_unit, greatest_unit}
use Rattle.eon_model.proofs.BandLaws.{band-parts}
use Rattle.eon_model.proofs.SpellingLaws.{number_value-decimal}
use Rattle.net_file.specs.Steps.{SoFar, Sheet, parts_of, has_its_parts, may_come}
use Rattle.net_file.specs.Drafts.{part_line_words, head_at, lines_at, lines_of, rank, BandSoFar, Sound}
use Rattle.net_file.proofs.LineLists.{parts_with}
use Rattle.net_file.proofs.LineGrowth.{head_lines}
use Rattle.std.proofs.lemmas.List.{length-map}
use Rattle.eon_model.proofs.TextNumbers.{least-read, greatest-read}

-- ---- what the lines before say

abbrev pub GoodBand : Option Band → Type 0
GoodBand None = Unit {0}
GoodBand (Some band) = is_band band ≡ true

-- the version and the band that the lines tell
pub record Before (earlier : List Fields) (version : ℕ) (band : Option Band) : Type 0 where
  pub many : has_parts earlier ≡ nat_eq version 2
  pub lines : band_lines earlier ≡ map part_line_words (parts_of band)
  pub good : GoodBand band

good_band : (far version : ℕ) (band : Option Band) → BandSoFar far version band → GoodBand band
good_band far version None h = tt
good_band far version (Some band) h = h.good

version_told : (far : ℕ) (s : SoFar) → is_within 1 2 s.version ≡ true → (far < 1 → s.version ≡ 1) →
    (far < 1 → lines_at far s ≡ []) → has_parts (lines_at far s) ≡ nat_eq s.version 2
unfolding lines_at
version_told zero s w one none =
    ap has_parts (none (omega arith)) ∙ sym (ap (λ n. nat_eq n 2) (one (omega arith)))
version_told (suc far) s w one none =
    let most = leb-true s.version 2 (and_parts (nat_le 1 s.version) (nat_le s.version 2) w).1 in
    ap (λ n. nat_eq n 2) (number_value-decimal s.version (omega arith))

pub no-parts : (far version : ℕ) (band : Option Band) → BandSoFar far version band → far < 1 → parts_of band ≡ []
no-parts far version None h l = refl
no-parts far version (Some band) h l = let r = h.reached in absurd (omega arith)

nothing_yet : (far : ℕ) (s : SoFar) → far < 1 → lines_at far s ≡ head_at far s → parts_of s.band ≡ [] →
    lines_at far s ≡ []
nothing_yet zero s l head none = head ∙ ap (λ (v : Band). map part_line_words v ++ []) none
nothing_yet (suc far) s l head none = absurd (omega arith)

pub before : (s : Sheet) → Sound s → Before (lines_of s) s.setup.version s.setup.band
before s sound =
    let far = rank s.last in
    record {
      many = version_told far s.setup sound.ranges.version sound.no_version (λ l. nothing_yet far s.setup l
          (head_lines far s.setup (omega arith) (sound.no_formats (omega arith)) (sound.no_nodes (omega arith))
          (sound.no_fibres (omega arith)) (sound.no_groups (omega arith)))
          (no-parts far s.setup.version s.setup.band sound.band l));
      lines = parts_with far s.setup;
      good = good_band far s.setup.version s.setup.band sound.band;
    }

-- ---- whether the word may come

none_told : (band : Option Band) → GoodBand band → nat_eq (length (map part_line_words (parts_of band))) 0 ≡ is_none band
none_told None h = refl
none_told (Some []) h = absurd (both_ways (is_band []) refl h)
none_told (Some (part ∷ parts)) h = ne_eqb (length (map part_line_words (part ∷ parts))) 0 (λ e. absurd (omega arith))

its-parts : (earlier : List Fields) (s : SoFar) (w : Word) → Before earlier s.version s.band →
    model.has_its_parts earlier w ≡ has_its_parts s w
its-parts earlier s Net b = refl
its-parts earlier s model.Band b =
    (λ i. nat_eq (length (b.lines i)) 0 || b.many i) ∙ ap (λ v. v || nat_eq s.version 2) (none_told s.band b.good)
its-parts earlier s Guard b =
    (λ i. not (b.many i) || nat_le 2 (length (b.lines i)))
    ∙ ap (λ n. not (nat_eq s.version 2) || nat_le 2 n) (length-map (parts_of s.band) part_line_words)
its-parts earlier s K b = refl
its-parts earlier s Services b = refl
its-parts earlier s Journal b = refl
its-parts earlier s model.Format b = refl
its-parts earlier s Node b = refl
its-parts earlier s model.Fibre b = refl
its-parts earlier s model.Group b = refl
its-parts earlier s End b = refl

-- a word may stand behind the lines where it may come next
pub comes-same : (s : Sheet) → Sound s → (w : Word) →
    (may_stand_after (last_word (lines_of s)) w && model.has_its_parts (lines_of s) w) ≡ may_come s w
comes-same s sound w =
    (λ i. may_stand_after (sound.last i) w && its-parts (lines_of s) s.setup w (before s sound) i)

-- ---- the ends of the band

all_units : (band : Band) → is_band band ≡ true → list_all is_units band ≡ true
all_units band h = (band-parts band h).units

floor_of : (part : Units) (parts : Band) → (span_of (part ∷ parts)).lo ≡ part.lo
floor_of part [] = refl
floor_of part (next ∷ parts) = refl

-- the least unit of the first line is that of the band
pub floor-told : (band : Band) → is_band band ≡ true → (fields : Fields) →
    least_unit (unwrap_or (first_fields (map part_line_words band)) fields) ≡ (span_of band).lo
floor-told [] h fields = absurd (both_ways (is_band []) refl h)
floor-told (part ∷ parts) h fields =
    least-read part (and_parts (is_units part) (list_all is_units parts) (all_units (part ∷ parts) h)).0
    ∙ sym (floor_of part parts)

last_told : (part : Units) (parts : Band) → list_all is_units (part ∷ parts) ≡ true → (z : ℤ) →
    option_map_or (λ last. not (int_le (greatest_unit last +ℤ pos 2) z)) (last_fields (map part_line_words (part ∷ parts))) false
    ≡ not (int_le ((span_of (part ∷ parts)).hi +ℤ pos 2) z)
last_told part [] h z =
    ap (λ (u : ℤ). not (int_le (u +ℤ pos 2) z)) (greatest-read part (and_parts (is_units part) true h).0)
last_told part (next ∷ parts) h z =
    last_told next parts (and_parts (is_units part) (list_all is_units (next ∷ parts)) h).1 z

-- the greatest unit of the last line is that of the band
pub end-told : (band : Band) → is_band band ≡ true → (z : ℤ) →
    option_map_or (λ last. not (int_le (greatest_unit last +ℤ pos 2) z)) (last_fields (map part_line_words band)) false
    ≡ not (int_le ((span_of band).hi +ℤ pos 2) z)
end-told [] h z = absurd (both_ways (is_band []) refl h)
end-told (part ∷ parts) h z = last_told part parts (all_units (part ∷ parts) h) z

-- ---- bands that go on

-- a band whose parts are told goes on
pub band-on : (far more version : ℕ) (band : Option Band) → 2 ≤ far → 3 ≤ more →
    (nat_eq version 2 ≡ true → 2 ≤ length (parts_of band)) → BandSoFar far version band → BandSoFar more version band
band-on far more version None l m told h = absurd (omega arith)
band-on far more version (Some band) l m told h = record {
  reached = omega arith;
  good = h.good;
  one = h.one;
  more = λ e n. told e;
  room = h.room;
}

pub band-later : (far more version : ℕ) (band : Option Band) → 3 ≤ far → 3 ≤ more → BandSoFar far version band →
    BandSoFar more version band
band-later far more version None l m h = absurd (omega arith)
band-later far more version (Some band) l m h = record {
  reached = omega arith;
  good = h.good;
  one = h.one;
  more = λ e n. h.more e l;
  room = h.room;
}
