-- Whole lines that are only too short begin the text of a setup.
use Rattle.std.proofs.Common.{◌≡◌, refl, sym, ◌∙◌, ap, ◌⊎◌, inl, inr, ℕ, zero, suc, ◌-◌, ◌<◌, ◌≤◌, ℤ, pos, negsuc, ◌+ℤ◌, ◌-ℤ◌, ◌≤ℤ◌, Bool, true, false, cond, ◌&&◌, List, [], ◌∷◌, ◌++◌, length, map, take, drop, nat_le, nat_lt, Option, Some, None, append_assoc, arith}
use Rattle.std.specs.Prelude.{codes, int_le}
use Rattle.std.specs.Bool.{then_some}
use Rattle.std.specs.Option.{option_map}
use Rattle.std.specs.List.{flat_map}
use Rattle.std.proofs.lemmas.List.{append-nil, map-append, take-append-drop, length-append}
use Rattle.std.proofs.lemmas.Grind.{flat_map-append}
use Rattle.std.proofs.lemmas.Bool.{and_parts, and_from, leb-true, lt-leb, false≢true, both_ways, cases_lt}
use Rattle.std.proofs.lemmas.Int.{ints}
use Rattle.eon_model.specs.Grid.{Units, Band, is_units, is_band, span_of}
use Rattle.eon_model.specs.Network.{Network}
use Rattle.eon_model.specs.Formats.{Format}
use Rattle.eon_model.specs.Legal.{Setup}
use Rattle.eon_model.specs.Numerals.{is_within}
use Rattle.eon_model.specs.Spelling.{spaced, line, fields_of}
use Rattle.eon_model.specs.NetworkText.{version_of, is_setup, IsNetworkTextOf}
use Rattle.eon_model.specs.NetworkFault as model
use Rattle.eon_model.specs.NetworkFault.{Fields, whole_lines, network_fault}
use Rattle.eon_model.proofs.GridLaws.{int_le-le, le-int_le}
use Rattle.eon_model.proofs.BandLaws.{band-parts}
use Rattle.eon_model.proofs.NetworkTextLaws.{setup_words, text_words}
use Rattle.flex_grid.proofs.BandFacts.{is_with}
use Rattle.eon_model.specs.NetworkTextLaws.{TextsCanGoOn}
use Rattle.net_file.specs.Steps.{SoFar, Sheet, parts_of, setup_told, has_end}
use Rattle.net_file.specs.Drafts.{number_words, part_line_words, format_line_words, node_line_words, fibre_line_words, group_line_words, limit_words, net_words, head_at, lines_at, lines_of, rank, PartsSoFar, BandSoFar, Sound}
use Rattle.net_file.proofs.SplitText.{spaced-fields, text-spaced}
use Rattle.net_file.proofs.CauseParts.{not_short}
use Rattle.net_file.proofs.BandLines.{no-parts}
use Rattle.net_file.proofs.LineGrowth.{head_lines, network-grows, end-grows}
use Rattle.net_file.proofs.SetupParts.{Whole, whole-band, setup-whole}
use Rattle.net_file.proofs.ReadLaws.{all_words}
use Rattle.net_file.proofs.TextRuns.{Reached, Stopped, reads, last-fault, at_line}
use Rattle.eon_model.proofs.WholeLines.{text_of, lines-text}
use Rattle.eon_model.proofs.TextLengths.{texts-are-short}

-- ---- parts for a band that has too few

abbrev unit_part : ℤ → Units
unit_part z = record { lo = z; hi = z }

-- parts that make the band whole, none where all are there
record Filled (far version : ℕ) (band : Option Band) : Type 0 where
  extra : List Units
  whole : Whole version (Some (parts_of band ++ extra))
  late : 3 ≤ far → extra ≡ []

nothing_more : (version : ℕ) (band : Band) → is_band band ≡ true → version ≡ version_of band →
    Whole version (Some (band ++ []))
nothing_more version band good is = record {
  some = refl;
  good = ap is_band (append-nil band) ∙ good;
  version_is = is ∙ ap version_of (sym (append-nil band));
}

only_part : (band : Band) → length band ≡ 1 → is_band band ≡ true →
    (negsuc 4095 ≤ℤ (span_of band).hi) × ((span_of band).lo ≤ℤ (span_of band).hi)
only_part [] l good = absurd (omega arith)
only_part (part ∷ []) l good =
    let units : is_units part ≡ true = (and_parts (is_units part) true (band-parts (part ∷ []) good).units).0 in
    let u = and_parts (int_le (negsuc 4095) part.lo && int_le part.lo part.hi) (int_le part.hi (pos 4095)) units in
    let v = and_parts (int_le (negsuc 4095) part.lo) (int_le part.lo part.hi) u.0 in
    let low = int_le-le (negsuc 4095) part.lo v.0 in
    let rise = int_le-le part.lo part.hi v.1 in
    (omega (arith, ints), rise)
only_part (part ∷ next ∷ parts) l good = absurd (omega arith)

abbrev next_part : Band → Units
next_part band = unit_part ((span_of band).hi +ℤ pos 2)

filled_two : (far : ℕ) (band : Band) → PartsSoFar far 2 band → (b : Bool) → nat_le (length band) 1 ≡ b →
    Filled far 2 (Some band)
filled_two far band h false few = record {
  extra = [];
  whole = nothing_more 2 band h.good (sym (λ i. cond {A = ℕ} (few i) 1 2));
  late = λ l. refl;
}
filled_two far band h true few =
    let some = some_parts band h.good in
    let most = leb-true (length band) 1 few in
    let one : length band ≡ 1 = omega arith in
    let room = and_parts (int_le ((span_of band).hi -ℤ (span_of band).lo) (pos 1021)) (int_le (span_of band).hi (pos 4093))
    (h.room refl one) in
    let wide = int_le-le ((span_of band).hi -ℤ (span_of band).lo) (pos 1021) room.0 in
    let top = int_le-le (span_of band).hi (pos 4093) room.1 in
    let low = only_part band one h.good in
    let low_hi = low.0 in
    let next = next_part band in
    let units : is_units next ≡ true = and_from _ _ (and_from _ _ (le-int_le (negsuc 4095) next.lo (omega (arith, ints)))
    (le-int_le next.lo next.hi (omega (arith, ints)))) (le-int_le next.hi (pos 4095) (omega (arith, ints))) in
    let longer = length-append band (next ∷ []) in
    let two : nat_le (length (band ++ next ∷ [])) 1 ≡ false = lt-leb (length (band ++ next ∷ [])) 1 (omega arith) in
    record {
      extra = next ∷ [];
      whole = record {
        some = refl;
        good = is_with band next h.good (omega arith) units
            (and_from _ _ (le-int_le ((span_of band).hi +ℤ pos 2) next.lo (omega (arith, ints)))
            (le-int_le (next.hi -ℤ (span_of band).lo) (pos 1023) (omega (arith, ints))));
        version_is = sym (λ i. cond {A = ℕ} (two i) 1 2);
      };
      late = λ l. let many = h.more refl l in absurd (omega arith);
    }
  where
    some_parts : (band : Band) → is_band band ≡ true → 1 ≤ length band
    some_parts [] good = absurd (both_ways (is_band []) refl good)
    some_parts (part ∷ parts) good = omega arith

filled : (far version : ℕ) (band : Option Band) → is_within 1 2 version ≡ true → BandSoFar far version band →
    Filled far version band
filled far zero band w h = absurd (false≢true w)
filled far (suc zero) None w h = record {
  extra = unit_part (pos 0) ∷ [];
  whole = record { some = refl; good = refl; version_is = refl };
  late = λ l. absurd (omega arith);
}
filled far (suc zero) (Some band) w h = record {
  extra = [];
  whole = nothing_more 1 band h.good (sym (ap (λ (n : ℕ). cond {A = ℕ} (nat_le n 1) 1 2) (h.one refl)));
  late = λ l. refl;
}
filled far (suc (suc zero)) None w h = record {
  extra = unit_part (pos 0) ∷ unit_part (pos 2) ∷ [];
  whole = record { some = refl; good = refl; version_is = refl };
  late = λ l. absurd (omega arith);
}
filled far (suc (suc zero)) (Some band) w h = filled_two far band h (nat_le (length band) 1) refl
filled far (suc (suc (suc version))) band w h =
    let most = leb-true (suc (suc (suc version))) 2
    (and_parts (nat_le 1 (suc (suc (suc version)))) (nat_le (suc (suc (suc version))) 2) w).1 in absurd (omega arith)

-- ---- lines that complete others

record Completed (lines : List Fields) : Type 0 where
  more : List Fields
  setup : Setup
  in_range : is_setup setup ≡ true
  is : lines ++ more ≡ setup_words setup

-- a format and a node for those that are not there yet
abbrev one_format : Format
one_format = record { name = codes "a"; reach = 1; per = 1 }

abbrev one_node : Network
one_node = record { nodes = codes "a" ∷ []; fibres = []; groups = [] }

abbrev with_rest : SoFar → Band → SoFar
with_rest s band = record {
  version = s.version;
  band = Some band;
  guard = s.guard;
  k = s.k;
  services = s.services;
  journal = s.journal;
  formats = one_format ∷ [];
  network = one_node;
}

record HeadDone (far : ℕ) (s : SoFar) (band : Band) : Type 0 where
  more : List Fields
  is : head_at far s ++ more ≡ head_at 11 (with_rest s band)

abbrev net_words_of : SoFar → Fields
net_words_of s = number_words (codes "net") s.version

front_done : (s : SoFar) (extra : List Units) →
    ((net_words_of s ∷ map part_line_words (parts_of s.band)) ++ []) ++ (map part_line_words extra ++ limit_words s)
    ≡ (net_words_of s ∷ map part_line_words (parts_of s.band ++ extra)) ++ limit_words s
front_done s extra =
    let front = net_words_of s ∷ map part_line_words (parts_of s.band) in
    let more = map part_line_words extra in
    ap (λ (v : List Fields). v ++ (more ++ limit_words s)) (append-nil front)
    ∙ sym (append_assoc front more (limit_words s))
    ∙ ap (λ (v : List Fields). (net_words_of s ∷ v) ++ limit_words s) (sym (map-append part_line_words (parts_of s.band) extra))

head_done : (far : ℕ) (s : SoFar) (extra : List Units) → BandSoFar far s.version s.band → (3 ≤ far → extra ≡ []) →
    HeadDone far s (parts_of s.band ++ extra)
head_done zero s extra h late = record {
  more = head_at 11 (with_rest s (parts_of s.band ++ extra));
  is = ap (λ (v : Band). (map part_line_words v ++ []) ++ head_at 11 (with_rest s (parts_of s.band ++ extra)))
      (no-parts zero s.version s.band h (omega arith));
}
head_done (suc zero) s extra h late =
    record { more = map part_line_words extra ++ limit_words s; is = front_done s extra }
head_done (suc (suc zero)) s extra h late =
    record { more = map part_line_words extra ++ limit_words s; is = front_done s extra }
head_done (suc (suc (suc far))) s extra h late =
    let n = suc (suc (suc far)) - 2 in
    let front = net_words_of s ∷ map part_line_words (parts_of s.band) in
    let none = late (omega arith) in
    record {
      more = drop n (limit_words s);
      is = append_assoc front (take n (limit_words s)) (drop n (limit_words s))
          ∙ ap (λ (v : List Fields). front ++ v) (take-append-drop n (limit_words s))
          ∙ ap (λ (v : Band). (net_words_of s ∷ map part_line_words v) ++ limit_words s)
          (sym (append-nil (parts_of s.band)) ∙ ap (λ (v : List Units). parts_of s.band ++ v) (sym none));
    }

abbrev tail_words : List Fields
tail_words = format_line_words one_format ∷ node_line_words (codes "a") ∷ (codes "end" ∷ []) ∷ []

tail_lines : (s : SoFar) (band : Band) → head_at 11 (with_rest s band) ++ tail_words ≡ lines_at 11 (with_rest s band)
unfolding lines_at
tail_lines s band =
    let head = head_at 11 (with_rest s band) in
    let format = format_line_words one_format in
    let node = node_line_words (codes "a") in
    sym (append_assoc (head ++ format ∷ []) (node ∷ []) ((codes "end" ∷ []) ∷ [])
    ∙ append_assoc head (format ∷ []) (node ∷ (codes "end" ∷ []) ∷ []))

-- lines of the head alone
head_completed : (s : Sheet) → Sound s → rank s.last < 7 → Completed (lines_of s)
head_completed s sound l =
    let r = sound.ranges in
    let f = filled (rank s.last) s.setup.version s.setup.band r.version sound.band in
    let band = parts_of s.setup.band ++ f.extra in
    let t = with_rest s.setup band in
    let d = head_done (rank s.last) s.setup f.extra sound.band f.late in
    let head = head_lines (rank s.last) s.setup l (sound.no_formats (omega arith)) (sound.no_nodes (omega arith))
    (sound.no_fibres (omega arith)) (sound.no_groups (omega arith)) in
    record {
      more = d.more ++ tail_words;
      setup = setup_told t;
      in_range = setup-whole t (record {
        version = r.version;
        guard = r.guard;
        k = r.k;
        services = r.services;
        journal = r.journal;
        rows = refl;
        graph = refl;
      }) f.whole (omega arith) (omega arith);
      is = ap (λ (v : List Fields). v ++ (d.more ++ tail_words)) head
          ∙ sym (append_assoc (head_at (rank s.last) s.setup) d.more tail_words)
          ∙ ap (λ (v : List Fields). v ++ tail_words) d.is
          ∙ tail_lines s.setup band ∙ all_words t f.whole.version_is;
    }

abbrev with_one_node : SoFar → SoFar
with_one_node s = record {
  version = s.version;
  band = s.band;
  guard = s.guard;
  k = s.k;
  services = s.services;
  journal = s.journal;
  formats = s.formats;
  network = one_node;
}

nothing_told : (net : Network) → net.nodes ≡ [] → net.fibres ≡ [] → net.groups ≡ [] → net_words net ≡ []
nothing_told net nodes fibres groups =
    λ i. (map node_line_words (nodes i) ++ map (fibre_line_words net.nodes) (fibres i))
    ++ map (group_line_words net.fibres) (groups i)

-- lines up to the formats
formats_completed : (s : Sheet) → Sound s → rank s.last ≡ 7 → Completed (lines_of s)
formats_completed s sound here =
    let r = sound.ranges in
    let t = with_one_node s.setup in
    let node = node_line_words (codes "a") in
    let whole = whole-band (rank s.last) s.setup.version s.setup.band (omega arith) r.version sound.band in
    let net : net_words one_node ≡ net_words s.setup.network ++ node ∷ [] =
    ap (λ (v : List Fields). v ++ node ∷ []) (sym (nothing_told s.setup.network (sound.no_nodes (omega arith))
    (sound.no_fibres (omega arith)) (sound.no_groups (omega arith)))) in
    let grown = network-grows (rank s.last) 8 s.setup t node (omega arith) (omega arith) (omega arith) (omega arith) refl refl net in
    record {
      more = node ∷ (codes "end" ∷ []) ∷ [];
      setup = setup_told t;
      in_range = setup-whole t (record {
        version = r.version;
        guard = r.guard;
        k = r.k;
        services = r.services;
        journal = r.journal;
        rows = r.rows;
        graph = refl;
      }) whole (sound.some_formats (omega arith)) (omega arith);
      is = sym (append_assoc (lines_of s) (node ∷ []) ((codes "end" ∷ []) ∷ []))
          ∙ ap (λ (v : List Fields). v ++ (codes "end" ∷ []) ∷ []) (sym grown)
          ∙ sym (end-grows 8 t (omega arith) (omega arith)) ∙ all_words t whole.version_is;
    }

-- lines after which the end may stand
end_completed : (s : Sheet) → Sound s → 8 ≤ rank s.last → rank s.last < 11 → Completed (lines_of s)
end_completed s sound least most =
    let r = sound.ranges in
    let whole = whole-band (rank s.last) s.setup.version s.setup.band (omega arith) r.version sound.band in
    record {
      more = (codes "end" ∷ []) ∷ [];
      setup = setup_told s.setup;
      in_range = setup-whole s.setup r whole (sound.some_formats (omega arith)) (sound.some_nodes (omega arith));
      is = sym (end-grows (rank s.last) s.setup (omega arith) most) ∙ all_words s.setup whole.version_is;
    }

completed : (s : Sheet) → Sound s → rank s.last < 11 → Completed (lines_of s)
completed s sound l = elim (cases_lt (rank s.last) 7) [
  | inl few ↦ head_completed s sound few
  | inr many ↦ elim (cases_lt (rank s.last) 8) [
    | inl few ↦ formats_completed s sound (omega arith)
    | inr more ↦ end_completed s sound (omega arith) l
  ]
]

open_far : (last : Option model.Word) → has_end last ≡ false → rank last < 11
open_far None h = omega arith
open_far (Some model.Net) h = omega arith
open_far (Some model.Band) h = omega arith
open_far (Some model.Guard) h = omega arith
open_far (Some model.K) h = omega arith
open_far (Some model.Services) h = omega arith
open_far (Some model.Journal) h = omega arith
open_far (Some model.Format) h = omega arith
open_far (Some model.Node) h = omega arith
open_far (Some model.Fibre) h = omega arith
open_far (Some model.Group) h = omega arith
open_far (Some model.End) h = absurd (both_ways true h refl)

-- ---- the text

respaced : (ls : List (List ℕ)) → map spaced (map fields_of ls) ≡ ls
respaced [] = refl
respaced (l ∷ ls) = λ i. spaced-fields l i ∷ respaced ls i

-- whole lines are the lines of their fields
lines_back : (bytes : List ℕ) → (whole_lines bytes).1 ≡ [] → flat_map line (map fields_of (whole_lines bytes).0) ≡ bytes
lines_back bytes e =
    let ls = (whole_lines bytes).0 in
    sym (text-spaced (map fields_of ls)) ∙ ap (λ (v : List (List ℕ)). text_of (v, [])) (respaced ls)
    ∙ ap (λ (v : List ℕ). text_of (ls, v)) (sym e) ∙ lines-text bytes

abbrev why_of : Option (ℕ × model.Why) → model.Why
why_of None = model.Rest
why_of (Some p) = p.1

goes_on : (b : Bool) (number n : ℕ) → option_map (at_line number) (cond b None (Some model.Short)) ≡ Some (n, model.Short) →
    b ≡ false
goes_on true number n e = absurd cc
goes_on false number n e = refl

pub texts-can-go-on : TextsCanGoOn
texts-can-go-on bytes n e rest = by_reading (reads bytes)
  where
    by_reading : Reached bytes (whole_lines bytes).1 ⊎ Stopped bytes →
        (more : List ℕ) × ((s : Setup) × (IsNetworkTextOf (bytes ++ more) s) × (length (bytes ++ more) < 1048576))
    by_reading (inl r) =
        let ls = (whole_lines bytes).0 in
        let open_ = goes_on (has_end r.sheet.last) r.number n
        (ap (λ (v : List ℕ). option_map (at_line r.number) (cond (has_end r.sheet.last)
        (then_some (nat_lt 0 (length v)) model.Rest) (Some model.Short))) (sym rest)
        ∙ sym (last-fault bytes (whole_lines bytes).1 r) ∙ e) in
        let c = completed r.sheet r.at.sound (open_far r.sheet.last open_) in
        let told : map fields_of ls ≡ lines_of r.sheet = r.at.told ∙ append-nil (lines_of r.sheet) in
        let text : IsNetworkTextOf (bytes ++ flat_map line c.more) c.setup = record {
          in_range = c.in_range;
          is = ap (λ (v : List ℕ). v ++ flat_map line c.more) (sym (lines_back bytes rest))
              ∙ sym (flat_map-append line (map fields_of ls) c.more)
              ∙ ap (λ (v : List Fields). flat_map line (v ++ c.more)) told ∙ ap (flat_map line) c.is ∙ text_words c.setup;
        } in
        (flat_map line c.more, (c.setup, text, texts-are-short (bytes ++ flat_map line c.more) c.setup text))
    by_reading (inr r) =
        let same : r.why ≡ model.Short = ap why_of (sym r.is ∙ e) in
        absurd (both_ways (not_short r.why) (ap not_short same) r.long)
