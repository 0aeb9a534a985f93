-- A reader that goes from line to line is where the first fault of the text is sought.
use Rattle.std.proofs.Common.{◌≡◌, refl, sym, ◌∙◌, ap, subst, ℕ, zero, suc, ◌+◌, ◌-◌, ◌≤◌, Bool, true, false, cond, ◌&&◌, List, [], ◌∷◌, ◌++◌, length, map, take, drop, slice_get, nat_le, nat_lt, Option, Some, None, is_some, Result, Ok, Err, append_assoc, arith}
use Rattle.std.specs.Prelude.{codes, int_le, ◌-ℤ◌, pos}
use Rattle.std.specs.List.{list_all}
use Rattle.std.specs.Bool.{then_some}
use Rattle.std.specs.Option.{option_map, option_or, option_map_or}
use Rattle.std.proofs.lemmas.List.{append-nil, length-append, length-map}
use Rattle.std.proofs.lemmas.Bool.{and_parts, leb-true, lt-ltb}
use Rattle.eon_model.specs.Grid.{Band, is_units, parts_ascend, span_of}
use Rattle.eon_model.specs.Names.{differ}
use Rattle.eon_model.specs.Formats.{Format}
use Rattle.eon_model.specs.Spelling.{spaced, fields_of}
use Rattle.eon_model.specs.NetworkText.{version_of, is_format, IsNetworkTextOf}
use Rattle.eon_model.specs.NetworkFault.{Word, Fields, Rest, Short, has_ended, is_end, word_spelled, field_at, whole_lines, cause_of, first_fault, network_fault}
use Rattle.eon_model.proofs.NetworkTextLaws.{setup_words, text_words}
use Rattle.reach_table.specs.Tables.{format_names, are_rows}
use Rattle.net_graph.proofs.GraphParts.{parts_of as graph_parts}
use Rattle.net_file.specs.Readings.{is_nil, has_nothing}
use Rattle.net_file.proofs.SplitText.{spaced-fields, text-spaced}
use Rattle.net_file.specs.declared.fault.Why.{Why}
use Rattle.net_file.specs.declared.fault.Why.TheVariants as why
use Rattle.net_file.specs.declared.fault.NetRefusal.{NetRefusal}
use Rattle.net_file.specs.declared.fault.LineFault.{LineFault}
use Rattle.net_file.specs.declared.fault.LineFault.TheVariants as fault
use Rattle.net_file.specs.Told.{why_told, IsRefusalOf, refusal_at}
use Rattle.net_file.specs.Steps.{SoFar, Sheet, IsFaultOf, parts_of, setup_told, has_end, word_step, line_step}
use Rattle.net_file.specs.Drafts.{blank, number_words, part_line_words, format_line_words, node_line_words, fibre_line_words, group_line_words, limit_words, net_words, end_words, head_at, lines_at, lines_of, rank, BandSoFar, Sound}
use Rattle.net_file.proofs.RankLaws.{ended-far}
use Rattle.net_file.proofs.StepParts.{Takes, Grows}
use Rattle.net_file.proofs.LineLaws.{line-law}
use Rattle.net_file.proofs.SetupParts.{whole-band, setup-whole}
use Rattle.eon_model.proofs.WholeLines.{text_of, lines-text}

-- Where the reader stands: after the lines that told the sheet, and before these lines and what follows them.
pub record IsAt (bytes : List ℕ) (s : Sheet) (number : ℕ) (left : List (List ℕ) × List ℕ) : Type 0 where
  pub sound : Sound s
  pub fault : network_fault bytes ≡ first_fault (lines_of s) number left.0 left.1
  pub told : map fields_of (whole_lines bytes).0 ≡ lines_of s ++ map fields_of left.0
  pub rest : (whole_lines bytes).1 ≡ left.1
  pub count : number + length left.0 ≡ 1 + length (whole_lines bytes).0

ended_by : (o : Option Word) → option_map_or is_end o false ≡ has_end o
ended_by None = refl
ended_by (Some w) = refl

ended : (s : Sheet) → Sound s → has_ended (lines_of s) ≡ has_end s.last
ended s sound = ap (λ (o : Option Word). option_map_or is_end o false) sound.last ∙ ended_by s.last

-- ---- the start

blank_sound : Sound blank
unfolding lines_at
blank_sound = record {
  ranges = record { version = refl; guard = omega arith; k = refl; services = refl; journal = refl; rows = refl; graph = refl };
  band = omega arith;
  no_version = λ l. refl;
  last = refl;
  no_formats = λ l. refl;
  no_nodes = λ l. refl;
  no_fibres = λ l. refl;
  no_groups = λ l. refl;
  some_formats = λ l. absurd (omega arith);
  some_nodes = λ l. absurd (omega arith);
}

no_lines : lines_of blank ≡ []
unfolding lines_at
no_lines = refl

pub at-start : (bytes : List ℕ) → IsAt bytes blank 1 (whole_lines bytes)
at-start bytes =
    let left = whole_lines bytes in
    record {
      sound = blank_sound;
      fault = ap (λ (v : List Fields). first_fault v 1 left.0 left.1) (sym no_lines);
      told = ap (λ (v : List Fields). v ++ map fields_of left.0) (sym no_lines);
      rest = refl;
      count = omega arith;
    }

-- ---- the next line

first_left : (lines : List (List ℕ)) (l : List ℕ) → slice_get lines 0 ≡ Some l → lines ≡ l ∷ drop 1 lines
first_left [] l e = cc
first_left (x ∷ lines) l e = let is : x ≡ l = cc in ap (λ (v : List ℕ). v ∷ lines) is

none_left : (lines : List (List ℕ)) → slice_get lines 0 ≡ None → lines ≡ []
none_left [] e = refl
none_left (x ∷ lines) e = cc

-- what the line makes of the sheet
abbrev Steps : Sheet → List ℕ → ℕ → List (List ℕ) → List ℕ → Result Sheet Why → Type 0
Steps s l number lines rest (Ok t) =
    (first_fault (lines_of s) number (l ∷ lines) rest ≡ first_fault (lines_of t) (number + 1) lines rest)
    × Grows s (fields_of l) t
Steps s l number lines rest (Err e) = first_fault (lines_of s) number (l ∷ lines) rest ≡ Some (number, why_told e)

stepped : (s : Sheet) (l : List ℕ) (number : ℕ) (lines : List (List ℕ)) (rest : List ℕ) (r : Result Sheet Why) →
    has_ended (lines_of s) ≡ false → Takes s (fields_of l) r → Steps s l number lines rest r
stepped s l number lines rest (Ok t) open_ h =
    let more = first_fault (lines_of s ++ fields_of l ∷ []) (number + 1) lines rest in (
      (λ i. option_or (option_map (λ why. (number, why)) (cond (open_ i) (Some Rest) (cause_of (lines_of s) (fields_of l)))) more)
          ∙ (λ i. option_or (option_map (λ why. (number, why)) (h.0 i)) more)
          ∙ ap (λ (v : List Fields). first_fault v (number + 1) lines rest) (sym h.1.lines),
      h.1,
    )
stepped s l number lines rest (Err e) open_ h =
    let more = first_fault (lines_of s ++ fields_of l ∷ []) (number + 1) lines rest in
    (λ i. option_or (option_map (λ why. (number, why)) (cond (open_ i) (Some Rest) (cause_of (lines_of s) (fields_of l)))) more)
    ∙ (λ i. option_or (option_map (λ why. (number, why)) (h i)) more)

-- after the end any line is too much
stepped_end : (s : Sheet) (l : List ℕ) (number : ℕ) (lines : List (List ℕ)) (rest : List ℕ) →
    has_ended (lines_of s) ≡ true → first_fault (lines_of s) number (l ∷ lines) rest ≡ Some (number, Rest)
stepped_end s l number lines rest e =
    let more = first_fault (lines_of s ++ fields_of l ∷ []) (number + 1) lines rest in
    λ i. option_or (option_map (λ why. (number, why)) (cond (e i) (Some Rest) (cause_of (lines_of s) (fields_of l)))) more

steps : (s : Sheet) (l : List ℕ) (number : ℕ) (lines : List (List ℕ)) (rest : List ℕ) (b : Bool) → Sound s →
    has_end s.last ≡ b → Steps s l number lines rest (line_step s (fields_of l))
unfolding line_step
steps s l number lines rest true sound e =
    let fields = fields_of l in
    subst (λ (b : Bool). Steps s l number lines rest
    (cond b (Err why.Rest) (word_step s (word_spelled (field_at fields 0)) (drop 1 fields)))) (sym e)
    (stepped_end s l number lines rest (ended s sound ∙ e))
steps s l number lines rest false sound e =
    stepped s l number lines rest (line_step s (fields_of l)) (ended s sound ∙ e) (line-law s (fields_of l) sound e)

-- the line is taken
pub at-next : (bytes : List ℕ) (s t : Sheet) (number : ℕ) (left : List (List ℕ) × List ℕ) (l : List ℕ) →
    IsAt bytes s number left → slice_get left.0 0 ≡ Some l → line_step s (fields_of l) ≡ Ok t →
    IsAt bytes t (number + 1) (drop 1 left.0, left.1)
at-next bytes s t number left l at e is =
    let first = first_left left.0 l e in
    let more = drop 1 left.0 in
    let st = subst (λ (r : Result Sheet Why). Steps s l number more left.1 r) is
    (steps s l number more left.1 (has_end s.last) at.sound refl) in
    let long : length left.0 ≡ length more + 1 = let k = ap (λ (v : List (List ℕ)). length v) first in omega arith in
    let count = at.count in
    record {
      sound = st.1.sound;
      fault = at.fault ∙ ap (λ (v : List (List ℕ)). first_fault (lines_of s) number v left.1) first ∙ st.0;
      told = at.told ∙ ap (λ (v : List (List ℕ)). lines_of s ++ map fields_of v) first
          ∙ sym (append_assoc (lines_of s) (fields_of l ∷ []) (map fields_of more))
          ∙ ap (λ (v : List Fields). v ++ map fields_of more) (sym st.1.lines);
      rest = at.rest;
      count = omega arith;
    }

-- the line is refused
pub at-fault : (bytes : List ℕ) (s : Sheet) (number : ℕ) (left : List (List ℕ) × List ℕ) (l : List ℕ) (e : Why) →
    IsAt bytes s number left → slice_get left.0 0 ≡ Some l → line_step s (fields_of l) ≡ Err e →
    network_fault bytes ≡ Some (number, why_told e)
at-fault bytes s number left l e at first is =
    at.fault ∙ ap (λ (v : List (List ℕ)). first_fault (lines_of s) number v left.1) (first_left left.0 l first)
    ∙ subst (λ (r : Result Sheet Why). Steps s l number (drop 1 left.0) left.1 r) is
    (steps s l number (drop 1 left.0) left.1 (has_end s.last) at.sound refl)

-- ---- how many lines there are

few_taken : {X : Type 0} (n : ℕ) (xs : List X) → length (take n xs) ≤ length xs
few_taken zero xs = omega arith
few_taken (suc n) [] = omega arith
few_taken (suc n) (x ∷ xs) = let more = few_taken n xs in omega arith

few_parts : (far version : ℕ) (band : Option Band) → BandSoFar far version band → length (parts_of band) ≤ 8
few_parts far version None h = omega arith
few_parts far version (Some band) h =
    let a = and_parts (nat_le 1 (length band) && nat_le (length band) 8 && list_all is_units band && parts_ascend band)
    (int_le ((span_of band).hi -ℤ (span_of band).lo) (pos 1023)) h.good in
    let c = and_parts (nat_le 1 (length band) && nat_le (length band) 8 && list_all is_units band) (parts_ascend band) a.0 in
    let d = and_parts (nat_le 1 (length band) && nat_le (length band) 8) (list_all is_units band) c.0 in
    leb-true (length band) 8 (and_parts (nat_le 1 (length band)) (nat_le (length band) 8) d.0).1

few_ends : (far : ℕ) → length (end_words far) ≤ 1
few_ends far = by_test (nat_lt 10 far)
  where
    by_test : (b : Bool) → length (cond b ((codes "end" ∷ []) ∷ []) []) ≤ 1
    by_test true = omega arith
    by_test false = omega arith

few_rows : (rows : List Format) → are_rows rows ≡ true → length rows ≤ 64
few_rows rows h =
    let p = and_parts (nat_le (length rows) 64 && list_all is_format rows) (differ (format_names rows)) h in
    leb-true (length rows) 64 (and_parts (nat_le (length rows) 64) (list_all is_format rows) p.0).0

-- at most 398 lines have been taken
few_lines : (s : Sheet) → Sound s → length (lines_of s) ≤ 398
unfolding lines_at
few_lines s sound =
    let far = rank s.last in
    let t = s.setup in
    let net = take far (number_words (codes "net") t.version ∷ []) in
    let parts = map part_line_words (parts_of t.band) in
    let limits = take (far - 2) (limit_words t) in
    let formats = map format_line_words t.formats in
    let nodes = map node_line_words t.network.nodes in
    let fibres = map (fibre_line_words t.network.nodes) t.network.fibres in
    let groups = map (group_line_words t.network.fibres) t.network.groups in
    let graph = graph_parts t.network sound.ranges.graph in
    let a = few_taken far (number_words (codes "net") t.version ∷ []) in
    let b = few_parts far t.version t.band sound.band in
    let c = few_taken (far - 2) (limit_words t) in
    let d = few_rows t.formats sound.ranges.rows in
    let e = few_ends far in
    let f = length-map (parts_of t.band) part_line_words in
    let g = length-map t.formats format_line_words in
    let h = length-map t.network.nodes node_line_words in
    let i = length-map t.network.fibres (fibre_line_words t.network.nodes) in
    let j = length-map t.network.groups (group_line_words t.network.fibres) in
    let k = graph.nodes_few in
    let l = graph.fibres_few in
    let m = graph.groups_few in
    let n = length-append net parts in
    let o = length-append (net ++ parts) limits in
    let p = length-append (head_at far t) formats in
    let q = length-append nodes fibres in
    let r = length-append (nodes ++ fibres) groups in
    let u = length-append (head_at far t ++ formats) (net_words t.network) in
    let v = length-append ((head_at far t ++ formats) ++ net_words t.network) (end_words far) in
    omega arith

-- the number of a line
pub at-few : (bytes : List ℕ) (s : Sheet) (number : ℕ) (left : List (List ℕ) × List ℕ) → IsAt bytes s number left →
    number ≤ 399
at-few bytes s number left at =
    let c = at.count in
    let f = few_lines s at.sound in
    let t = ap length at.told in
    let u = length-append (lines_of s) (map fields_of left.0) in
    let v = length-map left.0 fields_of in
    let w = length-map (whole_lines bytes).0 fields_of in
    omega arith

-- ---- the end of the text

pub at_last : (bytes : List ℕ) (s : Sheet) (number : ℕ) (left : List (List ℕ) × List ℕ) → IsAt bytes s number left →
    slice_get left.0 0 ≡ None →
    network_fault bytes ≡ option_map (λ why. (number, why)) (cond (has_end s.last) (then_some (nat_lt 0 (length left.1)) Rest) (Some Short))
at_last bytes s number left at e =
    at.fault ∙ ap (λ (v : List (List ℕ)). first_fault (lines_of s) number v left.1) (none_left left.0 e)
    ∙ ap (λ (b : Bool). option_map (λ why. (number, why)) (cond b (then_some (nat_lt 0 (length left.1)) Rest) (Some Short)))
    (ended s at.sound)

pub at-short : (bytes : List ℕ) (s : Sheet) (number : ℕ) (left : List (List ℕ) × List ℕ) → IsAt bytes s number left →
    slice_get left.0 0 ≡ None → has_end s.last ≡ false → network_fault bytes ≡ Some (number, Short)
at-short bytes s number left at e h =
    at_last bytes s number left at e
    ∙ ap (λ (b : Bool). option_map (λ why. (number, why)) (cond b (then_some (nat_lt 0 (length left.1)) Rest) (Some Short))) h

some_left : (rest : List ℕ) → is_nil rest ≡ false → nat_lt 0 (length rest) ≡ true
some_left [] e = cc
some_left (b ∷ rest) e = lt-ltb 0 (length (b ∷ rest)) (omega arith)

nothing_left : (rest : List ℕ) → is_nil rest ≡ true → rest ≡ []
nothing_left [] e = refl
nothing_left (b ∷ rest) e = cc

pub at-rest : (bytes : List ℕ) (s : Sheet) (number : ℕ) (lines : List (List ℕ)) (rest : List ℕ) →
    IsAt bytes s number (lines, rest) → slice_get lines 0 ≡ None → has_end s.last ≡ true →
    has_nothing (drop 1 lines, rest) ≡ false → network_fault bytes ≡ Some (number, Rest)
at-rest bytes s number lines rest at e h k =
    let none = none_left lines e in
    let some = some_left rest (sym (ap (λ (v : List (List ℕ)). is_nil (drop 1 v) && is_nil rest) none) ∙ k) in
    at_last bytes s number (lines, rest) at e
    ∙ (λ i. option_map (λ why. (number, why)) (cond (h i) (then_some (some i) Rest) (Some Short)))

respaced : (lines : List (List ℕ)) → map spaced (map fields_of lines) ≡ lines
respaced [] = refl
respaced (l ∷ lines) = λ i. spaced-fields l i ∷ respaced lines i

four_then : (front : List Fields) (a b c d : Fields) →
    front ++ (a ∷ b ∷ c ∷ d ∷ []) ≡ (((front ++ a ∷ []) ++ b ∷ []) ++ c ∷ []) ++ d ∷ []
four_then front a b c d =
    sym (append_assoc ((front ++ a ∷ []) ++ b ∷ []) (c ∷ []) (d ∷ [])
    ∙ append_assoc (front ++ a ∷ []) (b ∷ []) (c ∷ d ∷ []) ∙ append_assoc front (a ∷ []) (b ∷ c ∷ d ∷ []))

pub all_words : (s : SoFar) → s.version ≡ version_of (parts_of s.band) → lines_at 11 s ≡ setup_words (setup_told s)
unfolding lines_at
all_words s e =
    (λ i. (((number_words (codes "net") (e i) ∷ map part_line_words (parts_of s.band)) ++ limit_words s)
    ++ map format_line_words s.formats) ++ net_words s.network ++ (codes "end" ∷ []) ∷ [])
    ∙ ap (λ (v : List Fields). (v ++ map format_line_words s.formats) ++ net_words s.network ++ (codes "end" ∷ []) ∷ [])
    (four_then (number_words (codes "net") (version_of (parts_of s.band)) ∷ map part_line_words (parts_of s.band))
    (number_words (codes "guard") s.guard) (number_words (codes "k") s.k) (number_words (codes "services") s.services)
    (number_words (codes "journal") s.journal))

-- the text is that of the setup that was told
pub at-end : (bytes : List ℕ) (s : Sheet) (number : ℕ) (lines : List (List ℕ)) (rest : List ℕ) →
    IsAt bytes s number (lines, rest) → slice_get lines 0 ≡ None → has_end s.last ≡ true →
    has_nothing (drop 1 lines, rest) ≡ true → (network_fault bytes ≡ None) × IsNetworkTextOf bytes (setup_told s.setup)
at-end bytes s number lines rest at e h k =
    let none = none_left lines e in
    let nothing = nothing_left rest (sym (ap (λ (v : List (List ℕ)). is_nil (drop 1 v) && is_nil rest) none) ∙ k) in
    let far = ended-far s.last h in
    let sound = at.sound in
    let all = whole_lines bytes in
    let whole = whole-band (rank s.last) s.setup.version s.setup.band (omega arith) sound.ranges.version sound.band in
    let words : map fields_of all.0 ≡ setup_words (setup_told s.setup) =
    at.told ∙ ap (λ (v : List (List ℕ)). lines_of s ++ map fields_of v) none ∙ append-nil (lines_of s)
    ∙ ap (λ (r : ℕ). lines_at r s.setup) far ∙ all_words s.setup whole.version_is in
    let own : all.0 ≡ map spaced (setup_words (setup_told s.setup)) = sym (respaced all.0) ∙ ap (map spaced) words in (
      at_last bytes s number (lines, rest) at e
          ∙ (λ i. option_map (λ why. (number, why)) (cond (h i) (then_some (nat_lt 0 (length (nothing i))) Rest) (Some Short))),
      record {
        in_range = setup-whole s.setup sound.ranges whole (sound.some_formats (omega arith)) (sound.some_nodes (omega arith));
        is = sym (lines-text bytes) ∙ (λ i. text_of (own i, (at.rest ∙ nothing) i)) ∙ text-spaced (setup_words (setup_told s.setup))
            ∙ text_words (setup_told s.setup);
      },
    )

-- ---- as the reader meets them

pub at-begin : (bytes : List ℕ) (s : Sheet) (left : List (List ℕ) × List ℕ) → s ≡ blank → left ≡ whole_lines bytes →
    IsAt bytes s 1 left
at-begin bytes s left e f =
    subst (λ (p : Sheet × (List (List ℕ) × List ℕ)). IsAt bytes p.0 1 p.1) (λ i. (sym e i, sym f i)) (at-start bytes)

pub at-onward : (bytes : List ℕ) (s t : Sheet) (number : ℕ) (left next : List (List ℕ) × List ℕ) (l : List ℕ) →
    IsAt bytes s number left → Some l ≡ slice_get left.0 0 → line_step s (fields_of l) ≡ Ok t →
    next ≡ (drop 1 left.0, left.1) → IsAt bytes t (number + 1) next
at-onward bytes s t number left next l at e is f =
    subst (λ (p : List (List ℕ) × List ℕ). IsAt bytes t (number + 1) p) (sym f) (at-next bytes s t number left l at (sym e) is)

pub at-refused : (bytes : List ℕ) (s : Sheet) (number : ℕ) (left : List (List ℕ) × List ℕ) (l : List ℕ)
    (fault : LineFault) (r : NetRefusal) → IsAt bytes s number left → Some l ≡ slice_get left.0 0 →
    IsFaultOf fault (line_step s (fields_of l)) → r ≡ refusal_at number fault → IsRefusalOf bytes r
at-refused bytes s number left l fault.Memory r at e is f = subst (λ (v : NetRefusal). IsRefusalOf bytes v) (sym f) tt
at-refused bytes s number left l (fault.Cause w) r at e is f =
    subst (λ (v : NetRefusal). IsRefusalOf bytes v) (sym f) (at-fault bytes s number left l w at (sym e) is)

pub told-short : (bytes : List ℕ) (s : Sheet) (number : ℕ) (left : List (List ℕ) × List ℕ) (r : NetRefusal) →
    IsAt bytes s number left → None ≡ slice_get left.0 0 → has_end s.last ≡ false →
    r ≡ refusal_at number (fault.Cause why.Short) → IsRefusalOf bytes r
told-short bytes s number left r at e h f =
    subst (λ (v : NetRefusal). IsRefusalOf bytes v) (sym f) (at-short bytes s number left at (sym e) h)

pub told-rest : (bytes : List ℕ) (s : Sheet) (number : ℕ) (left next : List (List ℕ) × List ℕ) (r : NetRefusal) →
    IsAt bytes s number left → None ≡ slice_get left.0 0 → has_end s.last ≡ true →
    next ≡ (drop 1 left.0, left.1) → has_nothing next ≡ false →
    r ≡ refusal_at number (fault.Cause why.Rest) → IsRefusalOf bytes r
told-rest bytes s number left next r at e h n k f =
    subst (λ (v : NetRefusal). IsRefusalOf bytes v) (sym f)
    (at-rest bytes s number left.0 left.1 at (sym e) h (sym (ap has_nothing n) ∙ k))

pub told-whole : (bytes : List ℕ) (s : Sheet) (number : ℕ) (left next : List (List ℕ) × List ℕ) →
    IsAt bytes s number left → None ≡ slice_get left.0 0 → has_end s.last ≡ true →
    next ≡ (drop 1 left.0, left.1) → has_nothing next ≡ true →
    (network_fault bytes ≡ None) × IsNetworkTextOf bytes (setup_told s.setup)
told-whole bytes s number left next at e h n k =
    at-end bytes s number left.0 left.1 at (sym e) h (sym (ap has_nothing n) ∙ k)

pub told-band : (bytes : List ℕ) (s : Sheet) (number : ℕ) (left : List (List ℕ) × List ℕ) → IsAt bytes s number left →
    has_end s.last ≡ true → is_some s.setup.band ≡ true
told-band bytes s number left at h =
    let far = ended-far s.last h in
    (whole-band (rank s.last) s.setup.version s.setup.band (omega arith) at.sound.ranges.version at.sound.band).some
