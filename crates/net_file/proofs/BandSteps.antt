-- The lines of the band: each is taken in its turn.
use Rattle.std.proofs.Common.{◌≡◌, refl, sym, ◌∙◌, ap, subst, ℕ, zero, suc, ◌≤◌, ℤ, pos, ◌+ℤ◌, ◌-ℤ◌, Bool, true, false, cond, ◌&&◌, ◌||◌, not, List, [], ◌∷◌, ◌++◌, length, map, nat_le, nat_eq, Option, Some, None, Result, Ok, Err, arith}
use Rattle.std.specs.Prelude.{codes, int_le}
use Rattle.std.specs.Option.{option_map, option_map_or, is_none}
use Rattle.std.proofs.lemmas.List.{append-nil, map-append, length-append, length-map}
use Rattle.std.proofs.lemmas.Bool.{and_parts, and_from, leb-false, not-false, both_ways}
use Rattle.eon_model.specs.Grid as grid
use Rattle.eon_model.specs.Grid.{Units, is_units, is_band, span_of}
use Rattle.eon_model.specs.NetworkFault as model
use Rattle.eon_model.specs.NetworkFault.{Word, Fields, Net, Band, Guard, K, Services, Journal, last_fields, band_lines, greatest_unit, is_too_low}
use Rattle.flex_grid.specs.Makes.{band_with}
use Rattle.flex_grid.proofs.BandFacts.{is_with, some_with, some_from}
use Rattle.net_file.specs.declared.fault.Why.{Why}
use Rattle.net_file.specs.declared.fault.Why.TheVariants as why
use Rattle.net_file.specs.Told.{why_told}
use Rattle.net_file.specs.LineWords.{band_words, ranged}
use Rattle.net_file.specs.Steps.{SoFar, Sheet, on_ok, unless_fault, told_by, units_between, parts_of, leaves_room, is_in_reach, touches, if_band, with_part, part_step, has_its_parts, may_come, setup_step, units_step, band_step}
use Rattle.net_file.specs.Drafts.{number_words, part_line_words, head_at, rank, lines_of, PartsSoFar, Sound}
use Rattle.net_file.proofs.CauseParts.{behind}
use Rattle.net_file.proofs.BandLines.{GoodBand, Before, before, end-told}
use Rattle.net_file.proofs.BandParts.{band_rest, band_reads, is_part_at}
use Rattle.net_file.proofs.RankLaws.{come-far}
use Rattle.net_file.proofs.StepParts.{Takes, Follows, nested, line-takes, checked, head-follows}
use Rattle.eon_model.proofs.TextNumbers.{least-read}

-- ---- a part of the band

abbrev with_band : Sheet → grid.Band → SoFar
with_band s band = record {
  version = s.setup.version;
  band = Some band;
  guard = s.setup.guard;
  k = s.setup.k;
  services = s.setup.services;
  journal = s.setup.journal;
  formats = s.setup.formats;
  network = s.setup.network;
}

abbrev pub band_why : Option grid.Band → Units → Option Why
band_why None part = None
band_why (Some band) part =
    cond (nat_le 8 (length band)) (Some why.Many) (cond (touches band part) (Some why.Order) None)

abbrev with_one : Option grid.Band → Units → grid.Band
with_one band part = parts_of band ++ part ∷ []

abbrev checked_part : Option grid.Band → ℤ × ℤ → Result grid.Band Why
checked_part band ends = unless_fault (band_why band (units_between ends)) (with_one band (units_between ends))

abbrev if_range : Bool → ℤ × ℤ → Result (ℤ × ℤ) Why
if_range b ends = cond b (Ok ends) (Err why.Range)

-- a first part
first_same : (version : ℕ) (ends : ℤ × ℤ) → is_units (units_between ends) ≡ true → (wide room : Bool) →
    int_le (ends.1 -ℤ ends.0) (pos 1023) ≡ wide →
    cond room (with_part None (units_between ends)) (Err why.Range)
    ≡ on_ok (checked_part None) (if_range (wide && room) ends)
first_same version ends units true true w =
    λ i. if_band (cond ((units i && true) && true && w i) (Some (units_between ends ∷ [])) None)
first_same version ends units false true w =
    λ i. if_band (cond ((units i && true) && true && w i) (Some (units_between ends ∷ [])) None)
first_same version ends units true false w = refl
first_same version ends units false false w = refl

-- a part above others
next_same : (band : grid.Band) (ends : ℤ × ℤ) → is_band band ≡ true → is_units (units_between ends) ≡ true →
    (wide : Bool) → int_le (ends.1 -ℤ (span_of band).lo) (pos 1023) ≡ wide →
    cond wide (with_part (Some band) (units_between ends)) (Err why.Range)
    ≡ on_ok (checked_part (Some band)) (if_range (wide && true) ends)
next_same band ends good units false w = refl
next_same band ends good units true w =
    by_tests (nat_le 8 (length band)) (touches band (units_between ends)) refl refl
  where
    by_tests : (many low : Bool) → nat_le 8 (length band) ≡ many → touches band (units_between ends) ≡ low →
        cond many (Err why.Many) (cond low (Err why.Order) (if_band (band_with band ends.0 ends.1)))
        ≡ unless_fault (cond many (Some why.Many) (cond low (Some why.Order) None)) (band ++ units_between ends ∷ [])
    by_tests true low m t = refl
    by_tests false true m t = refl
    by_tests false false m t =
        let few = leb-false 8 (length band) m in
        ap if_band (sym (some_with band (units_between ends) good (omega arith) units
        (and_from _ _ (not-false _ t) w)))

band_same : (version : ℕ) (band : Option grid.Band) → GoodBand band → (o : Option (ℤ × ℤ)) →
    on_ok (part_step version band) (on_ok (λ ends. Ok (units_between ends)) (ranged (λ ends. is_units (units_between ends)) o))
    ≡ on_ok (checked_part band) (ranged (is_part_at version band) o)
band_same version band good None = refl
band_same version None good (Some ends) = by_units (is_units (units_between ends)) refl
  where
    by_units : (b : Bool) → is_units (units_between ends) ≡ b →
        on_ok (part_step version None) (on_ok (λ ends. Ok (units_between ends)) (if_range b ends))
        ≡ on_ok (checked_part None) (if_range (b && (int_le (ends.1 -ℤ ends.0) (pos 1023)
        && is_in_reach version None (units_between ends))) ends)
    by_units false e = refl
    by_units true e = first_same version ends e (int_le (ends.1 -ℤ ends.0) (pos 1023))
        (is_in_reach version None (units_between ends)) refl
band_same version (Some band) good (Some ends) = by_units (is_units (units_between ends)) refl
  where
    by_units : (b : Bool) → is_units (units_between ends) ≡ b →
        on_ok (part_step version (Some band)) (on_ok (λ ends. Ok (units_between ends)) (if_range b ends))
        ≡ on_ok (checked_part (Some band)) (if_range (b && (int_le (ends.1 -ℤ (span_of band).lo) (pos 1023) && true)) ends)
    by_units false e = refl
    by_units true e = next_same band ends good e (int_le (ends.1 -ℤ (span_of band).lo) (pos 1023)) refl

-- ---- the band with it

none_why : (many low : Bool) → cond many (Some why.Many) (cond low (Some why.Order) None) ≡ None →
    (many ≡ false) × (low ≡ false)
none_why true low e = cc
none_why false true e = cc
none_why false false e = (refl, refl)

grown_good : (version : ℕ) (band : Option grid.Band) → GoodBand band → (ends : ℤ × ℤ) →
    is_part_at version band ends ≡ true → band_why band (units_between ends) ≡ None →
    is_band (with_one band (units_between ends)) ≡ true
grown_good version None good ends h e =
    let p = and_parts (is_units (units_between ends)) (int_le (ends.1 -ℤ ends.0) (pos 1023)
    && is_in_reach version None (units_between ends)) h in
    let q = and_parts (int_le (ends.1 -ℤ ends.0) (pos 1023)) (is_in_reach version None (units_between ends)) p.1 in
    (some_from (units_between ends) p.0 q.0).0
grown_good version (Some band) good ends h e =
    let p = and_parts (is_units (units_between ends)) (int_le (ends.1 -ℤ (span_of band).lo) (pos 1023) && true) h in
    let q = and_parts (int_le (ends.1 -ℤ (span_of band).lo) (pos 1023)) true p.1 in
    let free = none_why (nat_le 8 (length band)) (touches band (units_between ends)) e in
    let few = leb-false 8 (length band) free.0 in
    is_with band (units_between ends) good (omega arith) p.0 (and_from _ _ (not-false _ free.1) q.0)

not_two : (two room : Bool) → (not two || room) ≡ true → two ≡ true → room ≡ true
not_two true room h e = h
not_two false room h e = cc

more_than_one : (band : grid.Band) (part : Units) → is_band band ≡ true → length (band ++ part ∷ []) ≡ 1 → ⊥
more_than_one [] part h e = both_ways (is_band []) refl h
more_than_one (first ∷ band) part h e = let n = length-append (first ∷ band) (part ∷ []) in absurd (omega arith)

grown_parts : (version : ℕ) (band : Option grid.Band) → GoodBand band → (ends : ℤ × ℤ) →
    (is_none band || nat_eq version 2) ≡ true → is_part_at version band ends ≡ true →
    band_why band (units_between ends) ≡ None → PartsSoFar 2 version (with_one band (units_between ends))
grown_parts version None good ends may h e =
    let p = and_parts (is_units (units_between ends)) (int_le (ends.1 -ℤ ends.0) (pos 1023)
    && is_in_reach version None (units_between ends)) h in
    let q = and_parts (int_le (ends.1 -ℤ ends.0) (pos 1023)) (is_in_reach version None (units_between ends)) p.1 in
    record {
      reached = omega arith;
      good = grown_good version None good ends h e;
      one = λ other. refl;
      more = λ two far. absurd (omega arith);
      room = λ two one. not_two (nat_eq version 2) (leaves_room (units_between ends)) q.1 two;
    }
grown_parts version (Some band) good ends may h e = record {
  reached = omega arith;
  good = grown_good version (Some band) good ends h e;
  one = λ other. absurd (both_ways (nat_eq version 2) other may);
  more = λ two far. absurd (omega arith);
  room = λ two one. absurd (more_than_one band (units_between ends) good one);
}

-- ---- its line

abbrev touch_at : Option grid.Band → ℤ → Bool
touch_at None z = false
touch_at (Some band) z = not (int_le ((span_of band).hi +ℤ pos 2) z)

low_told : (earlier : List Fields) (version : ℕ) (band : Option grid.Band) → Before earlier version band → (z : ℤ) →
    option_map_or (λ last. not (int_le (greatest_unit last +ℤ pos 2) z)) (last_fields (band_lines earlier)) false
    ≡ touch_at band z
low_told earlier version None b z =
    ap (λ (v : List Fields). option_map_or (λ last. not (int_le (greatest_unit last +ℤ pos 2) z)) (last_fields v) false) b.lines
low_told earlier version (Some band) b z =
    ap (λ (v : List Fields). option_map_or (λ last. not (int_le (greatest_unit last +ℤ pos 2) z)) (last_fields v) false) b.lines
    ∙ end-told band b.good z

why_cases : (many low : Bool) → cond many (Some model.Many) (cond low (Some model.Order) None)
    ≡ option_map why_told (cond many (Some why.Many) (cond low (Some why.Order) None))
why_cases true low = refl
why_cases false true = refl
why_cases false false = refl

band_cases : (band : Option grid.Band) (part : Units) →
    cond (nat_le 8 (length (parts_of band))) (Some model.Many) (cond (touch_at band part.lo) (Some model.Order) None)
    ≡ option_map why_told (band_why band part)
band_cases None part = refl
band_cases (Some band) part = why_cases (nat_le 8 (length band)) (touches band part)

behind_band : (earlier : List Fields) (version : ℕ) (band : Option grid.Band) → Before earlier version band →
    (ends : ℤ × ℤ) → is_units (units_between ends) ≡ true →
    behind earlier Band (codes "band" ∷ band_rest ends) ≡ option_map why_told (band_why band (units_between ends))
behind_band earlier version band b ends units =
    let part = units_between ends in
    let low = least-read part units in
    let many : nat_le 8 (length (band_lines earlier)) ≡ nat_le 8 (length (parts_of band)) =
    ap (λ (v : List Fields). nat_le 8 (length v)) b.lines ∙ ap (nat_le 8) (length-map (parts_of band) part_line_words) in
    let order : is_too_low earlier (part_line_words part) ≡ touch_at band part.lo =
    ap (λ (z : ℤ). option_map_or (λ last. not (int_le (greatest_unit last +ℤ pos 2) z)) (last_fields (band_lines earlier)) false) low
    ∙ low_told earlier version band b part.lo in
    (λ i. cond (many i) (Some model.Many) (cond (order i) (Some model.Order) None)) ∙ band_cases band part

heads_grow : (s t : SoFar) (part : Units) → t.version ≡ s.version →
    parts_of t.band ≡ parts_of s.band ++ part ∷ [] →
    (number_words (codes "net") t.version ∷ map part_line_words (parts_of t.band)) ++ []
    ≡ ((number_words (codes "net") s.version ∷ map part_line_words (parts_of s.band)) ++ []) ++ part_line_words part ∷ []
heads_grow s t part v b =
    let net = number_words (codes "net") s.version in
    let parts = map part_line_words (parts_of s.band) in
    append-nil (number_words (codes "net") t.version ∷ map part_line_words (parts_of t.band))
    ∙ (λ i. number_words (codes "net") (v i) ∷ map part_line_words (b i))
    ∙ ap (λ (w : List Fields). net ∷ w) (map-append part_line_words (parts_of s.band) (part ∷ []))
    ∙ ap (λ (w : List Fields). w ++ part_line_words part ∷ []) (sym (append-nil (net ∷ parts)))

band_head : (far : ℕ) (s t : SoFar) (part : Units) → 1 ≤ far → far ≤ 2 → t.version ≡ s.version →
    parts_of t.band ≡ parts_of s.band ++ part ∷ [] → head_at 2 t ≡ head_at far s ++ part_line_words part ∷ []
band_head zero s t part l m v b = absurd (omega arith)
band_head (suc zero) s t part l m v b = heads_grow s t part v b
band_head (suc (suc zero)) s t part l m v b = heads_grow s t part v b
band_head (suc (suc (suc far))) s t part l m v b = absurd (omega arith)

band_grown : (s : Sheet) → Sound s → may_come s Band ≡ true → (ends : ℤ × ℤ) →
    is_part_at s.setup.version s.setup.band ends ≡ true →
    Follows s Band (codes "band" ∷ band_rest ends)
    (on_ok (λ (band : grid.Band). Ok (with_band s band)) (checked_part s.setup.band ends))
band_grown s sound may ends within =
    let far = come-far s Band may in
    let r = sound.ranges in
    let told = before s sound in
    let part = units_between ends in
    let o = band_why s.setup.band part in
    let units = (and_parts (is_units part) _ within).0 in
    let its = (and_parts (model.may_stand_after s.last Band) (has_its_parts s.setup Band) may).1 in
    checked s Band (codes "band" ∷ band_rest ends) o (with_one s.setup.band part) (with_band s)
    (behind_band (lines_of s) s.setup.version s.setup.band told ends units)
    (λ free.
    (head-follows s Band (codes "band" ∷ band_rest ends) (with_band s (with_one s.setup.band part)) sound (omega arith)
    (omega arith) (omega arith) refl
    (behind_band (lines_of s) s.setup.version s.setup.band told ends units ∙ ap (option_map why_told) free)
    (band_head (rank s.last) s.setup (with_band s (with_one s.setup.band part)) part (omega arith) (omega arith) refl refl)
    (record {
      version = r.version;
      guard = r.guard;
      k = r.k;
      services = r.services;
      journal = r.journal;
      rows = r.rows;
      graph = r.graph;
    }) (grown_parts s.setup.version s.setup.band told.good ends its within free) (sound.no_formats (omega arith)) refl).1)

pub band-takes : (s : Sheet) → Sound s → may_come s Band ≡ true → (rest : Fields) →
    Takes s (codes "band" ∷ rest) (on_ok (λ setup. Ok (told_by Band setup)) (setup_step Band s.setup rest))
unfolding setup_step band_step units_step
band-takes s sound may rest =
    let told = before s sound in
    let version = s.setup.version in
    let band = s.setup.band in
    let fields = codes "band" ∷ rest in
    let read = ranged (is_part_at version band) (band_words rest) in
    subst (λ (v : Result SoFar Why). Takes s fields (on_ok (λ setup. Ok (told_by Band setup)) v))
    (sym (ap (λ (v : Result grid.Band Why). on_ok (λ (b : grid.Band). Ok (with_band s b)) v)
    (band_same version band told.good (band_words rest))
    ∙ nested (λ (b : grid.Band). Ok (with_band s b)) (checked_part band) read))
    (line-takes s Band (codes "band") rest (band_words rest) (is_part_at version band) band_rest
    (λ ends. on_ok (λ (b : grid.Band). Ok (with_band s b)) (checked_part band ends)) sound refl may
    (band_reads (lines_of s) version band told (codes "band") rest)
    (λ ends e t is.
    subst (λ (v : Fields). Follows s Band (codes "band" ∷ v)
    (on_ok (λ (b : grid.Band). Ok (with_band s b)) (checked_part band ends))) (sym is)
    (band_grown s sound may ends t)))
