-- What one row that is taken over changes, and several.
use Rattle.std.proofs.Common.{◌≡◌, refl, sym, ◌∙◌, ap, ℕ, ◌+◌, ◌<◌, ◌≤◌, arith, ℤ, Bool, true, false, cond, ◌&&◌, ◌||◌, not, List, [], ◌∷◌, length, get_or, set, take, nat_eq}
use Rattle.std.proofs.lemmas.Bool.{both_ways, eqb-true, eq-eqb, false_from_ne_true}
use Rattle.std.proofs.lemmas.List.{take_more, take_all, get_or-set_same, get_or-set_other}
use Rattle.std.proofs.lemmas.List.Folds.{list_any-append}
use Rattle.eon_model.specs.Grid.{Band, Units, has_unit, lies_in, span_of}
use Rattle.eon_model.specs.Lists.{has_number}
use Rattle.eon_model.specs.Rows.{Rows, takes, with_lit, without_lit}
use Rattle.eon_model.proofs.GridLaws.{lies_in-facts}
use Rattle.eon_model.proofs.SpanLaws.{SpanFacts}
use Rattle.std.proofs.lemmas.Int.{ints}
use Rattle.spectrum_map.proofs.SpanLaws.{unit-facts, facts-unit}
use Rattle.spectrum_map.specs.Bits.{bit_of}
use Rattle.spectrum_map.specs.Kept.{place_of, taken}
use Rattle.spectrum_map.specs.declared.row.Row.{Row}
use Rattle.layer_view.specs.Kept.{KeptRows, words_at}
use Rattle.layer_view.specs.Layers.{Marks, is_own, lit_over, with_row}
use Rattle.layer_view.proofs.MarkLaws.{mark_at}

and_false : (b : Bool) → (b && false) ≡ false
and_false true = refl
and_false false = refl

or_false : (b : Bool) → b ≡ (b || false)
or_false true = refl
or_false false = refl

and_true : (b : Bool) → b ≡ (b && true)
and_true true = refl
and_true false = refl

-- ---- one row

module _ (lit : ℕ → ℤ → Bool) (kept : KeptRows) (own : List Bool) (fibre : ℕ) (row : Row) (test : ℤ → Bool)
    (span : SpanFacts (span_of kept.band)) (known : fibre < length own) (there : fibre < length kept.rows)
    (marks : Marks kept.band row.words test) where
  after : KeptRows
  after = record { band = kept.band; rows = set kept.rows fibre row }

  blank : Row
  blank = record { words = [] }

  changed : (g : ℕ) (u : ℤ) (b : Bool) → nat_eq fibre g ≡ b → (c : Bool) → has_unit (span_of kept.band) u ≡ c →
      lit_over lit (record { band = kept.band; rows = set kept.rows fibre row }) (set own fibre true) g u
      ≡ cond (nat_eq fibre g && has_unit (span_of kept.band) u) (test u) (lit_over lit kept own g u)
  changed g u true e true k =
      let same = eqb-true fibre g e in
      (λ j. cond (get_or (set own fibre true) (sym same j) false && k j)
      (bit_of (words_at (set kept.rows fibre row) (sym same j)) (place_of kept.band u)) (lit g u))
      ∙ (λ j. cond (get_or-set_same own fibre true false known j && true)
      (bit_of (get_or-set_same kept.rows fibre row (record { words = [] }) there j).words (place_of kept.band u)) (lit g u))
      ∙ mark_at kept.band span row.words test marks u k
      ∙ (λ j. cond (sym e j && sym k j) (test u) (lit_over lit kept own g u))
  changed g u true e false k =
      (λ j. cond (get_or (set own fibre true) g false && k j)
      (bit_of (words_at (set kept.rows fibre row) g) (place_of kept.band u)) (lit g u))
      ∙ ap (λ b. cond b (bit_of (words_at (set kept.rows fibre row) g) (place_of kept.band u)) (lit g u))
      (and_false (get_or (set own fibre true) g false))
      ∙ ap (λ b. cond b (bit_of (words_at kept.rows g) (place_of kept.band u)) (lit g u))
      (sym (and_false (is_own own g)))
      ∙ (λ j. cond (is_own own g && sym k j) (bit_of (words_at kept.rows g) (place_of kept.band u)) (lit g u))
      ∙ (λ j. cond (sym e j && sym k j) (test u) (lit_over lit kept own g u))
  changed g u false e c k =
      let other : (g ≡ fibre) → ⊥ = λ same. both_ways (nat_eq fibre g) e (eq-eqb fibre g (sym same)) in
      (λ j. cond (get_or-set_other own fibre g true false other j && has_unit (span_of kept.band) u)
      (bit_of (get_or-set_other kept.rows fibre g row (record { words = [] }) other j).words (place_of kept.band u)) (lit g u))
      ∙ (λ j. cond (sym e j && has_unit (span_of kept.band) u) (test u) (lit_over lit kept own g u))

  pub row_taken : lit_over lit (record { band = kept.band; rows = set kept.rows fibre row }) (set own fibre true)
      ≡ with_row (lit_over lit kept own) kept.band fibre test
  row_taken = λ i g u. changed g u (nat_eq fibre g) refl (has_unit (span_of kept.band) u) refl i

-- ---- row by row

-- the units are lit on the fibres before this one
abbrev pub LitTo : (ℕ → ℤ → Bool) → (ℕ → ℤ → Bool) → List ℕ → ℕ → Units → Type 0
LitTo before now fibres n units = now ≡ (λ g u. before g u || takes g u (taken (take n fibres) units))

-- and dark
abbrev pub DarkTo : (ℕ → ℤ → Bool) → (ℕ → ℤ → Bool) → List ℕ → ℕ → Units → Type 0
DarkTo before now fibres n units = now ≡ (λ g u. before g u && not (takes g u (taken (take n fibres) units)))

pub lit_start : (lit : ℕ → ℤ → Bool) (fibres : List ℕ) (units : Units) → LitTo lit lit fibres 0 units
lit_start lit fibres units = λ i g u. or_false (lit g u) i

pub dark_start : (lit : ℕ → ℤ → Bool) (fibres : List ℕ) (units : Units) → DarkTo lit lit fibres 0 units
dark_start lit fibres units = λ i g u. and_true (lit g u) i

one_more : (fibres : List ℕ) (n g : ℕ) → n < length fibres →
    has_number (take (n + 1) fibres) g ≡ (has_number (take n fibres) g || (nat_eq (get_or fibres n 0) g || false))
one_more fibres n g l =
    ap (λ (fs : List ℕ). has_number fs g) (take_more fibres n 0 l)
    ∙ list_any-append (λ f. nat_eq f g) (take n fibres) (get_or fibres n 0 ∷ [])

module _ (band : Band) (units : Units) (inside : lies_in (span_of band) units ≡ true) (before now : ℕ → ℤ → Bool)
    (fibres : List ℕ) (n : ℕ) (l : n < length fibres) where
  f : ℕ
  f = get_or fibres n 0

  outside : (u : ℤ) → has_unit (span_of band) u ≡ false → has_unit units u ≡ false
  outside u k = false_from_ne_true (has_unit units u) λ h.
      let w = lies_in-facts (span_of band) units inside in
      let w0 = w.0 in let w1 = w.1 in
      let p = unit-facts units u h in
      let p0 = p.0 in let p1 = p.1 in
      both_ways (has_unit (span_of band) u) k
      (facts-unit (span_of band) u (omega (arith, ints)) (omega (arith, ints)))

  one_lit : (g : ℕ) (u : ℤ) (b : Bool) → nat_eq (get_or fibres n 0) g ≡ b → (c : Bool) → has_unit (span_of band) u ≡ c →
      cond (nat_eq (get_or fibres n 0) g && has_unit (span_of band) u) (now (get_or fibres n 0) u || has_unit units u) (now g u)
      ≡ (now g u || (nat_eq (get_or fibres n 0) g && has_unit units u))
  one_lit g u true e true k =
      (λ j. cond (e j && k j) (now (eqb-true (get_or fibres n 0) g e j) u || has_unit units u) (now g u))
      ∙ (λ j. now g u || (sym e j && has_unit units u))
  one_lit g u true e false k =
      (λ j. cond (e j && k j) (now (get_or fibres n 0) u || has_unit units u) (now g u)) ∙ or_false (now g u)
      ∙ (λ j. now g u || (sym e j && sym (outside u k) j))
  one_lit g u false e c k =
      (λ j. cond (e j && has_unit (span_of band) u) (now (get_or fibres n 0) u || has_unit units u) (now g u))
      ∙ or_false (now g u) ∙ (λ j. now g u || (sym e j && has_unit units u))

  one_dark : (g : ℕ) (u : ℤ) (b : Bool) → nat_eq (get_or fibres n 0) g ≡ b → (c : Bool) → has_unit (span_of band) u ≡ c →
      cond (nat_eq (get_or fibres n 0) g && has_unit (span_of band) u) (now (get_or fibres n 0) u && not (has_unit units u)) (now g u)
      ≡ (now g u && not (nat_eq (get_or fibres n 0) g && has_unit units u))
  one_dark g u true e true k =
      (λ j. cond (e j && k j) (now (eqb-true (get_or fibres n 0) g e j) u && not (has_unit units u)) (now g u))
      ∙ (λ j. now g u && not (sym e j && has_unit units u))
  one_dark g u true e false k =
      (λ j. cond (e j && k j) (now (get_or fibres n 0) u && not (has_unit units u)) (now g u)) ∙ and_true (now g u)
      ∙ (λ j. now g u && not (sym e j && sym (outside u k) j))
  one_dark g u false e c k =
      (λ j. cond (e j && has_unit (span_of band) u) (now (get_or fibres n 0) u && not (has_unit units u)) (now g u))
      ∙ and_true (now g u) ∙ (λ j. now g u && not (sym e j && has_unit units u))

  pub lit_step : LitTo before now fibres n units → (next : ℕ → ℤ → Bool) →
      next ≡ with_row now band (get_or fibres n 0) (λ u. now (get_or fibres n 0) u || has_unit units u) →
      LitTo before next fibres (n + 1) units
  lit_step so next e = e ∙ (λ i g u. at g u i)
    where
      join : (a p q h : Bool) → ((a || (p && h)) || (q && h)) ≡ (a || ((p || (q || false)) && h))
      join true p q h = refl
      join false true true true = refl
      join false true true false = refl
      join false true false true = refl
      join false true false false = refl
      join false false true true = refl
      join false false true false = refl
      join false false false true = refl
      join false false false false = refl

      at : (g : ℕ) (u : ℤ) →
          cond (nat_eq (get_or fibres n 0) g && has_unit (span_of band) u) (now (get_or fibres n 0) u || has_unit units u) (now g u)
          ≡ (before g u || takes g u (taken (take (n + 1) fibres) units))
      at g u =
          one_lit g u (nat_eq (get_or fibres n 0) g) refl (has_unit (span_of band) u) refl
          ∙ (λ j. so j g u || (nat_eq (get_or fibres n 0) g && has_unit units u))
          ∙ join (before g u) (has_number (take n fibres) g) (nat_eq (get_or fibres n 0) g) (has_unit units u)
          ∙ (λ j. before g u || (sym (one_more fibres n g l) j && has_unit units u))

  pub dark_step : DarkTo before now fibres n units → (next : ℕ → ℤ → Bool) →
      next ≡ with_row now band (get_or fibres n 0) (λ u. now (get_or fibres n 0) u && not (has_unit units u)) →
      DarkTo before next fibres (n + 1) units
  dark_step so next e = e ∙ (λ i g u. at g u i)
    where
      join : (a p q h : Bool) → ((a && not (p && h)) && not (q && h)) ≡ (a && not ((p || (q || false)) && h))
      join false p q h = refl
      join true true true true = refl
      join true true true false = refl
      join true true false true = refl
      join true true false false = refl
      join true false true true = refl
      join true false true false = refl
      join true false false true = refl
      join true false false false = refl

      at : (g : ℕ) (u : ℤ) →
          cond (nat_eq (get_or fibres n 0) g && has_unit (span_of band) u) (now (get_or fibres n 0) u && not (has_unit units u)) (now g u)
          ≡ (before g u && not (takes g u (taken (take (n + 1) fibres) units)))
      at g u =
          one_dark g u (nat_eq (get_or fibres n 0) g) refl (has_unit (span_of band) u) refl
          ∙ (λ j. so j g u && not (nat_eq (get_or fibres n 0) g && has_unit units u))
          ∙ join (before g u) (has_number (take n fibres) g) (nat_eq (get_or fibres n 0) g) (has_unit units u)
          ∙ (λ j. before g u && not (sym (one_more fibres n g l) j && has_unit units u))

pub lit_end : (before now : ℕ → ℤ → Bool) (held : ℕ → ℤ → Bool) (fibres : List ℕ) (n : ℕ) (units : Units) →
    length fibres ≤ n → LitTo before now fibres n units →
    ◌≡◌ {A = Rows} (record { lit = now; held = held }) (with_lit (taken fibres units) (record { lit = before; held = held }))
lit_end before now held fibres n units l so = λ i. record {
  lit = (so ∙ (λ j g u. before g u || takes g u (taken (take_all n fibres l j) units))) i;
  held = held;
}

pub dark_end : (before now : ℕ → ℤ → Bool) (held : ℕ → ℤ → Bool) (fibres : List ℕ) (n : ℕ) (units : Units) →
    length fibres ≤ n → DarkTo before now fibres n units →
    ◌≡◌ {A = Rows} (record { lit = now; held = held }) (without_lit (taken fibres units) (record { lit = before; held = held }))
dark_end before now held fibres n units l so = λ i. record {
  lit = (so ∙ (λ j g u. before g u && not (takes g u (taken (take_all n fibres l j) units)))) i;
  held = held;
}
