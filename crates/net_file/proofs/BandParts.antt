-- The line of a part of the band.
use Rattle.std.proofs.Common.{◌≡◌, refl, sym, ◌∙◌, ap, ℕ, ◌-◌, ◌<◌, ◌^◌, ℤ, pos, negsuc, Bool, true, false, cond, ◌&&◌, ◌||◌, not, List, [], ◌∷◌, length, map, nat_eq, Option, Some, None, is_some, arith}
use Rattle.std.specs.Prelude.{nat_lt, nat_abs, int_le, ◌-ℤ◌, option_and_then}
use Rattle.std.specs.Option.{unwrap_or}
use Rattle.std.specs.Bool.{then_some}
use Rattle.std.specs.Fmt.{signed_decimal}
use Rattle.std.proofs.lemmas.Bool.{and_parts, and_from, lt-ltb, both_ways, ne_eqb}
use Rattle.std.proofs.lemmas.Int.{ints}
use Rattle.eon_model.specs.Grid as grid
use Rattle.eon_model.specs.Grid.{is_units, is_band, span_of}
use Rattle.eon_model.specs.Numerals.{is_signed, signed_value}
use Rattle.eon_model.specs.NetworkFault as model
use Rattle.eon_model.specs.NetworkFault.{Fields, AUnit, Band, first_fields, band_floor, least_unit, greatest_unit, units_in_range}
use Rattle.eon_model.proofs.GridLaws.{le-int_le, int_le-le}
use Rattle.eon_base.specs.Numbers.{integer_of}
use Rattle.eon_base.proofs.OneSpellingLaws.{one_signed_spelling}
use Rattle.net_graph.proofs.WordLemmas.{same_bool}
use Rattle.net_file.specs.LineWords.{capped_signed, band_words}
use Rattle.net_file.specs.Steps.{units_between, leaves_room}
use Rattle.net_file.specs.Drafts.{part_line_words}
use Rattle.net_file.proofs.BandLines.{Before, floor-told}
use Rattle.net_file.proofs.FrontParts.{form_of, ranges_of, and_more, through, ReadsAs}
use Rattle.eon_model.proofs.TextNumbers.{some_is}

abbrev cap_signed : ℤ → ℤ
cap_signed z = cond (nat_lt (nat_abs z) (2 ^ 63)) z (pos (2 ^ 63 - 1))

abbrev in_units : ℤ → Bool
in_units z = int_le (negsuc 4095) z && int_le z (pos 4095)

-- a number of units is not capped
small_unit : (z : ℤ) → in_units z ≡ true → nat_abs z < 2 ^ 63
small_unit (pos n) h = let k = int_le-le (pos n) (pos 4095) (and_parts (int_le (negsuc 4095) (pos n)) (int_le (pos n) (pos 4095)) h).1 in
    omega (arith, ints)
small_unit (negsuc n) h = let k = int_le-le (negsuc 4095) (negsuc n) (and_parts (int_le (negsuc 4095) (negsuc n)) (int_le (negsuc n) (pos 4095)) h).0 in
    omega (arith, ints)

kept : (z : ℤ) → in_units z ≡ true → cap_signed z ≡ z
kept z h = λ i. cond (lt-ltb (nat_abs z) (2 ^ 63) (small_unit z h) i) z (pos (2 ^ 63 - 1))

-- a capped number of units is the number
kept_by : (z : ℤ) (b : Bool) → nat_lt (nat_abs z) (2 ^ 63) ≡ b → in_units (cond b z (pos (2 ^ 63 - 1))) ≡ true →
    cond b z (pos (2 ^ 63 - 1)) ≡ z
kept_by z true e h = refl
kept_by z false e h =
    absurd (let k = int_le-le (pos (2 ^ 63 - 1)) (pos 4095) (and_parts (int_le (negsuc 4095) (pos (2 ^ 63 - 1)))
    (int_le (pos (2 ^ 63 - 1)) (pos 4095)) h).1 in omega (arith, ints))

capped_kept : (z : ℤ) → in_units (cap_signed z) ≡ true → cap_signed z ≡ z
capped_kept z h = kept_by z (nat_lt (nat_abs z) (2 ^ 63)) refl h

-- ---- in range, of the numbers and of the capped ones

-- Of a part that begins where a band does: how far it is from there, and whether it leaves room.
module _ (floor : ℤ → ℤ) (room : ℤ → ℤ → Bool) where
  abbrev pub reaches : ℤ → ℤ → Bool
  reaches lo hi = int_le (hi -ℤ floor lo) (pos 1023) && room lo hi

  abbrev pub told_part : ℤ → ℤ → Bool
  told_part lo hi =
      (in_units lo && (in_units hi && true)) && (int_le lo hi && int_le (hi -ℤ floor lo) (pos 1023) && room lo hi)

  abbrev pub is_part : ℤ → ℤ → Bool
  is_part lo hi = is_units (units_between (lo, hi)) && reaches lo hi

  record InPart (lo hi : ℤ) : Type 0 where
    lo_in : in_units lo ≡ true
    hi_in : in_units hi ≡ true
    rise : int_le lo hi ≡ true
    wide : int_le (hi -ℤ floor lo) (pos 1023) ≡ true
    free : room lo hi ≡ true

  told_parts : (lo hi : ℤ) → told_part lo hi ≡ true → InPart lo hi
  told_parts lo hi h =
      let p = and_parts (in_units lo && (in_units hi && true)) (int_le lo hi && int_le (hi -ℤ floor lo) (pos 1023) && room lo hi) h in
      let q = and_parts (in_units lo) (in_units hi && true) p.0 in
      let r = and_parts (in_units hi) true q.1 in
      let t = and_parts (int_le lo hi && int_le (hi -ℤ floor lo) (pos 1023)) (room lo hi) p.1 in
      let u = and_parts (int_le lo hi) (int_le (hi -ℤ floor lo) (pos 1023)) t.0 in
      record { lo_in = q.0; hi_in = r.0; rise = u.0; wide = u.1; free = t.1 }

  told_from : (lo hi : ℤ) → InPart lo hi → told_part lo hi ≡ true
  told_from lo hi b =
      and_from _ _ (and_from (in_units lo) (in_units hi && true) b.lo_in (and_from (in_units hi) true b.hi_in refl))
      (and_from _ _ (and_from _ _ b.rise b.wide) b.free)

  part_parts : (lo hi : ℤ) → is_part lo hi ≡ true → InPart lo hi
  part_parts lo hi h =
      let p = and_parts (is_units (units_between (lo, hi))) (reaches lo hi) h in
      let t = and_parts (int_le (hi -ℤ floor lo) (pos 1023)) (room lo hi) p.1 in
      let q = and_parts (int_le (negsuc 4095) lo && int_le lo hi) (int_le hi (pos 4095)) p.0 in
      let r = and_parts (int_le (negsuc 4095) lo) (int_le lo hi) q.0 in
      let a = int_le-le (negsuc 4095) lo r.0 in
      let b = int_le-le lo hi r.1 in
      let c = int_le-le hi (pos 4095) q.1 in
      record {
        lo_in = and_from _ _ r.0 (le-int_le lo (pos 4095) (omega (arith, ints)));
        hi_in = and_from _ _ (le-int_le (negsuc 4095) hi (omega (arith, ints))) q.1;
        rise = r.1;
        wide = t.0;
        free = t.1;
      }

  part_from : (lo hi : ℤ) → InPart lo hi → is_part lo hi ≡ true
  part_from lo hi b =
      let l = and_parts (int_le (negsuc 4095) lo) (int_le lo (pos 4095)) b.lo_in in
      let h = and_parts (int_le (negsuc 4095) hi) (int_le hi (pos 4095)) b.hi_in in
      and_from (is_units (units_between (lo, hi))) (reaches lo hi)
      (and_from _ (int_le hi (pos 4095)) (and_from _ (int_le lo hi) l.0 b.rise) h.1) (and_from _ _ b.wide b.free)

  same_part : (lo hi : ℤ) → told_part lo hi ≡ is_part (cap_signed lo) (cap_signed hi)
  same_part lo hi = same_bool _ _
      (λ h.
      let b = told_parts lo hi h in
      let one = kept lo b.lo_in in
      let two = kept hi b.hi_in in
      (λ i. is_part (one i) (two i)) ∙ part_from lo hi b)
      (λ h.
      let b = part_parts (cap_signed lo) (cap_signed hi) h in
      let one = capped_kept lo b.lo_in in
      let two = capped_kept hi b.hi_in in
      told_from lo hi (record {
        lo_in = sym (ap in_units one) ∙ b.lo_in;
        hi_in = sym (ap in_units two) ∙ b.hi_in;
        rise = sym (λ i. int_le (one i) (two i)) ∙ b.rise;
        wide = sym (λ i. int_le (two i -ℤ floor (one i)) (pos 1023)) ∙ b.wide;
        free = sym (λ i. room (one i) (two i)) ∙ b.free;
      }))

-- ---- the line

abbrev pub band_rest : ℤ × ℤ → Fields
band_rest ends = signed_decimal ends.0 ∷ signed_decimal ends.1 ∷ []

abbrev no_ends : Option (ℤ × ℤ)
no_ends = None

abbrev made_ends : Bool → ℤ → ℤ → Option (ℤ × ℤ)
made_ends done lo hi = then_some done (lo, hi)

abbrev two : Bool → List ℕ → List ℕ → Option (ℤ × ℤ)
two done x y =
    option_and_then (λ (lo : ℤ). option_and_then (λ (hi : ℤ). made_ends done lo hi) (capped_signed y))
    (capped_signed x)

two_form : (done : Bool) (x y : List ℕ) → (is_signed x && (is_signed y && done)) ≡ is_some (two done x y)
two_form done x y =
    let vx = cap_signed (signed_value x) in
    let vy = cap_signed (signed_value y) in
    and_more (is_signed x) vx (λ (lo : ℤ). option_and_then (λ (hi : ℤ). made_ends done lo hi) (capped_signed y))
    (is_signed y && done)
    (and_more (is_signed y) vy (λ (hi : ℤ). made_ends done vx hi) done (made done vx vy))
  where
    made : (done : Bool) (lo hi : ℤ) → done ≡ is_some (made_ends done lo hi)
    made true lo hi = refl
    made false lo hi = refl

record TwoRead (done : Bool) (x y : List ℕ) (ends : ℤ × ℤ) : Type 0 where
  all : done ≡ true
  x_is : is_signed x ≡ true
  y_is : is_signed y ≡ true
  is : (cap_signed (signed_value x), cap_signed (signed_value y)) ≡ ends

two_made : (done : Bool) (x y : List ℕ) (ends : ℤ × ℤ) → is_signed x ≡ true → is_signed y ≡ true →
    made_ends done (cap_signed (signed_value x)) (cap_signed (signed_value y)) ≡ Some ends → TwoRead done x y ends
two_made true x y ends hx hy e = record { all = refl; x_is = hx; y_is = hy; is = some_is _ ends e }
two_made false x y ends hx hy e = cc

two_read : (done : Bool) (x y : List ℕ) (ends : ℤ × ℤ) → two done x y ≡ Some ends → TwoRead done x y ends
two_read done x y ends e =
    let vx = cap_signed (signed_value x) in
    let vy = cap_signed (signed_value y) in
    let p = through (is_signed x) vx (λ (lo : ℤ). option_and_then (λ (hi : ℤ). made_ends done lo hi) (capped_signed y)) ends e in
    let q = through (is_signed y) vy (λ (hi : ℤ). made_ends done vx hi) ends p.1 in
    two_made done x y ends p.0 q.0 q.1

-- a capped number of units is the number, and its bytes are the number's spelling
signed_spelled : (bytes : List ℕ) → is_signed bytes ≡ true → in_units (cap_signed (signed_value bytes)) ≡ true →
    bytes ≡ signed_decimal (cap_signed (signed_value bytes))
signed_spelled bytes formed within =
    let v = signed_value bytes in
    let is = capped_kept v within in
    let small = small_unit v (sym (ap in_units is) ∙ within) in
    let here = lt-ltb (nat_abs v) (2 ^ 63) small in
    let read : integer_of bytes ≡ Some v = (λ i. cond (formed i && here i) (Some v) None) in
    (one_signed_spelling v bytes small).0 read ∙ ap signed_decimal (sym is)

-- where the band begins, and whether a part leaves the room that it has to
abbrev pub floor_at : Option grid.Band → ℤ → ℤ
floor_at None lo = lo
floor_at (Some band) lo = (span_of band).lo

abbrev pub room_at : ℕ → Option grid.Band → ℤ → ℤ → Bool
room_at version None lo hi = not (nat_eq version 2) || leaves_room (units_between (lo, hi))
room_at version (Some band) lo hi = true

abbrev pub is_part_at : ℕ → Option grid.Band → ℤ × ℤ → Bool
is_part_at version band ends = is_part (floor_at band) (room_at version band) ends.0 ends.1

or_false : (a b : Bool) → (a || false || b) ≡ (a || b)
or_false true b = refl
or_false false b = refl

or_true : (a b : Bool) → (a || true || b) ≡ true
or_true true b = refl
or_true false b = refl

floor_told : (earlier : List Fields) (version : ℕ) (band : Option grid.Band) → Before earlier version band →
    (fields : Fields) → band_floor earlier fields ≡ floor_at band (least_unit fields)
floor_told earlier version None b fields =
    ap (λ (v : List Fields). least_unit (unwrap_or (first_fields v) fields)) b.lines
floor_told earlier version (Some band) b fields =
    ap (λ (v : List Fields). least_unit (unwrap_or (first_fields v) fields)) b.lines ∙ floor-told band b.good fields

some_line : (band : grid.Band) → is_band band ≡ true → nat_eq (length (map part_line_words band)) 0 ≡ false
some_line [] h = absurd (both_ways (is_band []) refl h)
some_line (part ∷ parts) h = ne_eqb (length (map part_line_words (part ∷ parts))) 0 (λ e. absurd (omega arith))

room_told : (earlier : List Fields) (version : ℕ) (band : Option grid.Band) → Before earlier version band →
    (fields : Fields) → model.leaves_room earlier fields ≡ room_at version band (least_unit fields) (greatest_unit fields)
room_told earlier version None b fields =
    let free = leaves_room (units_between (least_unit fields, greatest_unit fields)) in
    (λ i. not (b.many i) || not (nat_eq (length (b.lines i)) 0) || free) ∙ or_false (not (nat_eq version 2)) free
room_told earlier version (Some band) b fields =
    let free = leaves_room (units_between (least_unit fields, greatest_unit fields)) in
    (λ i. not (b.many i) || not (nat_eq (length (b.lines i)) 0) || free)
    ∙ (λ i. not (nat_eq version 2) || not (some_line band b.good i) || free) ∙ or_true (not (nat_eq version 2)) free

module _ (earlier : List Fields) (version : ℕ) (band : Option grid.Band) (told : Before earlier version band) where
  units_told : (word x y : List ℕ) →
      ((in_units (signed_value x) && (in_units (signed_value y) && true)) && units_in_range earlier Band (word ∷ x ∷ y ∷ []))
      ≡ is_part_at version band (cap_signed (signed_value x), cap_signed (signed_value y))
  units_told word x y =
      let fields = word ∷ x ∷ y ∷ [] in
      let lo = signed_value x in
      let hi = signed_value y in
      (λ i. (in_units lo && (in_units hi && true))
      && (int_le lo hi && int_le (hi -ℤ floor_told earlier version band told fields i) (pos 1023)
      && room_told earlier version band told fields i))
      ∙ same_part (floor_at band) (room_at version band) lo hi

  pub band_reads : (word : List ℕ) (rest : Fields) →
      ReadsAs earlier Band word rest (band_words rest) (is_part_at version band) band_rest
  unfolding band_words
  band_reads word [] = record {
    form = form_of Band (AUnit ∷ AUnit ∷ []) word [] refl;
    ranges = λ a e. cc;
    spelled = λ a e t. cc;
  }
  band_reads word (x ∷ []) = record {
    form = form_of Band (AUnit ∷ AUnit ∷ []) word (x ∷ []) refl
        ∙ and_more (is_signed x) (cap_signed (signed_value x)) (λ (lo : ℤ). no_ends) false refl;
    ranges = λ a e. let p = through (is_signed x) (cap_signed (signed_value x)) (λ (lo : ℤ). no_ends) a e in cc;
    spelled = λ a e t. let p = through (is_signed x) (cap_signed (signed_value x)) (λ (lo : ℤ). no_ends) a e in cc;
  }
  band_reads word (x ∷ y ∷ []) = record {
    form = form_of Band (AUnit ∷ AUnit ∷ []) word (x ∷ y ∷ []) refl ∙ two_form true x y;
    ranges = λ a e. let r = two_read true x y a e in
        ranges_of earlier Band (AUnit ∷ AUnit ∷ []) word (x ∷ y ∷ []) refl
        ∙ units_told word x y ∙ ap (is_part_at version band) r.is;
    spelled = λ a e t.
        let r = two_read true x y a e in
        let b = part_parts (floor_at band) (room_at version band) (cap_signed (signed_value x)) (cap_signed (signed_value y))
        (ap (is_part_at version band) r.is ∙ t) in
        let lo = signed_spelled x r.x_is b.lo_in ∙ ap (λ (ends : ℤ × ℤ). signed_decimal ends.0) r.is in
        let hi = signed_spelled y r.y_is b.hi_in ∙ ap (λ (ends : ℤ × ℤ). signed_decimal ends.1) r.is in
        λ i. lo i ∷ hi i ∷ [];
  }
  band_reads word (x ∷ y ∷ z ∷ rest) = record {
    form = form_of Band (AUnit ∷ AUnit ∷ []) word (x ∷ y ∷ z ∷ rest) refl ∙ two_form false x y;
    ranges = λ a e. let r = two_read false x y a e in let k = r.all in cc;
    spelled = λ a e t. let r = two_read false x y a e in let k = r.all in cc;
  }
