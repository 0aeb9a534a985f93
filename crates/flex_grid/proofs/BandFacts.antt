-- What one more part asks of a band, and where its span ends.
use Rattle.std.proofs.Common.{◌≡◌, refl, sym, ◌∙◌, ap, subst, ℕ, zero, suc, ◌+◌, ◌-◌, ◌<◌, pos, ◌+ℤ◌, ◌-ℤ◌, Bool, true, false, cond, ◌&&◌, List, [], ◌∷◌, ◌++◌, length, take, drop, slice_index_or, slice_set, Some, None, arith}
use Rattle.std.specs.Prelude.{int_le, nat_le, replicate}
use Rattle.std.specs.List.{list_all}
use Rattle.std.proofs.Math.Bool.{and-true, and-false, and_assoc}
use Rattle.std.proofs.lemmas.Bool.{le-leb, both_ways}
use Rattle.std.proofs.lemmas.List.{length-append, length-set, length-take-le, take_more_set, drop-set-lt, drop-drop, drop-replicate}
use Rattle.std.proofs.lemmas.List.Folds.{list_all-append}
use Rattle.eon_model.specs.Grid.{Units, Band, is_units, parts_ascend, span_from, span_of, is_band}
use Rattle.eon_model.proofs.BandLaws.{band-parts}
use Rattle.flex_grid.specs.Makes.{units_from, leaves_room_for, band_with, band_from}
use Rattle.flex_grid.specs.Padded.{blank, IsPadded}
use Rattle.eon_model.proofs.SpanLaws.{span-lo}

-- ---- ends

last : (part : Units) (parts : Band) (i : ℕ) (q : Units) → i ≡ length parts →
    q ≡ slice_index_or (part ∷ parts) i q → (span_from part parts).hi ≡ q.hi
last part [] zero q n e = λ i. (sym e i).hi
last part [] (suc i) q n e = absurd (omega (arith, n))
last part (next ∷ parts) zero q n e = absurd (omega (arith, n))
last part (next ∷ parts) (suc i) q n e = last next parts i q (omega (arith, n)) e

-- the span ends where the last part does
pub span_end : (band : Band) (q : Units) → is_band band ≡ true →
    q ≡ slice_index_or band (length band - 1) q → (span_of band).hi ≡ q.hi
span_end [] q is e = absurd (both_ways false refl is)
span_end (part ∷ parts) q is e = last part parts (length (part ∷ parts) - 1) q (omega arith) e

-- with one part more, it ends with that one
span-with : (part : Units) (parts : Band) (p : Units) →
    span_from part (parts ++ p ∷ []) ≡ record { lo = part.lo; hi = p.hi }
span-with part [] p = refl
span-with part (next ∷ parts) p = λ i. record { lo = part.lo; hi = (span-with next parts p i).hi }

-- ---- one part more

ascend-with : (part : Units) (parts : Band) (p : Units) →
    parts_ascend (part ∷ (parts ++ p ∷ []))
    ≡ (parts_ascend (part ∷ parts) && int_le ((span_from part parts).hi +ℤ pos 2) p.lo)
ascend-with part [] p = and-true (int_le (part.hi +ℤ pos 2) p.lo)
ascend-with part (next ∷ parts) p =
    ap (λ b. int_le (part.hi +ℤ pos 2) next.lo && b) (ascend-with next parts p)
    ∙ sym (and_assoc (int_le (part.hi +ℤ pos 2) next.lo) (parts_ascend (next ∷ parts))
    (int_le ((span_from next parts).hi +ℤ pos 2) p.lo))

-- room for it, a range, and where it may stand
abbrev pub fits_above : Band → Units → Bool
fits_above band p = nat_le (length band + 1) 8 && is_units p && leaves_room_for band p

is_band-with : (band : Band) (p : Units) → is_band band ≡ true → is_band (band ++ p ∷ []) ≡ fits_above band p
is_band-with [] p is = absurd (both_ways false refl is)
is_band-with (part ∷ parts) p is =
    let band : Band = part ∷ parts in
    let facts = band-parts band is in
    let long : length (band ++ p ∷ []) ≡ (length band + 1) = length-append band (p ∷ []) in
    let units : list_all is_units (band ++ p ∷ []) ≡ is_units p =
    list_all-append is_units band (p ∷ []) ∙ (λ i. facts.units i && and-true (is_units p) i) in
    let ascends : parts_ascend (band ++ p ∷ []) ≡ int_le ((span_of band).hi +ℤ pos 2) p.lo =
    ascend-with part parts p ∙ ap (λ b. b && int_le ((span_of band).hi +ℤ pos 2) p.lo) facts.ascend in
    let span : span_of (band ++ p ∷ []) ≡ record { lo = (span_of band).lo; hi = p.hi } =
    span-with part parts p ∙ (λ i. record { lo = sym (span-lo part parts) i; hi = p.hi }) in
    let some : nat_le 1 (length band + 1) ≡ true = le-leb 1 (length band + 1) (omega arith) in
    (λ i. nat_le 1 (long i) && nat_le (long i) 8 && units i && ascends i && int_le ((span i).hi -ℤ (span i).lo) (pos 1023))
    ∙ ap (λ b. b && nat_le (length band + 1) 8 && is_units p && int_le ((span_of band).hi +ℤ pos 2) p.lo
    && int_le (p.hi -ℤ (span_of band).lo) (pos 1023)) some
    ∙ and_assoc (nat_le (length band + 1) 8 && is_units p) (int_le ((span_of band).hi +ℤ pos 2) p.lo)
    (int_le (p.hi -ℤ (span_of band).lo) (pos 1023))

-- what is read where the numbers are a range
pub made : (u p : Units) → Some p ≡ units_from u.lo u.hi → (is_units u ≡ true) × (p ≡ u)
made u p e = by (is_units u) e
  where
    by : (b : Bool) → Some p ≡ cond b (Some u) None → (b ≡ true) × (p ≡ u)
    by true h = let same : p ≡ u = cc in (refl, same)
    by false h = cc

module _ (band : Band) (u : Units) (is : is_band band ≡ true) where
  no_band : fits_above band u ≡ false → None ≡ band_with band u.lo u.hi
  no_band e = sym (ap (λ b. cond b (Some (band ++ u ∷ [])) None) (is_band-with band u is ∙ e))

  pub none_full : length band ≡ 8 → None ≡ band_with band u.lo u.hi
  none_full n = no_band (ap (λ k. nat_le (k + 1) 8 && is_units u && leaves_room_for band u) n)

  pub none_near : leaves_room_for band u ≡ false → None ≡ band_with band u.lo u.hi
  none_near e =
      let room = nat_le (length band + 1) 8 && is_units u in
      no_band (ap (λ b. room && b) e ∙ and-false room)

  module _ (room : length band < 8) (range : is_units u ≡ true) (above : leaves_room_for band u ≡ true) where
    pub is_with : is_band (band ++ u ∷ []) ≡ true
    is_with =
        let few : nat_le (length band + 1) 8 ≡ true = le-leb (length band + 1) 8 (omega arith) in
        is_band-with band u is ∙ (λ i. few i && range i && above i)

    pub some_with : Some (band ++ u ∷ []) ≡ band_with band u.lo u.hi
    some_with = sym (ap (λ b. cond b (Some (band ++ u ∷ [])) None) is_with)

-- the first part
pub some_from : (u : Units) → is_units u ≡ true → int_le (u.hi -ℤ u.lo) (pos 1023) ≡ true →
    (is_band (u ∷ []) ≡ true) × (Some (u ∷ []) ≡ band_from u.lo u.hi)
some_from u range reach =
    let is : is_band (u ∷ []) ≡ true = λ i. (range i && true) && true && reach i in
    (is, sym (ap (λ b. cond b (Some (u ∷ [])) None) is))

-- ---- where it stands

module _ (parts : List Units) (count : ℕ) (u : Units) (old : IsPadded parts count) (room : count < 8) where
  pub front_set : take (count + 1) (slice_set parts count u) ≡ take count parts ++ u ∷ []
  front_set = take_more_set parts count u (omega (arith, old.whole))

  pub padded_set : is_band (take count parts ++ u ∷ []) ≡ true → IsPadded (slice_set parts count u) (count + 1)
  padded_set is = record {
    whole = length-set parts count u ∙ old.whole;
    within = omega arith;
    band = ap is_band front_set ∙ is;
    blanks = drop-set-lt (count + 1) parts count u (omega arith) ∙ sym (drop-drop 1 count parts)
        ∙ ap (drop 1) old.blanks ∙ drop-replicate 1 (8 - count) blank
        ∙ (λ i. replicate ((let e : (8 - count) - 1 ≡ (8 - (count + 1)) = omega arith in e) i) blank);
  }

-- what stands in the place of a band where one part comes above its others
pub record Stands (band : Band) (parts : List Units) (count : ℕ) (u : Units) : Type 0 where
  pub padded : IsPadded parts count
  pub made : Some (take count parts) ≡ band_with band u.lo u.hi

module _ (band : Band) (parts : List Units) (count : ℕ) (view : take count parts ≡ band) (old : IsPadded parts count)
    (u p : Units) (range : (is_units u ≡ true) × (p ≡ u)) (above : leaves_room_for band p ≡ true) where
  pub stands : (at : ℕ) → at ≡ count → (at ≡ 8 → ⊥) → Stands band (slice_set parts at p) (count + 1) u
  stands at here room =
      let few : count < 8 = omega (arith, old.within, here, room) in
      let long : length band ≡ count = ap length (sym view)
      ∙ length-take-le count parts (omega (arith, old.whole, old.within)) in
      let fewer : length band < 8 = omega (arith, long, few) in
      let valid : is_band band ≡ true = ap is_band (sym view) ∙ old.band in
      let above_u = ap (leaves_room_for band) (sym range.1) ∙ above in
      let front : take (count + 1) (slice_set parts at p) ≡ band ++ u ∷ [] =
      (λ i. take (count + 1) (slice_set parts (here i) p)) ∙ front_set parts count p old few
      ∙ (λ i. view i ++ range.1 i ∷ []) in
      record {
        padded = subst (λ (k : ℕ). IsPadded (slice_set parts k p) (count + 1)) (sym here)
            (padded_set parts count p old few
            ((λ i. is_band (view i ++ range.1 i ∷ [])) ∙ is_with band u valid fewer range.0 above_u));
        made = ap Some front ∙ some_with band u valid fewer range.0 above_u;
      }
