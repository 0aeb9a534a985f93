-- The greatest unit that is marked below another one.
use Rattle.std.proofs.Common.{◌≡◌, sym, ◌∙◌, ap, ℕ, ◌<◌, arith, ℤ, pos, ◌+ℤ◌, ◌<ℤ◌, Bool, true, List, Option, Some, None}
use Rattle.std.specs.Prelude.{nat_lt}
use Rattle.std.specs.Option.{option_map}
use Rattle.std.proofs.lemmas.Int.{ints}
use Rattle.std.proofs.lemmas.Bool.{lt-ltb}
use Rattle.eon_model.specs.Grid.{Band, has_unit, span_of, unit_count, is_band}
use Rattle.eon_model.specs.Rows.{greatest_below, IsGreatest}
use Rattle.eon_model.proofs.SpanLaws.{SpanFacts, span-facts}
use Rattle.eon_model.proofs.TopTaken.{top_is, top_unique}
use Rattle.spectrum_map.specs.Bits.{bit_of, IsHighestOf}
use Rattle.spectrum_map.specs.Kept.{place_of}
use Rattle.layer_view.specs.Layers.{Marks, EndsBelow}
use Rattle.layer_view.proofs.MarkLaws.{mark_at, unit_is}

module _ (band : Band) (ok : is_band band ≡ true) (words : List ℕ) (test : ℤ → Bool) (marks : Marks band words test)
    (unit : ℤ) (end : ℕ) (ends : EndsBelow band unit end) where
  span : SpanFacts (span_of band)
  span = span-facts band ok

  pub top_marked : (o : Option ℕ) → IsHighestOf (bit_of words) 0 end o →
      option_map (λ t. (span_of band).lo +ℤ pos t) o ≡ greatest_below band test unit
  top_marked None none = top_unique band ok test unit None (greatest_below band test unit)
      (λ v k b. sym (mark_at band span words test marks v k)
      ∙ none (place_of band v) (omega arith) (ends.below v k b))
      (top_is band ok test unit)
  top_marked (Some t) h = top_unique band ok test unit (Some ((span_of band).lo +ℤ pos t)) (greatest_below band test unit)
      is (top_is band ok test unit)
    where
      near : nat_lt t (unit_count (span_of band)) ≡ true
      near = let high = h.high in let w = ends.within in lt-ltb t (unit_count (span_of band)) (omega (arith, high, w))

      is : IsGreatest band test unit ((span_of band).lo +ℤ pos t)
      is =
          let at = unit_is band span t near in
          let high = h.high in
          let place = at.1 in
          record {
            within = at.0;
            below = ends.above ((span_of band).lo +ℤ pos t) at.0 (omega (arith, place, high));
            passes = sym (mark_at band span words test marks ((span_of band).lo +ℤ pos t) at.0)
                ∙ ap (bit_of words) place ∙ h.passes;
            highest = λ v k b over. sym (mark_at band span words test marks v k)
                ∙ h.none_above (place_of band v) (above v k over) (ends.below v k b);
          }
        where
          above : (v : ℤ) → has_unit (span_of band) v ≡ true → ((span_of band).lo +ℤ pos t) <ℤ v → t < place_of band v
          above v k over = omega (arith, ints)
