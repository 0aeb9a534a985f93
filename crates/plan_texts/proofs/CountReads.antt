-- The first line of a list.
use Rattle.std.proofs.Common.{◌≡◌, refl, sym, ◌∙◌, ap, ℕ, ◌<◌, ◌^◌, Bool, true, false, cond, ◌&&◌, List, [], ◌∷◌, drop, Option, Some, None, arith}
use Rattle.std.specs.Prelude.{codes, bytes_eq, nat_le}
use Rattle.std.specs.Bool.{then_some}
use Rattle.std.specs.Fmt.{decimal}
use Rattle.std.proofs.lemmas.Bool.{and_parts, and_from, leb-true, le-leb}
use Rattle.std.proofs.lemmas.Slice.Eq.{bytes_eq-Decides}
use Rattle.eon_model.specs.Numerals.{number_value}
use Rattle.eon_model.specs.NetworkFault.{Fields, field_at}
use Rattle.eon_model.specs.Spelling.{spaced, fields_of}
use Rattle.eon_model.specs.PlanReadings.{count_told}
use Rattle.eon_model.proofs.SpellingLaws.{decimal-lacks, number_value-decimal}
use Rattle.eon_model.proofs.WholeLines.{then_told}
use Rattle.eon_model.proofs.MovesAgain.{word-lacks, fields-again, space}
use Rattle.net_file.specs.Readings.{first_read, is_nil}
use Rattle.net_file.proofs.SplitText.{spaced-fields}
use Rattle.plan_texts.specs.Fields.{◌>>=◌, number_within, is_first}
use Rattle.plan_texts.specs.Plans.{count_of, count_at}
use Rattle.plan_texts.proofs.FieldSteps.{taken, passed, same_reading, number-spelled, number-read, word-front, nothing-left}

abbrev count_words : ℕ → List (List ℕ)
count_words count = codes "list" ∷ decimal count ∷ []

record CountTaken (fields : Fields) (count : ℕ) : Type 0 where
  front : fields ≡ count_words count
  few : nat_le count 4096 ≡ true

nothing_more : (b : Bool) (n count : ℕ) → cond b (Some n) None ≡ Some count → (b ≡ true) × (n ≡ count)
nothing_more true n count h = (refl, (cc))
nothing_more false n count h = absurd (cc)

count_taken : (fields : Fields) (count : ℕ) → count_at fields ≡ Some count → CountTaken fields count
unfolding count_at
count_taken fields count h =
    let f1 = drop 1 fields in
    let g = passed (is_first (codes "list") fields) (first_read (number_within 0 4096) f1 >>= count_of f1) count h in
    let n = taken (number_within 0 4096) f1 (count_of f1) count g.1 in
    let e = nothing_more (is_nil (drop 1 f1)) n.value count n.more in
    let s = number-spelled 0 4096 n.value n.field (omega arith) n.is in
    record {
      front = word-front (codes "list") fields g.0 ∙ ap (λ (fs : Fields). codes "list" ∷ fs)
          (n.front ∙ (λ i. (s.0 ∙ ap decimal e.1) i ∷ nothing-left (drop 1 f1) e.0 i));
      few = ap (λ k. nat_le k 4096) (sym e.1) ∙ (and_parts (nat_le 0 n.value) (nat_le n.value 4096) s.1).1;
    }

count_back : (count : ℕ) → nat_le count 4096 ≡ true → count_at (count_words count) ≡ Some count
unfolding count_at
count_back count h =
    ap (λ (o : Option ℕ). o >>= count_of (decimal count ∷ []))
    (number-read 0 4096 count (omega arith) (and_from _ _ (le-leb 0 count (omega arith)) h))

module _ (count : ℕ) (few : nat_le count 4096 ≡ true) where
  small : count < 2 ^ 64
  small = let l = leb-true count 4096 few in omega arith

  again : fields_of (spaced (count_words count)) ≡ count_words count
  again = fields-again (codes "list") (decimal count ∷ [])
      (word-lacks 32 space (codes "list") refl, (decimal-lacks 32 count small refl, tt))

  count_again : count_told (spaced (count_words count)) ≡ Some count
  count_again =
      let text = spaced (count_words count) in
      let at = λ (n : ℕ). then_some (nat_le n 4096 && bytes_eq text (spaced (count_words n))) n in
      ap (λ (fields : Fields). at (number_value (field_at fields 1))) again
      ∙ ap at (number_value-decimal count small)
      ∙ ap (λ b. then_some b count) (and_from _ _ few ((bytes_eq-Decides text text).1 refl))

count_line : (line : List ℕ) (count : ℕ) → count_told line ≡ Some count →
    (line ≡ spaced (count_words count)) × (nat_le count 4096 ≡ true)
count_line line count h =
    let n = number_value (field_at (fields_of line) 1) in
    let t = then_told (nat_le n 4096 && bytes_eq line (spaced (count_words n))) n count h in
    let p = and_parts (nat_le n 4096) (bytes_eq line (spaced (count_words n))) t.0 in (
      (bytes_eq-Decides line (spaced (count_words n))).0 p.1 ∙ ap (λ k. spaced (count_words k)) t.1,
      ap (λ k. nat_le k 4096) (sym t.1) ∙ p.0,
    )

pub count-read : (line : List ℕ) → count_at (fields_of line) ≡ count_told line
count-read line = same_reading (count_at (fields_of line)) (count_told line)
    (λ count h.
    let t = count_taken (fields_of line) count h in
    ap count_told (sym (spaced-fields line) ∙ ap spaced t.front) ∙ count_again count t.few)
    (λ count h.
    let l = count_line line count h in
    ap (λ (bytes : List ℕ). count_at (fields_of bytes)) l.0 ∙ ap count_at (again count l.1) ∙ count_back count l.1)
