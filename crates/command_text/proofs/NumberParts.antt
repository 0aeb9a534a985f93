-- Numbers from 1 on as parts of a line.
use Rattle.std.proofs.Common.{◌≡◌, refl, sym, ◌∙◌, ap, subst, ℕ, zero, suc, ◌+◌, ◌-◌, ◌*◌, ◌/◌, ◌%◌, ◌^◌, ◌<◌, ◌≤◌, true, List, [], ◌∷◌, ◌++◌, append_assoc, arith}
use Rattle.std.specs.Prelude.{nat_le}
use Rattle.std.specs.Fmt.{decimal}
use Rattle.std.proofs.lemmas.Fmt.{decimal_digit, decimal_step, decimal_by_steps}
use Rattle.std.proofs.lemmas.Bool.{and_parts, and_from, lt-ltb, ltb-true, le-leb, leb-true}
use Rattle.eon_model.specs.Numerals.{is_within, is_digit}
use Rattle.eon_model.specs.CommandText.{is_rate}
use Rattle.eon_model.proofs.SpellingLaws.{digit_is}
use Rattle.command_text.specs.Parts.{positive_scan, positive_at}
use Rattle.command_text.proofs.PartLaws.{Open, IsPart, part-by}
use Rattle.command_text.proofs.ScanLaws.{Reads, Scanned, Reads-append, scan-part}
use Rattle.command_text.proofs.NameParts.{OneText}

-- ---- a number from 1 on

positive_live : (most : ℕ) → 1 ≤ most → (n : ℕ) → (u : ℕ) × (t : List ℕ) × Scanned (positive_scan most) n u t
positive_live most l zero = (1, 49 ∷ [], ((and_from _ _ refl (le-leb 1 most l), refl), refl))
positive_live most l (suc n) = (suc n, [], (refl, lt-ltb 0 (suc n) (omega arith)))

pub record DigitStep (most n b : ℕ) : Type 0 where
  pub low : 48 ≤ b
  pub high : b ≤ 57
  pub some : 1 ≤ 10 * n + (b - 48)
  pub few : 10 * n + (b - 48) ≤ most

pub digit_step : (most n b : ℕ) → (positive_scan most).may n b ≡ true → DigitStep most n b
digit_step most n b h =
    let parts = and_parts (is_digit b) (is_within 1 most (10 * n + (b - 48))) h in
    let digit = and_parts (nat_le 48 b) (nat_le b 57) parts.0 in
    let range = and_parts (nat_le 1 (10 * n + (b - 48))) (nat_le (10 * n + (b - 48)) most) parts.1 in
    record { low = leb-true _ _ digit.0; high = leb-true _ _ digit.1; some = leb-true _ _ range.0; few = leb-true _ _ range.1 }

-- one more digit behind a number
one_digit_more : (n b : ℕ) → 48 ≤ b → b ≤ 57 → 1 ≤ n → n < 2 ^ 32 → decimal (10 * n + (b - 48)) ≡ decimal n ++ b ∷ []
one_digit_more n b low high some few =
    let step = decimal_step (10 * n + (b - 48)) (omega arith) (omega arith) in
    let front : (10 * n + (b - 48)) / 10 ≡ n = omega arith in
    let last : 48 + (10 * n + (b - 48)) % 10 ≡ b = omega arith in
    step ∙ (λ i. decimal (front i) ++ last i ∷ [])

first_digit : (b : ℕ) → 48 ≤ b → b ≤ 57 → decimal (10 * 0 + (b - 48)) ≡ b ∷ []
first_digit b low high =
    let value : 10 * 0 + (b - 48) ≡ b - 48 = omega arith in
    let same : 48 + (b - 48) ≡ b = omega arith in
    ap decimal value ∙ decimal_digit (b - 48) (omega arith) ∙ ap (λ v. v ∷ []) same

digits_read : (most n : ℕ) (t : List ℕ) (u : ℕ) → most < 2 ^ 32 → 1 ≤ n → n ≤ most →
    Reads (positive_scan most) n t u →
    (decimal u ≡ decimal n ++ t) × (1 ≤ u) × (u ≤ most)
digits_read most n [] u small some few h =
    (ap decimal (sym h) ∙ sym (no_more (decimal n)), omega arith, omega arith)
  where
    no_more : (w : List ℕ) → w ++ [] ≡ w
    no_more [] = refl
    no_more (b ∷ w) = ap (λ v. b ∷ v) (no_more w)
digits_read most n (b ∷ t) u small some few h =
    let s = digit_step most n b h.0 in
    let low = s.low in
    let high = s.high in
    let r = digits_read most (10 * n + (b - 48)) t u small s.some s.few h.1 in (
      r.0 ∙ ap (λ v. v ++ t) (one_digit_more n b low high some (omega arith)) ∙ append_assoc (decimal n)
          (b ∷ []) t,
      r.1,
      r.2,
    )

positive_read : (most : ℕ) (t : List ℕ) (u : ℕ) → most < 2 ^ 32 → Scanned (positive_scan most) 0 u t →
    (is_within 1 most u ≡ true) × (t ≡ decimal u)
positive_read most [] u small h = let some = ltb-true 0 u h.1 in let zero_is = h.0 in absurd (omega arith)
positive_read most (b ∷ t) u small h =
    let s = digit_step most 0 b h.0.0 in
    let low = s.low in
    let high = s.high in
    let r = digits_read most (10 * 0 + (b - 48)) t u small s.some s.few h.0.1 in
    (and_from _ _ (le-leb 1 u r.1) (le-leb u most r.2), sym (r.0 ∙ ap (λ v. v ++ t) (first_digit b low high)))

may_digit : (most n d : ℕ) → d < 10 → 1 ≤ 10 * n + d → 10 * n + d ≤ most → (positive_scan most).may n (48 + d) ≡ true
may_digit most n d l some few =
    and_from _ _ (digit_is d l) (and_from _ _ (le-leb 1 (10 * n + (48 + d - 48)) (omega arith))
    (le-leb (10 * n + (48 + d - 48)) most (omega arith)))

abbrev ReadsPositive : ℕ → ℕ → List ℕ → Type 0
ReadsPositive most n ds = 1 ≤ n → n ≤ most → Reads (positive_scan most) 0 ds n

positive_one : (most n : ℕ) → n < 10 → ReadsPositive most n ((48 + n) ∷ [])
positive_one most n l some few =
    let e : 10 * 0 + (48 + n - 48) ≡ n = omega arith in
    (may_digit most 0 n l (omega arith) (omega arith), e)

positive_more : (most n : ℕ) (ds : List ℕ) → 10 ≤ n → ReadsPositive most (n / 10) ds →
    ReadsPositive most n (ds ++ ((48 + n % 10) ∷ []))
positive_more most n ds l h some few =
    let front = h (omega arith) (omega arith) in
    let e : 10 * (n / 10) + (48 + n % 10 - 48) ≡ n = omega arith in
    Reads-append (positive_scan most) 0 (n / 10) n ds ((48 + n % 10) ∷ []) front
    (may_digit most (n / 10) (n % 10) (omega arith) (omega arith) (omega arith), e)

pub read_positive : (most : ℕ) (t : List ℕ) (n : ℕ) → most < 2 ^ 32 → is_within 1 most n ≡ true →
    t ≡ decimal n → Scanned (positive_scan most) 0 n t
read_positive most t n small h e =
    let parts = and_parts (nat_le 1 n) (nat_le n most) h in
    let some = leb-true 1 n parts.0 in
    let few = leb-true n most parts.1 in (
      subst (λ (v : List ℕ). Reads (positive_scan most) 0 v n) (sym e)
          (decimal_by_steps (ReadsPositive most) (positive_one most) (positive_more most) n (omega arith) some few),
      lt-ltb 0 n (omega arith),
    )

pub positive-part : (most : ℕ) → 1 ≤ most → most < 2 ^ 32 →
    IsPart Open (OneText (is_within 1 most) decimal) (positive_at most)
unfolding positive_at
positive-part most some small = part-by (scan-part (positive_scan most) 0 (λ n. refl) (positive_live most some))
    (λ n t h. positive_read most t n small h) (λ n t h. read_positive most t n small h.0 h.1)

pub rate-part : IsPart Open (OneText is_rate decimal) (positive_at 60000)
rate-part = positive-part 60000 (omega arith) (omega arith)
