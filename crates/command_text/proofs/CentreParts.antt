-- Centres as parts of a line.
use Rattle.std.proofs.Common.{◌≡◌, refl, sym, ◌∙◌, ap, subst, ℕ, zero, suc, ◌≤◌, ℤ, pos, negsuc, Bool, true, false, cond, List, [], ◌∷◌, length, Ok, Err, inl, inr, arith}
use Rattle.std.specs.Prelude.{nat_le, nat_eq, int_le, neg_ℤ}
use Rattle.std.specs.Fmt.{decimal, signed_decimal}
use Rattle.std.proofs.lemmas.Fmt.{decimal_digit}
use Rattle.std.proofs.lemmas.Bool.{and_parts, and_from, ltb-true, le-leb, leb-true, eqb-true, false≢true, false_from_ne_true}
use Rattle.std.proofs.lemmas.Int.{ints}
use Rattle.eon_model.specs.Numerals.{is_within}
use Rattle.eon_model.specs.CommandText.{is_centre}
use Rattle.eon_model.proofs.GridLaws.{int_le-le, le-int_le}
use Rattle.command_text.specs.Reading.{Read, ◌>>=◌, after}
use Rattle.command_text.specs.Parts.{positive_scan, positive_at, centre_at}
use Rattle.command_text.proofs.PartLaws.{Open, IsPart, part-by, done-part}
use Rattle.command_text.proofs.WordLaws.{Valued, value-part, After, after-part}
use Rattle.command_text.proofs.ScanLaws.{Scanned}
use Rattle.command_text.proofs.ChoiceLaws.{Heads, Either, choice_read, choice-part, part-read}
use Rattle.command_text.proofs.NameParts.{OneText}
use Rattle.command_text.proofs.NumberParts.{digit_step, read_positive, positive-part}

abbrev pub NegativeText : ℤ → List ℕ → Type 0
NegativeText = After (45 ∷ []) (Valued (OneText (is_within 1 4096) decimal) (λ n t. neg_ℤ (pos n)))

abbrev pub ZeroText : ℤ → List ℕ → Type 0
ZeroText = After (48 ∷ []) (λ z t. (z ≡ pos 0) × (t ≡ []))

abbrev pub PositiveText : ℤ → List ℕ → Type 0
PositiveText = Valued (OneText (is_within 1 4095) decimal) (λ n t. pos n)

negative_read : List ℕ → Read ℤ
negative_read bytes = after (45 ∷ []) bytes >>= λ rest.
    (positive_at 4096 rest >>= λ found. Ok (neg_ℤ (pos found.0), found.1))

zero_read : List ℕ → Read ℤ
zero_read bytes = after (48 ∷ []) bytes >>= λ rest. Ok (pos 0, rest)

above_read : List ℕ → Read ℤ
above_read bytes = positive_at 4095 bytes >>= λ found. Ok (pos found.0, found.1)

negative_part : IsPart Open NegativeText negative_read
unfolding negative_read
negative_part = after-part (45 ∷ []) (value-part (λ bytes found. neg_ℤ (pos found.0)) (λ n t. neg_ℤ (pos n))
    (λ n t rest h. refl)
    (positive-part 4096 (omega arith) (omega arith)))

zero_part : IsPart Open ZeroText zero_read
unfolding zero_read
zero_part = after-part (48 ∷ []) (done-part Open (pos 0))

above_part : IsPart Open PositiveText above_read
unfolding above_read
above_part = value-part (λ bytes found. pos found.0) (λ n t. pos n) (λ n t rest h. refl)
    (positive-part 4095 (omega arith) (omega arith))

is_minus : ℕ → Bool
is_minus b = nat_eq b 45

is_zero_digit : ℕ → Bool
is_zero_digit b = nat_eq b 48

-- the text of a number from 1 on begins with a digit 1 to 9
pub record FirstDigit (t : List ℕ) : Type 0 where
  pub first : ℕ
  pub rest : List ℕ
  pub is : t ≡ first ∷ rest
  pub low : 49 ≤ first
  pub high : first ≤ 57

first_of : (most n : ℕ) (t : List ℕ) → Scanned (positive_scan most) 0 n t → FirstDigit t
first_of most n [] h = let some = ltb-true 0 n h.1 in let zero_is = h.0 in absurd (omega arith)
first_of most n (b ∷ t) h =
    let s = digit_step most 0 b h.0.0 in
    let low = s.low in
    let some = s.some in
    record { first = b; rest = t; is = refl; low = omega arith; high = s.high }

heads_with : (test : ℕ → Bool) (answer : Bool) (t rest : List ℕ) (b : ℕ) → t ≡ b ∷ rest → test b ≡ answer →
    Heads test answer t
heads_with test answer t rest b e h = subst (Heads test answer) (sym e) h

minus_heads : (z : ℤ) (t : List ℕ) → NegativeText z t → Heads is_minus true t
unfolding is_minus
minus_heads z t h = heads_with is_minus true t h.back 45 h.is refl

differs : (b c : ℕ) → (b ≡ c → ⊥) → nat_eq b c ≡ false
differs b c h = false_from_ne_true (nat_eq b c) λ e. h (eqb-true b c e)

above_heads : (test : ℕ → Bool) → ((b : ℕ) → 49 ≤ b → test b ≡ false) → (z : ℤ) (t : List ℕ) →
    PositiveText z t → Heads test false t
above_heads test h z t p =
    let f = first_of 4095 p.a t (read_positive 4095 t p.a (omega arith) p.is_text.0 p.is_text.1) in
    heads_with test false t f.rest f.first f.is (h f.first f.low)

not_minus : (b : ℕ) → 49 ≤ b → is_minus b ≡ false
unfolding is_minus
not_minus b l = differs b 45 (λ e. omega arith)

not_zero : (b : ℕ) → 49 ≤ b → is_zero_digit b ≡ false
unfolding is_zero_digit
not_zero b l = differs b 48 (λ e. omega arith)

zero_heads : (z : ℤ) (t : List ℕ) → ZeroText z t → Heads is_zero_digit true t
unfolding is_zero_digit
zero_heads z t h = heads_with is_zero_digit true t h.back 48 h.is refl

zero_no_minus : (z : ℤ) (t : List ℕ) → ZeroText z t → Heads is_minus false t
unfolding is_minus
zero_no_minus z t h = heads_with is_minus false t h.back 48 h.is refl

others_no_minus : (z : ℤ) (t : List ℕ) → Either ZeroText PositiveText z t → Heads is_minus false t
others_no_minus z t (inl h) = zero_no_minus z t h
others_no_minus z t (inr h) = above_heads is_minus not_minus z t h

unsigned_read : List ℕ → Read ℤ
unsigned_read = choice_read is_zero_digit zero_read above_read

unsigned_part : IsPart Open (Either ZeroText PositiveText) unsigned_read
unfolding unsigned_read
unsigned_part = choice-part is_zero_digit zero_part above_part zero_heads (above_heads is_zero_digit not_zero)

centre_choice : IsPart Open (Either NegativeText (Either ZeroText PositiveText))
    (choice_read is_minus negative_read unsigned_read)
centre_choice = choice-part is_minus negative_part unsigned_part minus_heads others_no_minus

negative_found : ℕ × List ℕ → Read ℤ
negative_found found = Ok (neg_ℤ (pos found.0), found.1)

zero_found : List ℕ → Read ℤ
zero_found rest = Ok (pos 0, rest)

above_found : ℕ × List ℕ → Read ℤ
above_found found = Ok (pos found.0, found.1)

centre_same : (bytes : List ℕ) → choice_read is_minus negative_read unsigned_read bytes ≡ centre_at bytes
unfolding centre_at after is_minus is_zero_digit negative_read zero_read above_read unsigned_read negative_found zero_found above_found
centre_same [] = refl
centre_same (b ∷ bytes) =
    elim (nat_eq b 45) as (λ c. cond c (cond c (Ok bytes)
    (Err (length (b ∷ bytes))) >>= λ rest. positive_at 4096 rest >>= negative_found)
    (cond (nat_eq b 48) (cond (nat_eq b 48) (Ok bytes) (Err (length (b ∷ bytes))) >>= zero_found)
    (positive_at 4095 (b ∷ bytes) >>= above_found))
    ≡ cond c (positive_at 4096 bytes >>= negative_found)
    (cond (nat_eq b 48) (zero_found bytes) (positive_at 4095 (b ∷ bytes) >>= above_found))) [
      | true ↦ refl
      | false ↦ elim (nat_eq b 48) as (λ c.
          cond c (cond c (Ok bytes) (Err (length (b ∷ bytes))) >>= zero_found)
          (positive_at 4095 (b ∷ bytes) >>= above_found)
          ≡ cond c (zero_found bytes) (positive_at 4095 (b ∷ bytes) >>= above_found)) [ true ↦ refl | false ↦ refl ]
    ]

negative_text : (n : ℕ) → is_within 1 4096 n ≡ true →
    (is_centre (neg_ℤ (pos n)) ≡ true) × (45 ∷ decimal n ≡ signed_decimal (neg_ℤ (pos n)))
negative_text zero h = absurd (false≢true h)
negative_text (suc n) h =
    let few = leb-true (suc n) 4096 (and_parts (nat_le 1 (suc n)) (nat_le (suc n) 4096) h).1 in (
      and_from _ _ (le-int_le (negsuc 4095) (negsuc n) (omega (arith, ints)))
          (le-int_le (negsuc n) (pos 4095) (omega (arith, ints))),
      refl,
    )

positive_centre : (n : ℕ) → n ≤ 4095 → is_centre (pos n) ≡ true
positive_centre n few = and_from _ _ (le-int_le (negsuc 4095) (pos n) (omega (arith, ints)))
    (le-int_le (pos n) (pos 4095) (omega (arith, ints)))

centre_to : (z : ℤ) (t : List ℕ) → Either NegativeText (Either ZeroText PositiveText) z t →
    OneText is_centre signed_decimal z t
centre_to z t (inl h) =
    let p = negative_text h.back_is.a h.back_is.is_text.0 in (
      ap is_centre h.back_is.is ∙ p.0,
      h.is ∙ ap (λ v. 45 ∷ v) h.back_is.is_text.1 ∙ p.1 ∙ ap signed_decimal
          (sym h.back_is.is),
    )
centre_to z t (inr (inl h)) = (
  ap is_centre h.back_is.0 ∙ positive_centre 0 (omega arith),
  h.is ∙ ap (λ v. 48 ∷ v) h.back_is.1 ∙ sym
      (decimal_digit 0 (omega arith)) ∙ ap signed_decimal (sym h.back_is.0),
)
centre_to z t (inr (inr h)) =
    let few = leb-true h.a 4095 (and_parts (nat_le 1 h.a) (nat_le h.a 4095) h.is_text.0).1 in
    (ap is_centre h.is ∙ positive_centre h.a few, h.is_text.1 ∙ ap signed_decimal (sym h.is))

centre_from : (z : ℤ) (t : List ℕ) → OneText is_centre signed_decimal z t →
    Either NegativeText (Either ZeroText PositiveText) z t
centre_from (pos zero) t h = inr (inl (record {
  back = [];
  back_is = (refl, refl);
  is = h.1 ∙ decimal_digit 0
      (omega arith);
}))
centre_from (pos (suc n)) t h =
    let l = int_le-le (pos (suc n)) (pos 4095) (and_parts (int_le (negsuc 4095) (pos (suc n)))
    (int_le (pos (suc n)) (pos 4095)) h.0).1 in
    inr (inr (record {
      a = suc n;
      is_text = (
        and_from _ _ (le-leb 1 (suc n) (omega arith))
            (le-leb (suc n) 4095 (omega (arith, ints))),
        h.1,
      );
      is = refl;
    }))
centre_from (negsuc n) t h =
    let l = int_le-le (negsuc 4095) (negsuc n) (and_parts (int_le (negsuc 4095) (negsuc n))
    (int_le (negsuc n) (pos 4095)) h.0).0 in
    inl (record {
      back = decimal (suc n);
      back_is = record {
        a = suc n;
        is_text = (
          and_from _ _ (le-leb 1 (suc n) (omega arith))
              (le-leb (suc n) 4096 (omega (arith, ints))),
          refl,
        );
        is = refl;
      };
      is = h.1;
    })

pub centre-part : IsPart Open (OneText is_centre signed_decimal) centre_at
centre-part = part-by (part-read (choice_read is_minus negative_read unsigned_read) centre_at centre_same centre_choice) centre_to centre_from
