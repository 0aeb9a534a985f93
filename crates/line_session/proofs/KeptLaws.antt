-- Fronts of a line, and where a line ends.
use Rattle.std.proofs.Common.{◌≡◌, refl, sym, ◌∙◌, ap, subst, zero, suc, ℕ, ◌+◌, ◌-◌, ◌≤◌, ◌<◌, min, Bool, true, false, List, [], ◌∷◌, ◌++◌, length, take, drop, Option, Some, None, arith, drop-cons, add-one}
use Rattle.std.specs.Prelude.{IsTrue, IsNone, IfSome, ◌==◌, slice_index, nat_le}
use Rattle.std.proofs.lemmas.Bool.{and_from, leb-true, le-leb, both_ways, eqb-true, false_from_ne_true, not_from_false}
use Rattle.std.proofs.lemmas.List.{take_all, take-take, take-append-le, length-take, length-take-le}
use Rattle.std.proofs.Math.Seq.{take-append-add}
use Rattle.memchr.specs.Find.{IsFirstByte, is_byte}
use Rattle.line_session.specs.Lines.{has_no_end}

-- ---- fronts

by_size : (m n : ℕ) (P : Type 0) → (m ≤ n → P) → (n < m → P) → P
by_size m n P low high =
    elim (nat_le m n) as (λ (b : Bool). nat_le m n ≡ b → P) [
      | true ↦ λ e. low (leb-true _ _ e)
      | false ↦ λ e. high (omega (arith, λ (h : m ≤ n). both_ways _ e (le-leb _ _ h)))
    ] refl

take_least : (n : ℕ) (p : List ℕ) → take (min n (length p)) p ≡ take n p
take_least n p = by_size (length p) n (take (min n (length p)) p ≡ take n p)
    (λ low. take_all (min n (length p)) p (omega arith) ∙ sym (take_all n p low))
    (λ high. let e : min n (length p) ≡ n = omega arith in ap (λ (v : ℕ). take v p) e)

pub keep_front : (a p : List ℕ) (k n : ℕ) → length a ≤ n → k ≡ min (n - length a) (length p) →
    a ++ take k p ≡ take n (a ++ p)
keep_front a p k n low e =
    let whole : length a + (n - length a) ≡ n = omega arith in
    ap (λ (v : ℕ). a ++ take v p) e ∙ ap (λ (v : List ℕ). a ++ v) (take_least (n - length a) p)
    ∙ sym (take-append-add a p (n - length a)) ∙ ap (λ (v : ℕ). take v (a ++ p)) whole

-- a front of a front and more is a front of the whole and more
pub take_front-append : (n : ℕ) (f p : List ℕ) → take n (take n f ++ p) ≡ take n (f ++ p)
take_front-append n f p = by_size (length f) n (take n (take n f ++ p) ≡ take n (f ++ p))
    (λ low. ap (λ (v : List ℕ). take n (v ++ p)) (take_all n f low))
    (λ high. let same : length (take n f) ≡ n = length-take-le n f (omega arith) in
    take-append-le n (take n f) p (omega arith) ∙ take-take n n f (omega arith)
    ∙ sym (take-append-le n f p (omega arith)))

pub no_length : (f : List ℕ) → length f ≡ 0 → f ≡ []
no_length [] e = refl
no_length (b ∷ f) e = absurd (omega arith)

-- only an empty line has an empty front
pub empty_front : (n : ℕ) (f : List ℕ) → 0 < n → take n f ≡ [] → f ≡ []
empty_front n f some e =
    let k : length (take n f) ≡ min n (length f) = length-take n f in
    let l : length (take n f) ≡ 0 = ap length e in
    no_length f (omega arith)

-- ---- where a line ends

no_end_front : (bytes : List ℕ) (n : ℕ) →
    ((k : ℕ) → k < n → k < length bytes → is_byte 10 (slice_index bytes k) ≡ true → ⊥) →
    IsTrue (has_no_end (take n bytes))
no_end_front [] zero h = refl
no_end_front [] (suc n) h = refl
no_end_front (b ∷ bytes) zero h = refl
no_end_front (b ∷ bytes) (suc n) h =
    and_from _ _ (not_from_false _ (false_from_ne_true (b == 10) (h 0 (omega arith) (omega arith))))
    (no_end_front bytes n (λ k low within is. h (suc k) (omega arith) (omega arith) is))

pub end_found : (bytes : List ℕ) (r : Option ℕ) → IsFirstByte (is_byte 10) bytes r →
    IfSome r (λ at. (at < length bytes) × IsTrue (has_no_end (take at bytes))
    × (drop at bytes ≡ 10 ∷ drop (at + 1) bytes))
end_found bytes None h = tt
end_found bytes (Some at) h = (
  h.0.high,
  no_end_front bytes at (λ k low within. h.0.before k (omega arith) low),
  drop-cons bytes at 0 h.0.high ∙ ap (λ (v : ℕ). v ∷ drop (suc at) bytes) (eqb-true _ 10 h.1)
      ∙ ap (λ (v : ℕ). 10 ∷ drop v bytes) (sym (add-one at)),
)

pub no_end_found : (bytes : List ℕ) (r : Option ℕ) → IsFirstByte (is_byte 10) bytes r → IsNone r →
    IsTrue (has_no_end bytes)
no_end_found bytes None h none =
    subst (λ (v : List ℕ). IsTrue (has_no_end v)) (take_all (length bytes) bytes (omega arith))
    (no_end_front bytes (length bytes) (λ k low within. h k (omega arith) within))
no_end_found bytes (Some at) h none = absurd (cc)
