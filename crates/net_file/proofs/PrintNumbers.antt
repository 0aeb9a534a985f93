-- Texts of parts by their numbers.
use Rattle.std.proofs.Common.{◌≡◌, refl, sym, ◌∙◌, ap, inl, inr, ℕ, zero, suc, ◌+◌, ◌<◌, ◌≤◌, true, false, cond, ◌||◌, List, [], ◌∷◌, ◌++◌, length, map, slice_get, slice_index_or, ◌⊎◌, nat_eq, nat_lt, append_assoc, zero-add, arith}
use Rattle.std.specs.Prelude.{codes}
use Rattle.eon_model.specs.NetworkText.{number_line}
use Rattle.std.specs.Option.{unwrap_or}
use Rattle.std.specs.List.{flat_map, list_all}
use Rattle.std.proofs.lemmas.List.{append-nil}
use Rattle.std.proofs.lemmas.Bool.{and_parts, ltb-true, ne_eqb, eq-eqb, cases_eq, or_from}
use Rattle.eon_model.specs.Lists.{has_number, numbers_ascend}
use Rattle.eon_model.proofs.OrderLaws.{AllOf}
use Rattle.line_writer.specs.Sent.{Sent, Takes}
use Rattle.line_writer.specs.Words.{behind}
use Rattle.line_writer.proofs.TakesLaws.{takes-both, takes-same}
use Rattle.line_writer.proofs.WordLaws.{behind-append}
use Rattle.net_file.specs.PrintWords.{each_below}

-- ---- by number

no-words : behind [] ≡ []
unfolding behind
no-words = refl

-- one more number
pub below-taken : (a b c : Sent) (text : ℕ → List ℕ) (i : ℕ) → Takes a b (each_below text i) → Takes b c (text i) →
    Takes a c (each_below text (i + 1))
below-taken a b c text i p q =
    let one : i + 1 ≡ suc i = omega arith in
    takes-same a c (each_below text (suc i)) (each_below text (i + 1)) (ap (each_below text) (sym one))
    (takes-both a b c (each_below text i) (text i) p q)

below-first : (text : ℕ → List ℕ) (n : ℕ) → each_below text (suc n) ≡ text 0 ++ each_below (λ i. text (suc i)) n
below-first text zero = sym (append-nil (text 0))
below-first text (suc n) =
    ap (λ v. v ++ text (suc n)) (below-first text n) ∙ append_assoc (text 0) (each_below (λ i. text (suc i)) n) (text (suc n))

below-same : (f g : ℕ → List ℕ) (n : ℕ) → ((i : ℕ) → f i ≡ g i) → each_below f n ≡ each_below g n
below-same f g zero h = refl
below-same f g (suc n) h = λ i. below-same f g n h i ++ h n i

-- the texts of all elements
pub below-all : {X : Type 0} (text : X → List ℕ) (d : X) (xs : List X) →
    each_below (λ i. text (unwrap_or (slice_get xs i) d)) (length xs) ≡ flat_map text xs
below-all text d [] = refl
below-all text d (x ∷ xs) =
    below-first (λ i. text (unwrap_or (slice_get (x ∷ xs) i) d)) (length xs) ∙ ap (λ v. text x ++ v) (below-all text d xs)

pub below-each : {X : Type 0} (text : X → List ℕ) (d : X) (xs : List X) →
    each_below (λ i. text (slice_index_or xs i d)) (length xs) ≡ flat_map text xs
below-each text d [] = refl
below-each text d (x ∷ xs) =
    below-first (λ i. text (slice_index_or (x ∷ xs) i d)) (length xs) ∙ ap (λ v. text x ++ v) (below-each text d xs)

-- ---- numbers that ascend

abbrev picked : (ℕ → List ℕ) → List ℕ → ℕ → List ℕ
picked text numbers k = cond (has_number numbers k) (text k) []

all_over : (a : ℕ) (numbers : List ℕ) → list_all (nat_lt a) numbers ≡ true → AllOf (λ k. a < k) numbers
all_over a [] h = tt
all_over a (n ∷ ns) h =
    let p = and_parts (nat_lt a n) (list_all (nat_lt a) ns) h in (ltb-true a n p.0, all_over a ns p.1)

not_among : (a : ℕ) (numbers : List ℕ) → AllOf (λ k. a < k) numbers → has_number numbers a ≡ false
not_among a [] h = refl
not_among a (n ∷ ns) h =
    let l = h.0 in or_from (nat_eq n a) (has_number ns a) (ne_eqb n a (λ e. omega arith)) (not_among a ns h.1)

all_more : (a b : ℕ) (numbers : List ℕ) → a ≤ b → AllOf (λ k. b < k) numbers → AllOf (λ k. a < k) numbers
all_more a b [] l h = tt
all_more a b (n ∷ ns) l h = (let m = h.0 in omega arith, all_more a b ns l h.1)

all_from : (a : ℕ) (numbers : List ℕ) → AllOf (λ k. a < k) numbers → AllOf (λ k. suc a ≤ k) numbers
all_from a [] h = tt
all_from a (n ∷ ns) h = (let m = h.0 in omega arith, all_from a ns h.1)

all_under : (a n : ℕ) (numbers : List ℕ) → AllOf (λ k. k < a + suc n) numbers → AllOf (λ k. k < suc a + n) numbers
all_under a n [] h = tt
all_under a n (k ∷ ks) h = (let m = h.0 in omega arith, all_under a n ks h.1)

none_picked : (text : ℕ → List ℕ) (a n : ℕ) → each_below (λ i. picked text [] (a + i)) n ≡ []
none_picked text a zero = refl
none_picked text a (suc n) = ap (λ v. v ++ []) (none_picked text a n)

picked_here : (text : ℕ → List ℕ) (a k : ℕ) (ks : List ℕ) → k ≡ a → picked text (k ∷ ks) (a + 0) ≡ text k
picked_here text a k ks e =
    let same : a + 0 ≡ k = omega arith in
    ap (picked text (k ∷ ks)) same ∙ (λ i. cond (eq-eqb k k refl i || has_number ks k) (text k) [])

picked_later : (text : ℕ → List ℕ) (a k : ℕ) (ks : List ℕ) → k ≡ a → (i : ℕ) →
    picked text (k ∷ ks) (a + suc i) ≡ picked text ks (suc a + i)
picked_later text a k ks e i =
    let same : a + suc i ≡ suc a + i = omega arith in
    ap (picked text (k ∷ ks)) same
    ∙ (λ j. cond (ne_eqb k (suc a + i) (λ f. omega arith) j || has_number ks (suc a + i)) (text (suc a + i)) [])

picked_moved : (text : ℕ → List ℕ) (a : ℕ) (ks : List ℕ) (i : ℕ) → picked text ks (a + suc i) ≡ picked text ks (suc a + i)
picked_moved text a ks i = let same : a + suc i ≡ suc a + i = omega arith in ap (picked text ks) same

picked_none : (text : ℕ → List ℕ) (a : ℕ) (ks : List ℕ) → AllOf (λ k. a < k) ks → picked text ks (a + 0) ≡ []
picked_none text a ks h =
    let same : a + 0 ≡ a = omega arith in
    ap (picked text ks) same ∙ (λ i. cond (not_among a ks h i) (text a) [])

by_head : (text : ℕ → List ℕ) (n a k : ℕ) (ks : List ℕ) → AllOf (λ j. k < j) ks → AllOf (λ j. j < suc a + n) (k ∷ ks) →
    a ≤ k → (k ≡ a) ⊎ (k ≡ a → ⊥) →
    (AllOf (λ j. suc a ≤ j) ks → each_below (λ i. picked text ks (suc a + i)) n ≡ flat_map text ks) →
    (AllOf (λ j. suc a ≤ j) (k ∷ ks) → each_below (λ i. picked text (k ∷ ks) (suc a + i)) n ≡ flat_map text (k ∷ ks)) →
    picked text (k ∷ ks) (a + 0) ++ each_below (λ i. picked text (k ∷ ks) (a + suc i)) n ≡ flat_map text (k ∷ ks)
by_head text n a k ks over high least (inl e) rest whole =
    let low : a ≤ k = omega arith in
    (λ i. picked_here text a k ks e i ++ below-same (λ i. picked text (k ∷ ks) (a + suc i)) (λ i. picked text ks (suc a + i)) n
    (picked_later text a k ks e) i)
    ∙ ap (λ v. text k ++ v) (rest (all_from a ks (all_more a k ks low over)))
by_head text n a k ks over high least (inr other) rest whole =
    let above : a < k = omega arith in
    (λ i. picked_none text a (k ∷ ks) (above, all_more a k ks least over) i
    ++ below-same (λ i. picked text (k ∷ ks) (a + suc i)) (λ i. picked text (k ∷ ks) (suc a + i)) n (picked_moved text a (k ∷ ks)) i)
    ∙ whole (all_from a (k ∷ ks) (above, all_more a k ks least over))

-- from a on, the texts of ascending numbers are found one by one
pub below-picked : (text : ℕ → List ℕ) (n a : ℕ) (numbers : List ℕ) →
    AllOf (λ k. a ≤ k) numbers → AllOf (λ k. k < a + n) numbers → numbers_ascend numbers ≡ true →
    each_below (λ i. picked text numbers (a + i)) n ≡ flat_map text numbers
below-picked text n a [] low high up = none_picked text a n
below-picked text zero a (k ∷ ks) low high up = absurd (let l = low.0 in let h = high.0 in omega arith)
below-picked text (suc n) a (k ∷ ks) low high up =
    let p = and_parts (list_all (nat_lt k) ks) (numbers_ascend ks) up in
    let over = all_over k ks p.0 in
    let least : a ≤ k = low.0 in
    below-first (λ i. picked text (k ∷ ks) (a + i)) n
    ∙ by_head text n a k ks over (all_under a n (k ∷ ks) high) least (cases_eq k a)
    (λ low. below-picked text n (suc a) ks low (all_under a n ks high.1) p.1)
    (λ low. below-picked text n (suc a) (k ∷ ks) low (all_under a n (k ∷ ks) high) up)

-- the texts of all of some ascending numbers below n
pub below-some : (text : ℕ → List ℕ) (n : ℕ) (numbers : List ℕ) → list_all (λ k. nat_lt k n) numbers ≡ true →
    numbers_ascend numbers ≡ true → each_below (λ i. cond (has_number numbers i) (text i) []) n ≡ flat_map text numbers
below-some text n numbers below up =
    below-same (λ i. picked text numbers i) (λ i. picked text numbers (0 + i)) n (λ i. ap (picked text numbers) (sym (zero-add i)))
    ∙ below-picked text n 0 numbers (at_least numbers) (at_most n numbers below) up
  where
    at_least : (ks : List ℕ) → AllOf (λ k. 0 ≤ k) ks
    at_least [] = tt
    at_least (k ∷ ks) = (omega arith, at_least ks)

    at_most : (m : ℕ) (ks : List ℕ) → list_all (λ k. nat_lt k m) ks ≡ true → AllOf (λ k. k < 0 + m) ks
    at_most m [] h = tt
    at_most m (k ∷ ks) h =
        let p = and_parts (nat_lt k m) (list_all (λ j. nat_lt j m) ks) h in
        let l = ltb-true k m p.0 in (omega arith, at_most m ks p.1)

-- words by number
pub behind-map : (name : ℕ → List ℕ) (ns : List ℕ) → flat_map (λ i. behind (name i ∷ [])) ns ≡ behind (map name ns)
behind-map name [] = sym no-words
behind-map name (n ∷ ns) =
    ap (λ (v : List ℕ). behind (name n ∷ []) ++ v) (behind-map name ns)
    ∙ sym (behind-append (name n ∷ []) (map name ns))

-- ---- at the end

-- all numbers
pub below-end : (a b : Sent) (text : ℕ → List ℕ) (i n : ℕ) (all : List ℕ) → i ≡ n → each_below text n ≡ all →
    Takes a b (each_below text i) → Takes a b all
below-end a b text i n all e f p = takes-same a b (each_below text i) all (ap (each_below text) e ∙ f) p

-- the lines before the formats, with the same numbers
pub front-same : (m n : ℕ) (band : List ℕ) → m ≡ n → (a b c d e f g h : ℕ) → a ≡ b → c ≡ d → e ≡ f → g ≡ h →
    number_line (codes "net") m ++ band ++ number_line (codes "guard") a ++ number_line (codes "k") c ++ number_line (codes "services") e
    ++ number_line (codes "journal") g
    ≡ number_line (codes "net") n ++ band ++ number_line (codes "guard") b ++ number_line (codes "k") d ++ number_line (codes "services") f
    ++ number_line (codes "journal") h
front-same m n band v a b c d e f g h p q r s =
    λ i. number_line (codes "net") (v i) ++ band ++ number_line (codes "guard") (p i) ++ number_line (codes "k") (q i)
    ++ number_line (codes "services") (r i) ++ number_line (codes "journal") (s i)
