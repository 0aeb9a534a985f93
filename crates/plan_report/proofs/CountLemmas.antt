-- Counts that grow by what some holdings hold.
use Rattle.std.proofs.Common.{◌≡◌, refl, sym, ap, ◌∙◌, add-one, ℕ, zero, suc, ◌+◌, ◌*◌, ◌<◌, ◌≤◌, nat_le, nat_lt, ℤ, pos, ◌+ℤ◌, ◌-ℤ◌, ◌≤ℤ◌, Bool, true, false, cond, ◌&&◌, ◌||◌, List, [], ◌∷◌, ◌++◌, length, take, Option, Some, None, slice_get, slice_index, count_by, sum_by, map, append_assoc, length-append, arith}
use Rattle.std.specs.Prelude.{int_le}
use Rattle.std.specs.Option.{option_to_list}
use Rattle.std.specs.Int.{int_min, int_max}
use Rattle.std.specs.List.{flat_map, list_all, list_any, range_with_len}
use Rattle.std.proofs.lemmas.Bool.{and_parts, false≢true, leb-true, ltb-true, le-leb, lt-ltb}
use Rattle.std.proofs.lemmas.Int.{ints, clamps}
use Rattle.std.proofs.lemmas.List.Sums.{sum_by-append, sum_by-cons, sum_by_push, sum_by_more, count_by-le-length}
use Rattle.std.proofs.lemmas.Grind.{flat_map-append}
use Rattle.std.proofs.lemmas.Option.{slice_get_within, get_or_from_slice_get}
use Rattle.eon_model.specs.declared.Class.{Class}
use Rattle.eon_model.specs.Grid.{Units, Band, has_unit, is_units, parts_ascend, span_from, span_of, is_band}
use Rattle.eon_model.proofs.BandLaws.{band-parts}
use Rattle.flex_grid.proofs.GridFacts.{units-facts}
use Rattle.eon_model.specs.Legal.{Setup, Legal, is_shared, is_dual}
use Rattle.eon_model.specs.NetworkText.{is_setup}
use Rattle.eon_model.proofs.LegalLaws.{Legal-parts}
use Rattle.eon_model.specs.Lists.{integers_from}
use Rattle.eon_model.specs.Services.{Path, Leg, Service, State, Holding, owned, owned_legs, all_legs, holding_of}
use Rattle.eon_model.specs.Listings.{holds}
use Rattle.eon_model.proofs.GridLaws.{int_le-le, le-int_le}
use Rattle.plan_report.specs.declared.rows.Kind.{Kind}
use Rattle.plan_report.specs.declared.rows.Kind.TheVariants.{Lit, Held}
use Rattle.eon_model.proofs.SetupFacts.{setup-facts}
use Rattle.plan_report.specs.Counted.{taken, taken_by, service_holdings, state_holdings, holders, Grows, AtMost}
use Rattle.eon_model.proofs.SetLists.{same_test}

-- the units of a range, by their places from the lowest on
pub span_test : (u : Units) (low : ℤ) (len k from to : ℕ) → k < len →
    pos from ≡ int_min (int_max (u.lo -ℤ low) (pos 0)) (pos len) →
    pos to ≡ int_min (int_max ((u.hi +ℤ pos 1) -ℤ low) (pos 0)) (pos len) →
    has_unit u (low +ℤ pos k) ≡ (nat_le from k && nat_lt k to)
span_test u low len k from to h a b =
    let first = same_test (int_le u.lo (low +ℤ pos k)) (nat_le from k)
    (λ e. let le = int_le-le u.lo (low +ℤ pos k) e in le-leb from k (omega (arith, ints, clamps)))
    (λ e. let le = leb-true from k e in le-int_le u.lo (low +ℤ pos k) (omega (arith, ints, clamps))) in
    let last = same_test (int_le (low +ℤ pos k) u.hi) (nat_lt k to)
    (λ e. let le = int_le-le (low +ℤ pos k) u.hi e in lt-ltb k to (omega (arith, ints, clamps)))
    (λ e. let lt = ltb-true k to e in le-int_le (low +ℤ pos k) u.hi (omega (arith, ints, clamps))) in
    λ i. first i && last i

-- ---- sums

pub holders-append : (fibre : ℕ) (hs ks : List Holding) (u : ℤ) →
    holders fibre (hs ++ ks) u ≡ holders fibre hs u + holders fibre ks u
holders-append fibre hs ks u = sum_by-append (λ h. cond (holds fibre u h) 1 0) hs ks

pub grows_none : (low : ℤ) (fibre : ℕ) (xs : List ℕ) → Grows low (holders fibre []) xs xs
grows_none low fibre xs = record { same_length = refl; each = λ k h. omega arith }

pub grows_then : (low : ℤ) (fibre : ℕ) (hs ks : List Holding) (xs ys zs : List ℕ) →
    Grows low (holders fibre hs) xs ys → Grows low (holders fibre ks) ys zs →
    Grows low (holders fibre (hs ++ ks)) xs zs
grows_then low fibre hs ks xs ys zs a b = record {
  same_length = b.same_length ∙ a.same_length;
  each = λ k h.
      let first = a.each k h in
      let within : k < length ys = let e = a.same_length in omega arith in
      let second = b.each k within in
      let both = holders-append fibre hs ks (low +ℤ pos k) in
      omega arith;
}

pub grows_most : (low : ℤ) (fibre m : ℕ) (hs : List Holding) (xs ys : List ℕ) →
    Grows low (holders fibre hs) xs ys → AtMost m xs → AtMost (m + length hs) ys
grows_most low fibre m hs xs ys g a = record {
  each = λ k h.
      let within : k < length xs = let e = g.same_length in omega arith in
      let first = g.each k within in
      let few = a.each k within in
      let more = count_by-le-length (holds fibre (low +ℤ pos k)) hs in
      omega arith;
}

-- ---- the holdings of a state

pub flat_map-take : {X Y : Type 0} (f : X → List Y) (xs : List X) (i : ℕ) (x : X) → slice_get xs i ≡ Some x →
    flat_map f (take (suc i) xs) ≡ flat_map f (take i xs) ++ f x
flat_map-take f [] i x e = cc
flat_map-take f (y ∷ ys) zero x e = let same : y ≡ x = cc in ap (λ z. f z ++ []) same ∙ nothing (f x)
  where
    nothing : {Z : Type 0} → (zs : List Z) → zs ++ [] ≡ zs
    nothing [] = refl
    nothing (z ∷ zs) = ap (λ r. z ∷ r) (nothing zs)
flat_map-take f (y ∷ ys) (suc i) x e =
    ap (λ zs. f y ++ zs) (flat_map-take f ys i x e) ∙ sym (append_assoc (f y) (flat_map f (take i ys)) (f x))

backups_most : (counts : Bool) (b : Option Path) → length (cond counts (map holding_of (option_to_list b)) []) ≤ 1
backups_most true None = omega arith
backups_most true (Some p) = omega arith
backups_most false b = omega arith

taken_most : (kind : Kind) (class : Class) (l : Leg) → length (taken kind class l) ≤ 2
taken_most Lit class l = let h = backups_most (is_dual class) l.back in omega arith
taken_most Held class l = let h = backups_most (is_shared class) l.back in omega arith

service_most : (kind : Kind) (s : Service) → length (service_holdings kind s) ≤ 4
service_most kind s = legs s.next
  where
    legs : (next : Option Leg) → length (flat_map (taken_by kind) (map (owned s.name s.class) (s.leg ∷ option_to_list next))) ≤ 4
    legs None =
        let a = taken_most kind s.class s.leg in omega (arith, length-append (taken kind s.class s.leg) [])
    legs (Some n) =
        let a = taken_most kind s.class s.leg in
        let b = taken_most kind s.class n in
        omega (
          arith,
          length-append (taken kind s.class s.leg) (taken kind s.class n ++ []),
          length-append (taken kind s.class n) [],
        )

pub state_most : (kind : Kind) (state : State) (i : ℕ) → length (state_holdings kind (take i state)) ≤ 4 * i
state_most kind [] zero = omega arith
state_most kind [] (suc i) = omega arith
state_most kind (s ∷ ss) zero = omega arith
state_most kind (s ∷ ss) (suc i) =
    let one = service_most kind s in
    let more = state_most kind ss i in
    omega (arith, length-append (service_holdings kind s) (state_holdings kind (take i ss)))

-- what all legs take, service by service
pub kind_same : (kind : Kind) (state : State) → flat_map (taken_by kind) (all_legs state) ≡ state_holdings kind state
kind_same kind [] = refl
kind_same kind (s ∷ ss) =
    flat_map-append (taken_by kind) (owned_legs s) (all_legs ss)
    ∙ ap (λ hs. service_holdings kind s ++ hs) (kind_same kind ss)

-- ---- counts by unit

-- a list that is known at each place
pub row_is : (f : ℤ → ℕ) (low : ℤ) (n : ℕ) (xs : List ℕ) → length xs ≡ n →
    ((k : ℕ) → k < n → slice_index xs k ≡ f (low +ℤ pos k)) → xs ≡ map f (integers_from low n)
row_is f low zero [] e h = refl
row_is f low zero (x ∷ xs) e h = absurd (omega arith)
row_is f low (suc n) [] e h = absurd (omega arith)
row_is f low (suc n) (x ∷ xs) e h =
    let here : low +ℤ pos 0 ≡ low = omega (arith, ints) in
    let first : x ≡ f low = h 0 (omega arith) ∙ ap f here in
    let rest = row_is f (low +ℤ pos 1) n xs (omega arith)
    (λ k lt. let next : low +ℤ pos (suc k) ≡ (low +ℤ pos 1) +ℤ pos k = omega (arith, ints) in
    h (suc k) (omega arith) ∙ ap f next) in
    λ i. first i ∷ rest i

pub row-grown : (low : ℤ) (by : ℤ → ℕ) (xs ys : List ℕ) → AtMost 0 xs → Grows low by xs ys →
    ys ≡ map by (integers_from low (length xs))
row-grown low by xs ys a g =
    row_is by low (length xs) ys g.same_length
    (λ k h. let e = g.each k h in let z = a.each k h in omega arith)

any_count : (p : Holding → Bool) (hs : List Holding) → nat_lt 0 (count_by p hs) ≡ list_any p hs
any_count p [] = refl
any_count p (h ∷ hs) =
    ap (nat_lt 0) (sum_by-cons (λ h. cond (p h) 1 0) h hs) ∙ one (p h) (count_by p hs) (list_any p hs) (any_count p hs)
  where
    one : (b : Bool) (n : ℕ) (more : Bool) → nat_lt 0 n ≡ more → nat_lt 0 (cond b 1 0 + n) ≡ (b || more)
    one true n more e = lt-ltb 0 (1 + n) (omega arith)
    one false n more e = let z : 0 + n ≡ n = omega arith in ap (nat_lt 0) z ∙ e

-- the units that some of these hold
pub count_held : (fibre : ℕ) (hs : List Holding) (us : List ℤ) →
    count_by (nat_lt 0) (map (holders fibre hs) us) ≡ count_by (λ u. list_any (holds fibre u) hs) us
count_held fibre hs [] = refl
count_held fibre hs (u ∷ us) =
    sum_by-cons (λ c. cond (nat_lt 0 c) 1 0) (holders fibre hs u) (map (holders fibre hs) us)
    ∙ (λ i. cond (any_count (holds fibre u) hs i) 1 0 + count_held fibre hs us i)
    ∙ sym (sum_by-cons (λ v. cond (list_any (holds fibre v) hs) 1 0) u us)

pub range_more : (a n : ℕ) → range_with_len a (n + 1) ≡ range_with_len a n ++ (a + n) ∷ []
range_more a n = rw (add-one n) (more a n)
  where
    more : (a n : ℕ) → range_with_len a (suc n) ≡ range_with_len a n ++ (a + n) ∷ []
    more a zero = let e : a ≡ a + 0 = omega arith in λ i. e i ∷ []
    more a (suc n) =
        let e : (a + 1) + n ≡ a + suc n = omega arith in
        ap (λ xs. a ∷ xs) (more (a + 1) n) ∙ ap (λ k. a ∷ (range_with_len (a + 1) n ++ k ∷ [])) e

pub sum_more : (f : ℕ → ℕ) (n : ℕ) →
    sum_by f (range_with_len 0 (n + 1)) ≡ sum_by f (range_with_len 0 n) + f n
sum_more f n =
    let e : 0 + n ≡ n = omega arith in
    ap (sum_by f) (range_more 0 n) ∙ sum_by_push f (range_with_len 0 n) (0 + n)
    ∙ ap (λ k. sum_by f (range_with_len 0 n) + f k) e

pub count_more : {X : Type 0} (p : X → Bool) (xs : List X) (i : ℕ) (x : X) → slice_get xs i ≡ Some x →
    count_by p (take (i + 1) xs) ≡ count_by p (take i xs) + cond (p x) 1 0
count_more p xs i x e =
    sum_by_more (λ y. cond (p y) 1 0) xs i x (slice_get_within xs i x e)
    ∙ ap (λ y. count_by p (take i xs) + cond (p y) 1 0) (get_or_from_slice_get xs i x x e)

-- how many units some of these hold, from a row of counts
pub row_units : (fibre : ℕ) (hs : List Holding) (a b : ℤ) (m n : ℕ) (counts : List ℕ) (r : ℕ) →
    r ≡ count_by (nat_lt 0) counts → counts ≡ map (holders fibre hs) (integers_from a m) → a ≡ b → m ≡ n →
    r ≡ count_by (λ u. list_any (holds fibre u) hs) (integers_from b n)
row_units fibre hs a b m n counts r e k low len =
    e ∙ ap (count_by (nat_lt 0)) (k ∙ (λ i. map (holders fibre hs) (integers_from (low i) (len i))))
    ∙ count_held fibre hs (integers_from b n)

-- a legal state has few services
pub few_services : (setup : Setup) (state : State) → is_setup setup ≡ true → Legal setup state →
    length state ≤ 65535
few_services setup state h l =
    let few = (Legal-parts setup state l).few in
    let most = (setup-facts setup h).few_services in
    omega arith
