-- A part that the first byte decides, and a part that may be absent.
use Rattle.std.proofs.Common.{◌≡◌, refl, sym, ◌∙◌, ap, subst, ℕ, ◌≤◌, Bool, true, false, cond, List, [], ◌∷◌, ◌++◌, length, Ok, Err, ◌⊎◌, inl, inr, arith}
use Rattle.command_text.specs.Reading.{Read}
use Rattle.command_text.proofs.ListParts.{ok_is, left_of}
use Rattle.command_text.proofs.PartLaws.{IsNil, Took, Begun, IsPart, within}

-- readers that read alike
pub part-read : {A : Type 0} {Ends : List ℕ → Type 0} {IsText : A → List ℕ → Type 0} (read other : List ℕ → Read A) →
    ((bytes : List ℕ) → read bytes ≡ other bytes) → IsPart Ends IsText read → IsPart Ends IsText other
part-read {Ends = Ends} {IsText = IsText} read other same part = subst
    (λ (r : List ℕ → Read _). IsPart Ends IsText r) (λ i bytes. same bytes i) part

-- the list begins with a byte for which the test gives this
abbrev pub Heads : (ℕ → Bool) → Bool → List ℕ → Type 0
Heads test answer [] = ⊥
Heads test answer (b ∷ t) = test b ≡ answer

abbrev pub Either : {A : Type 0} → (A → List ℕ → Type 0) → (A → List ℕ → Type 0) → A → List ℕ → Type 0
Either IsOne IsOther a t = IsOne a t ⊎ IsOther a t

abbrev pub choice_read : {A : Type 0} → (ℕ → Bool) → (List ℕ → Read A) → (List ℕ → Read A) → List ℕ → Read A
choice_read test one other [] = Err 0
choice_read test one other (b ∷ bytes) = cond (test b) (one (b ∷ bytes)) (other (b ∷ bytes))

pub choice-part : {A : Type 0} {Ends : List ℕ → Type 0} {IsOne IsOther : A → List ℕ →
    Type 0} {one other : List ℕ → Read A} (test : ℕ → Bool) →
    IsPart Ends IsOne one → IsPart Ends IsOther other →
    ((a : A) (t : List ℕ) → IsOne a t → Heads test true t) →
    ((a : A) (t : List ℕ) → IsOther a t → Heads test false t) →
    IsPart Ends (Either IsOne IsOther) (choice_read test one other)
choice-part {A = A} {Ends = Ends} {IsOne = IsOne} {IsOther = IsOther} {one = one} {other = other} test p q heads others = record {
  some = (p.some.0, p.some.1, inl p.some.2);
  takes = choice_takes;
  stuck = choice_stuck;
  again = choice_again;
  reach = choice_reach;
}
  where
    choice_takes : (bytes : List ℕ) (a : A) (rest : List ℕ) → choice_read test one other bytes ≡ Ok (a, rest) →
        Took (Either IsOne IsOther) bytes a rest
    choice_takes [] a rest e = absurd cc
    choice_takes (b ∷ bytes) a rest e =
        elim (test b) as (λ t. cond t (one (b ∷ bytes)) (other (b ∷ bytes)) ≡ Ok (a, rest) → Took
        (Either IsOne IsOther) (b ∷ bytes) a rest) [
          | true ↦ λ f. let k = p.takes (b ∷ bytes) a rest f in record { text = k.text; is_text = inl k.is_text; is = k.is }
          | false ↦ λ f. let k = q.takes (b ∷ bytes) a rest f in record { text = k.text; is_text = inr k.is_text; is = k.is }
        ] e

    choice_stuck : (bytes : List ℕ) (left : ℕ) → choice_read test one other bytes ≡ Err left →
        Begun (Either IsOne IsOther) bytes left
    choice_stuck [] left e = record { front = []; back = []; a = p.some.0; more = p.some.1; is_text = inl p.some.2; is = refl; left_is = cc }
    choice_stuck (b ∷ bytes) left e =
        elim (test b) as (λ t. cond t (one (b ∷ bytes)) (other (b ∷ bytes)) ≡ Err left → Begun
        (Either IsOne IsOther) (b ∷ bytes) left) [
          | true ↦ λ f. let k = p.stuck (b ∷ bytes) left f in
              record { front = k.front; back = k.back; a = k.a; more = k.more; is_text = inl k.is_text; is = k.is; left_is = k.left_is }
          | false ↦ λ f. let k = q.stuck (b ∷ bytes) left f in
              record { front = k.front; back = k.back; a = k.a; more = k.more; is_text = inr k.is_text; is = k.is; left_is = k.left_is }
        ] e

    again_one : (a : A) (t rest : List ℕ) → IsOne a t → Heads test true t → Ends rest →
        choice_read test one other (t ++ rest) ≡ Ok (a, rest)
    again_one a [] rest h head ends = absurd head
    again_one a (b ∷ t) rest h head ends = (λ i. cond (head i) (one (b ∷ (t ++ rest)))
        (other (b ∷ (t ++ rest)))) ∙ p.again a (b ∷ t) rest h ends

    again_other : (a : A) (t rest : List ℕ) → IsOther a t → Heads test false t → Ends rest →
        choice_read test one other (t ++ rest) ≡ Ok (a, rest)
    again_other a [] rest h head ends = absurd head
    again_other a (b ∷ t) rest h head ends = (λ i. cond (head i) (one (b ∷ (t ++ rest)))
        (other (b ∷ (t ++ rest)))) ∙ q.again a (b ∷ t) rest h ends

    choice_again : (a : A) (t rest : List ℕ) → Either IsOne IsOther a t → Ends rest →
        choice_read test one other (t ++ rest) ≡ Ok (a, rest)
    choice_again a t rest (inl h) ends = again_one a t rest h (heads a t h) ends
    choice_again a t rest (inr h) ends = again_other a t rest h (others a t h) ends

    choice_within : (y : List ℕ) → left_of (choice_read test one other y) ≤ length y
    choice_within [] = omega arith
    choice_within (b ∷ y) = elim (test b) as (λ t. left_of (cond t (one (b ∷ y)) (other (b ∷ y))) ≤ length (b ∷ y)) [
      | true ↦ within p (b ∷ y)
      | false ↦ within q (b ∷ y)
    ]

    choice_reach : (a : A) (s z y : List ℕ) → Either IsOne IsOther a (s ++ z) →
        left_of (choice_read test one other (s ++ y)) ≤ length y
    choice_reach a [] z y h = choice_within y
    choice_reach a (b ∷ s) z y (inl h) =
        subst (λ (t : Bool). left_of (cond t (one (b ∷ (s ++ y))) (other (b ∷ (s ++ y)))) ≤ length y)
        (sym (heads a (b ∷ (s ++ z)) h)) (p.reach a (b ∷ s) z y h)
    choice_reach a (b ∷ s) z y (inr h) =
        subst (λ (t : Bool). left_of (cond t (one (b ∷ (s ++ y))) (other (b ∷ (s ++ y)))) ≤ length y)
        (sym (others a (b ∷ (s ++ z)) h)) (q.reach a (b ∷ s) z y h)

-- ---- a part that may be absent where nothing follows

abbrev pub OrNothing : {A : Type 0} → A → (A → List ℕ → Type 0) → A → List ℕ → Type 0
OrNothing none IsText a t = ((a ≡ none) × (t ≡ [])) ⊎ IsText a t

abbrev pub or_nothing_read : {A : Type 0} → A → (List ℕ → Read A) → List ℕ → Read A
or_nothing_read none read [] = Ok (none, [])
or_nothing_read none read (b ∷ bytes) = read (b ∷ bytes)

pub or-nothing-part : {A : Type 0} {IsText : A → List ℕ → Type 0} {read : List ℕ → Read A} (none : A) →
    IsPart IsNil IsText read → ((a : A) → IsText a [] → ⊥) → IsPart IsNil (OrNothing none IsText)
    (or_nothing_read none read)
or-nothing-part {A = A} {IsText = IsText} {read = read} none part full = record {
  some = (none, [], inl (refl, refl));
  takes = some_takes;
  stuck = some_stuck;
  again = some_again;
  reach = some_reach;
}
  where
    some_takes : (bytes : List ℕ) (a : A) (rest : List ℕ) → or_nothing_read none read bytes ≡ Ok (a, rest) →
        Took (OrNothing none IsText) bytes a rest
    some_takes [] a rest e = let same = ok_is (none, []) (a, rest) e in
        record { text = []; is_text = inl (ap (λ x. x.0) (sym same), refl); is = ap (λ x. x.1) same }
    some_takes (b ∷ bytes) a rest e = let k = part.takes
        (b ∷ bytes) a rest e in record { text = k.text; is_text = inr k.is_text; is = k.is }

    some_stuck : (bytes : List ℕ) (left : ℕ) → or_nothing_read none read bytes ≡ Err left →
        Begun (OrNothing none IsText) bytes left
    some_stuck [] left e = absurd cc
    some_stuck (b ∷ bytes) left e = let k = part.stuck (b ∷ bytes) left e in
        record { front = k.front; back = k.back; a = k.a; more = k.more; is_text = inr k.is_text; is = k.is; left_is = k.left_is }

    again_text : (a : A) (t : List ℕ) → IsText a t → or_nothing_read none read (t ++ []) ≡ Ok (a, [])
    again_text a [] h = absurd (full a h)
    again_text a (b ∷ t) h = part.again a (b ∷ t) [] h refl

    some_again : (a : A) (t rest : List ℕ) → OrNothing none IsText a t → IsNil rest →
        or_nothing_read none read (t ++ rest) ≡ Ok (a, rest)
    some_again a t rest (inl h) ends =
        let e : t ++ rest ≡ [] = ap (λ v. v ++ rest) h.1 ∙ ends in
        ap (or_nothing_read none read) e ∙ (λ i. Ok (sym h.0 i, sym ends i))
    some_again a t rest (inr h) ends =
        ap (λ v. or_nothing_read none read (t ++ v)) ends ∙ again_text a t h ∙ (λ i. Ok (a, sym ends i))

    some_within : (y : List ℕ) → left_of (or_nothing_read none read y) ≤ length y
    some_within [] = omega arith
    some_within (b ∷ y) = within part (b ∷ y)

    some_reach : (a : A) (p z y : List ℕ) → OrNothing none IsText a (p ++ z) →
        left_of (or_nothing_read none read (p ++ y)) ≤ length y
    some_reach a [] z y h = some_within y
    some_reach a (b ∷ p) z y (inl h) = let bad = h.1 in absurd cc
    some_reach a (b ∷ p) z y (inr h) = part.reach a (b ∷ p) z y h
