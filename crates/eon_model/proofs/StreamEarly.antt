-- Of a machine that answers lines: what was given of an output tells its answers, and which of their lines are missed.
use Rattle.std.proofs.Common.{◌≡◌, refl, sym, ◌∙◌, ap, subst, inl, inr, ℕ, ◌+◌, Bool, true, false, List, [], ◌∷◌, ◌++◌, length, arith}
use Rattle.std.specs.Prelude.{MatchBool, IsTrue, ◌↔◌}
use Rattle.std.proofs.lemmas.List.{append-nil, append_assoc, append_cancel_left}
use Rattle.std.proofs.lemmas.Bool.{cases_eq}
use Rattle.eon_model.specs.Lists.{has_number}
use Rattle.eon_model.specs.LineStream.{is_quit, Machine, EndsIn, BeginsEach}
use Rattle.eon_model.proofs.StreamRuns.{HasOneAnswer}
use Rattle.eon_model.proofs.StreamTold.{TellsMissed, same-mark, AreAlike, next_below}

-- two marks with one meaning are one
one-mark : (p q : Bool) (X : Type 0) → (IsTrue p ↔ X) → (IsTrue q ↔ X) → p ≡ q
one-mark true true X f g = refl
one-mark true false X f g = sym (g.1 (f.0 refl))
one-mark false true X f g = f.1 (g.0 refl)
one-mark false false X f g = refl

rest-empty : (front rest more : List ℕ) → front ≡ front ++ (rest ++ more) → more ≡ []
rest-empty front rest more e =
    second rest more (sym (append_cancel_left front [] (rest ++ more) (append-nil front ∙ e)))
  where
    second : (xs ys : List ℕ) → xs ++ ys ≡ [] → ys ≡ []
    second [] ys e = e
    second (x ∷ xs) ys e = cc

module _ {S A : Type 0} (m : Machine S A) (memory : List ℕ) (one : HasOneAnswer m) (tells : TellsMissed m memory) where
  -- an answer with its mark
  same-answer : (s : S) (line : List ℕ) (p q : Bool) (a b : A) → p ≡ q → m.IsAnswer s line p a →
      m.IsAnswer s line q b → a ≡ b
  same-answer s line p q a b mark g h = one s line q a b (subst (λ (v : Bool). m.IsAnswer s line v a) mark g) h

  -- what ends inside one answer does not go past the other
  not-past : (s : S) (line given : List ℕ) (p q : Bool) (a b : A) (rest : List ℕ) (P : Type 0) →
      m.IsAnswer s line p a → m.IsAnswer s line q b → EndsIn m s line given p a → given ≡ m.text s b ++ rest → P
  not-past s line given p q a b rest P g h ends past =
      let whole : m.text s b ++ (rest ++ ends.rest) ≡ m.text s a =
      sym (append_assoc (m.text s b) rest ends.rest) ∙ ap (λ (v : List ℕ). v ++ ends.rest) (sym past) ∙ ends.is in
      let mark = same-mark m memory tells s line p q a b [] (rest ++ ends.rest) g h
      (append-nil (m.text s a) ∙ sym whole) in
      let same = same-answer s line p q a b mark g h in
      absurd (ends.more (rest-empty (m.text s b) rest ends.rest (sym (whole ∙ ap (m.text s) same))))

  -- behind two answers that were given whole
  behind : (missed others : List ℕ) (number : ℕ) (xs ys : List A) (quit : Bool) (given : List ℕ) (P Q : Type 0) →
      MatchBool quit ((xs ≡ []) × (given ≡ [])) P → MatchBool quit ((ys ≡ []) × (given ≡ [])) Q →
      (P → Q → AreAlike m memory missed others number xs ys) → AreAlike m memory missed others number xs ys
  behind missed others number xs ys true given P Q g h more = (
    g.0 ∙ sym h.0,
    λ n l k. let empty : length xs ≡ 0 = ap (λ (v : List A). length v) g.0 in absurd (omega arith),
  )
  behind missed others number xs ys false given P Q g h more = more g h

  -- one answer more
  with-one : (missed others : List ℕ) (number : ℕ) (a b : A) (xs ys : List A) → a ≡ b →
      has_number missed number ≡ has_number others number → AreAlike m memory missed others (number + 1) xs ys →
      AreAlike m memory missed others number (a ∷ xs) (b ∷ ys)
  with-one missed others number a b xs ys same mark rest = (
    λ i. same i ∷ rest.0 i,
    λ n l k. elim (cases_eq number n) [
      | inl is ↦ subst (λ (v : ℕ). has_number missed v ≡ has_number others v) is mark
      | inr other ↦ rest.1 n (next_below number n l other) (omega arith)
    ],
  )

  none-alike : (missed others : List ℕ) (number : ℕ) (xs ys : List A) → xs ≡ [] → ys ≡ [] →
      AreAlike m memory missed others number xs ys
  none-alike missed others number xs ys e f = (
    e ∙ sym f,
    λ n l k. let empty : length xs ≡ 0 = ap (λ (v : List A). length v) e in absurd (omega arith),
  )

  pub told-early : (missed others : List ℕ) (number : ℕ) (s : S) (lines : List (List ℕ)) (xs ys : List A)
      (given : List ℕ) → BeginsEach m missed number s lines xs given → BeginsEach m others number s lines ys given →
      AreAlike m memory missed others number xs ys
  told-early missed others number s [] [] [] given g h = none-alike missed others number [] [] refl refl
  told-early missed others number s [] [] (y ∷ ys) given g h = absurd h
  told-early missed others number s [] (x ∷ xs) ys given g h = absurd g
  told-early missed others number s (line ∷ lines) [] ys given g h = absurd g
  told-early missed others number s (line ∷ lines) (x ∷ xs) [] given g h = absurd h
  told-early missed others number s (line ∷ lines) (x ∷ xs) (y ∷ ys) given g h =
      let p = has_number missed number in
      let q = has_number others number in
      elim g.1 [
        | inl ends ↦ elim h.1 [
          | inl stops ↦
              let mark = one-mark p q _ ends.1.missed stops.1.missed in
              with-one missed others number x y xs ys (same-answer s line p q x y mark g.0 h.0) mark
              (none-alike missed others (number + 1) xs ys ends.0 stops.0)
          | inr goes ↦ not-past s line given p q x y goes.0 _ g.0 h.0 ends.1 goes.1
        ]
        | inr on ↦ elim h.1 [
          | inl stops ↦ not-past s line given q p y x on.0 _ h.0 g.0 stops.1 on.1
          | inr goes ↦
              let mark = same-mark m memory tells s line p q x y on.0 goes.0 g.0 h.0 (sym on.1 ∙ goes.1) in
              let same = same-answer s line p q x y mark g.0 h.0 in
              let rest : on.0 ≡ goes.0 = append_cancel_left (m.text s y) on.0 goes.0
              (ap (λ (v : A). m.text s v ++ on.0) (sym same) ∙ sym on.1 ∙ goes.1) in
              let moved : MatchBool (is_quit line) ((xs ≡ []) × (goes.0 ≡ []))
              (BeginsEach m missed (number + 1) (m.after s y) lines xs goes.0) =
              subst (λ (v : List ℕ). MatchBool (is_quit line) ((xs ≡ []) × (v ≡ []))
              (BeginsEach m missed (number + 1) (m.after s y) lines xs v)) rest
              (subst (λ (v : A). MatchBool (is_quit line) ((xs ≡ []) × (on.0 ≡ []))
              (BeginsEach m missed (number + 1) (m.after s v) lines xs on.0)) same on.2) in
              with-one missed others number x y xs ys same mark
              (behind missed others (number + 1) xs ys (is_quit line) goes.0 _ _ moved goes.2
              (λ a b. told-early missed others (number + 1) (m.after s y) lines xs ys goes.0 a b))
        ]
      ]
