-- Rows of moves, fibre by fibre.
use Rattle.std.proofs.Common.{◌≡◌, refl, sym, ◌∙◌, ap, subst, ℕ, zero, suc, ◌+◌, ◌<◌, ◌⊎◌, inl, inr, true, List, [], ◌∷◌, ◌++◌, set, length, get_or, Vec, Global, Some, drop, arith}
use Rattle.std.specs.Prelude.{fold, slice_get, Option, ◌==◌}
use Rattle.std.proofs.lemmas.Bool.{or_cases, or_left, or_right, eqb-true, eq-eqb, false≢true, cases_eq}
use Rattle.std.proofs.lemmas.List.Sums.{fold-append}
use Rattle.eon_model.specs.Lists.{has_number, IsAmong}
use Rattle.eon_model.proofs.OrderLaws.{IsIn}
use Rattle.eon_model.proofs.SortLaws.{in_front, in_back, in_either}
use Rattle.compact_plan.proofs.ListSteps.{opened}
use Rattle.plan_batches.specs.declared.mover.Mover.{Mover}
use Rattle.plan_batches.specs.declared.turn.Turn.{Turn}
use Rattle.plan_batches.specs.Awaited.{awaited}
use Rattle.plan_batches.specs.Rows.{row, turns_on, AreEmpty, Gains, GainsOn}

abbrev pub Rows : Type 0
Rows = List (Vec Turn Global)

-- one more row without a move
pub empty_more : (rows : Rows) (v : Vec Turn Global) → v.items ≡ [] → AreEmpty rows → AreEmpty (rows ++ v ∷ [])
empty_more [] v e empty zero = e
empty_more [] v e empty (suc f) = refl
empty_more (r ∷ rows) v e empty zero = empty zero
empty_more (r ∷ rows) v e empty (suc f) = empty_more rows v e (λ n. empty (suc n)) f

row_here : (rows : Rows) (f : ℕ) (v : Vec Turn Global) → f < length rows → row (set rows f v) f ≡ v.items
row_here [] f v h = absurd (omega arith)
row_here (r ∷ rows) zero v h = refl
row_here (r ∷ rows) (suc f) v h = row_here rows f v (omega arith)

row_other : (rows : Rows) (f g : ℕ) (v : Vec Turn Global) → (g ≡ f → ⊥) → row (set rows f v) g ≡ row rows g
row_other [] f g v h = refl
row_other (r ∷ rows) zero zero v h = absurd (h refl)
row_other (r ∷ rows) zero (suc g) v h = refl
row_other (r ∷ rows) (suc f) zero v h = refl
row_other (r ∷ rows) (suc f) (suc g) v h = row_other rows f g v (λ e. h (ap suc e))

pub row_read : (rows : Rows) (f : ℕ) (v : Vec Turn Global) → f < length rows → v ≡ get_or rows f v → v.items ≡ row rows f
row_read [] f v h e = absurd (omega arith)
row_read (r ∷ rows) zero v h e = ap (λ (w : Vec Turn Global). w.items) e
row_read (r ∷ rows) (suc f) v h e = row_read rows f v (omega arith) e

-- a row with one more move in the place of the one before
pub gains : (rows : Rows) (f : ℕ) (old new : Vec Turn Global) (t : Turn) → f < length rows → old.items ≡ row rows f →
    new.items ≡ old.items ++ t ∷ [] → Gains rows (set rows f new) f t
gains rows f old new t h e is = record {
  here = row_here rows f new h ∙ is ∙ ap (λ (ts : List Turn). ts ++ t ∷ []) e;
  others = λ g other. row_other rows f g new other;
}

-- ---- members

pub to_in : {X : Type 0} (x : X) (xs : List X) → IsAmong x xs → IsIn x xs
to_in x [] i = absurd i
to_in x (y ∷ ys) i = elim i [ inl e ↦ inl e | inr more ↦ inr (to_in x ys more) ]

pub to_among : {X : Type 0} (x : X) (xs : List X) → IsIn x xs → IsAmong x xs
to_among x [] i = absurd i
to_among x (y ∷ ys) i = elim i [ inl e ↦ inl e | inr more ↦ inr (to_among x ys more) ]

-- the move is in the rows of these fibres, and nothing else is new
pub record GainsIn (old new : Rows) (fibres : List ℕ) (t : Turn) : Type 0 where
  pub kept : (f : ℕ) (u : Turn) → IsIn u (row old f) → IsIn u (row new f)
  pub there : (f : ℕ) → has_number fibres f ≡ true → IsIn t (row new f)
  pub from : (f : ℕ) (u : Turn) → IsIn u (row new f) → IsIn u (row old f) ⊎ ((u ≡ t) × (has_number fibres f ≡ true))

pub gains-on : (old new : Rows) (fibres : List ℕ) (t : Turn) → GainsIn old new fibres t → GainsOn old new fibres t
gains-on old new fibres t g = record {
  kept = λ f u i. to_among u (row new f) (g.kept f u (to_in u (row old f) i));
  there = λ f h. to_among t (row new f) (g.there f h);
  from = λ f u i. elim (g.from f u (to_in u (row new f) i)) [
    | inl before ↦ inl (to_among u (row old f) before)
    | inr new_one ↦ inr new_one
  ];
}

pub gains-in : (old new : Rows) (fibres : List ℕ) (t : Turn) → GainsOn old new fibres t → GainsIn old new fibres t
gains-in old new fibres t g = record {
  kept = λ f u i. to_in u (row new f) (g.kept f u (to_among u (row old f) i));
  there = λ f h. to_in t (row new f) (g.there f h);
  from = λ f u i. elim (g.from f u (to_among u (row new f) i)) [
    | inl before ↦ inl (to_in u (row old f) before)
    | inr new_one ↦ inr new_one
  ];
}

-- ---- one fibre after the other

pub gains_none : (rows : Rows) (t : Turn) → GainsIn rows rows [] t
gains_none rows t = record {
  kept = λ f u i. i;
  there = λ f h. absurd (false≢true h);
  from = λ f u i. inl i;
}

pub gains_more : (a b c : Rows) (f : ℕ) (fs : List ℕ) (t : Turn) → Gains a b f t → GainsIn b c fs t → GainsIn a c (f ∷ fs) t
gains_more a b c f fs t one more = record {
  kept = λ g u i. more.kept g u (kept_one g u i);
  there = λ g h. elim (or_cases (f == g) (has_number fs g) h) [
    | inl here ↦ more.kept g t (new_one g (eqb-true f g here))
    | inr later ↦ more.there g later
  ];
  from = λ g u i. elim (more.from g u i) [
    | inl before ↦ from_one g u before
    | inr new ↦ inr (new.0, or_right (f == g) (has_number fs g) new.1)
  ];
}
  where
    kept_one : (g : ℕ) (u : Turn) → IsIn u (row a g) → IsIn u (row b g)
    kept_one g u i = elim (cases_eq g f) [
      | inl e ↦ subst (λ (n : ℕ). IsIn u (row b n)) (sym e) (subst (λ (ts : List Turn). IsIn u ts) (sym one.here)
          (in_front u (row a f) (t ∷ []) (subst (λ (n : ℕ). IsIn u (row a n)) e i)))
      | inr other ↦ subst (λ (ts : List Turn). IsIn u ts) (sym (one.others g other)) i
    ]

    new_one : (g : ℕ) → f ≡ g → IsIn t (row b g)
    new_one g e = subst (λ (n : ℕ). IsIn t (row b n)) e (subst (λ (ts : List Turn). IsIn t ts) (sym one.here)
        (in_back t (row a f) (t ∷ []) (inl refl)))

    from_one : (g : ℕ) (u : Turn) → IsIn u (row b g) → IsIn u (row a g) ⊎ ((u ≡ t) × (has_number (f ∷ fs) g ≡ true))
    from_one g u i = elim (cases_eq g f) [
      | inl e ↦ elim (in_either u (row a f) (t ∷ []) (subst (λ (ts : List Turn). IsIn u ts) one.here
          (subst (λ (n : ℕ). IsIn u (row b n)) e i))) [
            | inl old ↦ inl (subst (λ (n : ℕ). IsIn u (row a n)) (sym e) old)
            | inr new ↦ elim new [
              | inl same ↦ inr (same, or_left (f == g) (has_number fs g) (eq-eqb f g (sym e)))
              | inr none ↦ absurd none
            ]
          ]
      | inr other ↦ inl (subst (λ (ts : List Turn). IsIn u ts) (one.others g other) i)
    ]

-- ---- what is waited for

-- the fibre at this place, and then the others
pub awaited_more : (m : Mover) (rows : Rows) (fibres : List ℕ) (i f : ℕ) (found next : Option Turn) (ts : List Turn)
    (whole : Option Turn) → slice_get fibres i ≡ Some f → ts ≡ row rows f → next ≡ fold (awaited m) found ts →
    fold (awaited m) found (turns_on rows (drop i fibres)) ≡ whole →
    fold (awaited m) next (turns_on rows (drop (i + 1) fibres)) ≡ whole
awaited_more m rows fibres i f found next ts whole e is step inv =
    ap (λ (o : Option Turn). fold (awaited m) o (turns_on rows (drop (i + 1) fibres)))
    (step ∙ ap (fold (awaited m) found) is)
    ∙ sym (fold-append (awaited m) found (row rows f) (turns_on rows (drop (i + 1) fibres)))
    ∙ ap (λ (fs : List ℕ). fold (awaited m) found (turns_on rows fs)) (sym (opened fibres i f e))
    ∙ inv
