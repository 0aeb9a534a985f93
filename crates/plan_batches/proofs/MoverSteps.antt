-- The movers of some moves.
use Rattle.std.proofs.Common.{◌≡◌, refl, sym, ◌∙◌, subst, ℕ, ◌+◌, ◌<◌, ◌≤◌, inl, inr, List, [], ◌∷◌, ◌++◌, length, get_or, Some, arith}
use Rattle.std.specs.Prelude.{slice_get, All}
use Rattle.std.specs.List.{Contains}
use Rattle.std.specs.List.Sorted.{IsPermutation}
use Rattle.std.proofs.lemmas.Bool.{cases_eq, cases_lt}
use Rattle.std.proofs.lemmas.List.Elements.{All-push, Contains-push, Contains-append_left}
use Rattle.std.proofs.lemmas.List.Sorted.{All-permutation, Contains-permutation}
use Rattle.std.proofs.lemmas.Option.{slice_get_read}
use Rattle.eon_model.specs.Services.{Service, State, service_of}
use Rattle.compact_plan.specs.declared.answers.Move.{Move}
use Rattle.plan_batches.specs.declared.mover.Mover.{Mover}
use Rattle.plan_batches.specs.Movers.{IsMover}
use Rattle.plan_batches.specs.Batches.{IsMoverOf, AreMovers}

-- those of the moves below this place
pub record AreMoversTo (state : State) (moves : List Move) (movers : List Mover) (i : ℕ) : Type 0 where
  pub only : All (IsMoverOf state moves) movers
  pub all : (p : ℕ) → p < i → (m : Mover) × Contains movers m × (m.place ≡ p)

pub no_movers : (state : State) (moves : List Move) → AreMoversTo state moves [] 0
no_movers state moves = record { only = λ k d h. absurd (omega arith); all = λ p h. absurd (omega arith) }

pub more_movers : (state : State) (moves : List Move) (movers : List Mover) (i : ℕ) (m : Mover) →
    AreMoversTo state moves movers i → IsMoverOf state moves m → m.place ≡ i → AreMoversTo state moves (movers ++ m ∷ []) (i + 1)
more_movers state moves movers i m are of e = record {
  only = All-push (IsMoverOf state moves) movers m are.only of;
  all = λ p h. elim (cases_eq p i) [
    | inl last ↦ (m, Contains-push movers m, e ∙ sym last)
    | inr other ↦ let old = are.all p (lower p h other) in (old.0, Contains-append_left movers (m ∷ []) old.0 old.1, old.2)
  ];
}
  where
    lower : (p : ℕ) → p < i + 1 → (p ≡ i → ⊥) → p < i
    lower p h k = elim (cases_lt p i) [ inl l ↦ l | inr l ↦ absurd (k (omega arith)) ]

pub all_movers : (state : State) (moves : List Move) (movers : List Mover) (i : ℕ) → length moves ≤ i →
    AreMoversTo state moves movers i → AreMovers state moves movers
all_movers state moves movers i past are = record { only = are.only; all = λ p h. are.all p (omega arith) }

pub movers_moved : (state : State) (moves : List Move) (movers sorted : List Mover) → AreMovers state moves movers →
    IsPermutation movers sorted → AreMovers state moves sorted
movers_moved state moves movers sorted are perm = record {
  only = All-permutation (IsMoverOf state moves) movers sorted perm are.only;
  all = λ p h.
      let m = are.all p h in
      (m.0, Contains-permutation movers sorted m.0 perm m.1, m.2);
}

-- the mover at this place
pub mover_made : (state : State) (moves : List Move) (i : ℕ) (move : Move) (s : Service) (m : Mover) →
    slice_get moves i ≡ Some move → service_of state move.name ≡ Some s → m.place ≡ i → IsMover s move.to m →
    IsMoverOf state moves m
mover_made state moves i move s m there found at is = record {
  move = move;
  there = subst (λ (p : ℕ). slice_get moves p ≡ Some move) (sym at) there;
  service = s;
  found = found;
  mover = is;
}

-- the same, by what is read there
pub mover_read : (state : State) (moves : List Move) (i : ℕ) (x : Move) (s : Service) (m : Mover) → i < length moves →
    x ≡ get_or moves i x → service_of state x.name ≡ Some s → m.place ≡ i → IsMover s x.to m →
    IsMoverOf state moves m
mover_read state moves i x s m within read found at is =
    let there = slice_get_read moves (length moves) i x refl within read in
    mover_made state moves i x s m there found at is
