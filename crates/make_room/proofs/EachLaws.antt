-- A number for each service.
use Rattle.std.proofs.Common.{◌≡◌, refl, sym, ◌∙◌, ap, subst, ℕ, zero, suc, ◌+◌, ◌<◌, ◌≤◌, inl, inr, List, [], ◌∷◌, ◌++◌, length, get_or, Some, arith}
use Rattle.std.specs.Prelude.{slice_get, All}
use Rattle.std.proofs.lemmas.List.{length-append}
use Rattle.eon_model.specs.Services.{Service, State}
use Rattle.make_room.specs.declared.heights.Side.{Side}
use Rattle.make_room.specs.Sweeps.{IsEach, Begins, BeginsWithin}
use Rattle.make_room.proofs.SettleSteps.{below_next, service_at}

front : (xs : List ℕ) (x j : ℕ) → j < length xs → get_or (xs ++ x ∷ []) j 0 ≡ get_or xs j 0
front [] x j l = absurd (omega (arith, l))
front (y ∷ xs) x zero l = refl
front (y ∷ xs) x (suc j) l = front xs x j (omega (arith, l))

last : (xs : List ℕ) (x : ℕ) → get_or (xs ++ x ∷ []) (length xs) 0 ≡ x
last [] x = refl
last (y ∷ xs) x = last xs x

module _ (P : ℕ → Service → ℕ → Type 0) (state : State) where
  pub each_none : IsEach P state 0 []
  each_none = record { count = refl; each = λ j s l e. absurd (omega (arith, l)) }

  pub each_more : (n : ℕ) (xs : List ℕ) (x : ℕ) (s : Service) → slice_get state n ≡ Some s → P n s x →
      IsEach P state n xs → IsEach P state (n + 1) (xs ++ x ∷ [])
  each_more n xs x s there is h = record {
    count = let c = h.count in let l = length-append xs (x ∷ []) in omega (arith, c, l);
    each = λ j o l e. elim (below_next j n l) [
      | inl less ↦ subst (λ (v : ℕ). P j o v) (sym (front xs x j (let c = h.count in omega (arith, c, less)))) (h.each j o less e)
      | inr same ↦ at j o same e
    ];
  }
    where
      at : (j : ℕ) (o : Service) → j ≡ n → slice_get state j ≡ Some o → P j o (get_or (xs ++ x ∷ []) j 0)
      at j o same e =
          let f : slice_get state n ≡ Some o = ap (slice_get state) (sym same) ∙ e in
          let one : s ≡ o = cc in
          let value : get_or (xs ++ x ∷ []) j 0 ≡ x =
          ap (λ k. get_or (xs ++ x ∷ []) k 0) (same ∙ sym h.count) ∙ last xs x in
          subst (λ (v : ℕ). P j o v) (sym value)
          (subst (λ (k : ℕ). P k o x) (sym same) (subst (λ (t : Service). P n t x) one is))

-- begins lie in the grid
pub begins_small : (from : Side) (state : State) (xs : List ℕ) → IsEach (λ j. Begins from) state (length state) xs →
    All (λ h. h ≤ 8192) xs
begins_small from state xs h k d l =
    let near : k < length state = let c = h.count in omega (arith, c, l) in
    let s = service_at state k near in
    subst (λ (v : ℕ). v ≤ 8192) (default xs k d l) (h.each k s.0 near s.1).1
  where
    default : (xs : List ℕ) (k d : ℕ) → k < length xs → get_or xs k 0 ≡ get_or xs k d
    default [] k d l = absurd (omega (arith, l))
    default (x ∷ xs) zero d l = refl
    default (x ∷ xs) (suc k) d l = default xs k d (omega (arith, l))

pub bounds_small : (bounds : List ℕ) (state : State) (xs : List ℕ) → IsEach (BeginsWithin bounds) state (length state) xs →
    All (λ h. h ≤ 8192) xs
bounds_small bounds state xs h k d l =
    let near : k < length state = let c = h.count in omega (arith, c, l) in
    let s = service_at state k near in
    subst (λ (v : ℕ). v ≤ 8192) (default xs k d l) (h.each k s.0 near s.1).1
  where
    default : (xs : List ℕ) (k d : ℕ) → k < length xs → get_or xs k 0 ≡ get_or xs k d
    default [] k d l = absurd (omega (arith, l))
    default (x ∷ xs) zero d l = refl
    default (x ∷ xs) (suc k) d l = default xs k d (omega (arith, l))
