-- Runs of free places in a row, upwards.
use Rattle.std.proofs.Common.{◌≡◌, sym, ◌∙◌, ap, ℕ, ◌+◌, ◌-◌, ◌<◌, ◌≤◌, arith, inl, inr, subst, Bool, true, false, List, length}
use Rattle.std.specs.Prelude.{slice_index_or}
use Rattle.std.proofs.lemmas.Bool.{both_ways, cases_eq, cases_lt}
use Rattle.admission.specs.Free.{EndsRun, IsFirstRun}

module _ (taken : List Bool) (width : ℕ) where
  -- So many free places stand right before this one, and no more. They are fewer than the width, and no run of
  -- the width has ended yet.
  pub record RunTo (i run : ℕ) : Type 0 where
    pub short : run < width
    pub fits : run ≤ i
    pub free : (k : ℕ) → k < i → i ≤ k + run → slice_index_or taken k false ≡ false
    pub whole : (k : ℕ) → k + run + 1 ≡ i → slice_index_or taken k false ≡ true
    pub none : (k : ℕ) → k < i → ¬ EndsRun taken width k

  below_unless : (k i : ℕ) → k ≤ i → (k ≡ i → ⊥) → k < i
  below_unless k i h other = elim (cases_lt k i) [
    | inl less ↦ less
    | inr more ↦ absurd (other (omega arith))
  ]

  up_to : (i : ℕ) → ((k : ℕ) → k < i → ¬ EndsRun taken width k) → ¬ EndsRun taken width i →
      (k : ℕ) → k < i + 1 → ¬ EndsRun taken width k
  up_to i before here k h e = elim (cases_eq k i) [
    | inl same ↦ here (subst (λ (j : ℕ). EndsRun taken width j) same e)
    | inr other ↦ before k (below_unless k i (omega arith) other) e
  ]

  broken : (i : ℕ) → 1 ≤ width → slice_index_or taken i false ≡ true → ¬ EndsRun taken width i
  broken i some t e = both_ways _ (e.free i (omega arith) (omega arith)) t

  unfinished : (i run : ℕ) → RunTo i run → run + 1 < width → ¬ EndsRun taken width i
  unfinished i run r more e =
      let long = e.long in
      let fits = r.fits in
      let k = i - (run + 1) in
      let at : k + run + 1 ≡ i = omega arith in
      both_ways _ (e.free k (omega arith) (omega arith)) (r.whole k at)

  pub reset : (i run : ℕ) → RunTo i run → slice_index_or taken i false ≡ true → RunTo (i + 1) 0
  reset i run r t =
      let short = r.short in
      record {
        short = omega arith;
        fits = omega arith;
        free = λ k h e. absurd (omega arith);
        whole = λ k e. let same : i ≡ k = omega arith in ap (λ j. slice_index_or taken j false) (sym same) ∙ t;
        none = up_to i r.none (broken i (omega arith) t);
      }

  longer : (i run : ℕ) → RunTo i run → slice_index_or taken i false ≡ false → (k : ℕ) → k < i + 1 →
      i + 1 ≤ k + (run + 1) → slice_index_or taken k false ≡ false
  longer i run r f k h e = elim (cases_eq k i) [
    | inl same ↦ ap (λ j. slice_index_or taken j false) same ∙ f
    | inr other ↦ r.free k (below_unless k i (omega arith) other) (omega arith)
  ]

  pub grown : (i run : ℕ) → RunTo i run → slice_index_or taken i false ≡ false → (run + 1 ≡ width → ⊥) →
      RunTo (i + 1) (run + 1)
  grown i run r f other =
      let short = r.short in
      let fits = r.fits in
      let more : run + 1 < width = below_unless (run + 1) width (omega arith) other in
      record {
        short = more;
        fits = omega arith;
        free = longer i run r f;
        whole = λ k e. r.whole k (omega arith);
        none = up_to i r.none (unfinished i run r more);
      }

  pub run_here : (i run : ℕ) → RunTo i run → slice_index_or taken i false ≡ false → run + 1 ≡ width →
      i < length taken → IsFirstRun taken width i
  run_here i run r f all within =
      let fits = r.fits in
      record {
        within = within;
        here = record {
          long = omega arith;
          free = λ k h less. longer i run r f k (omega arith) (omega arith);
        };
        first = r.none;
      }

  pub run_over : (i run : ℕ) → RunTo i run → length taken ≤ i → (k : ℕ) → k < length taken →
      ¬ EndsRun taken width k
  run_over i run r h k below = r.none k (omega arith)
