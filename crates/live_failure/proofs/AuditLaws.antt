-- Pairs of groups, counted one after the other.
use Rattle.std.proofs.Common.{◌≡◌, refl, sym, ◌∙◌, ap, ℕ, ◌+◌, ◌≤◌, arith, Bool, true, false, cond, List, [], ◌∷◌, ◌++◌, length, drop, find, Option, Some, None}
use Rattle.std.specs.Prelude.{count_by, slice_get}
use Rattle.std.specs.Option.{option_or}
use Rattle.std.proofs.lemmas.List.Sums.{sum_by-cons}
use Rattle.eon_model.specs.Legal.{Setup, Legal}
use Rattle.eon_model.specs.LiveFailure.{GroupPair, Audit, pairs_in_order, groups_in_order, audit_of}
use Rattle.eon_model.specs.Network.{Network}
use Rattle.eon_model.specs.Services.{Service, State}
use Rattle.eon_model.proofs.OrderLaws.{IsIn}
use Rattle.live_failure.specs.Parts.{is_lost}
use Rattle.live_failure.specs.Rivals.{with_pair, with_pairs, pairs_with, no_audit}
use Rattle.live_failure.proofs.LostLaws.{dark-lost}
use Rattle.live_failure.proofs.WalkLaws.{drop-at, drop-end}

module _ (state : State) (s : Service) where
  abbrev lost : GroupPair → Bool
  lost p = is_lost state (p.one ∷ p.two ∷ []) s

  pub pairs-append : (a : Audit) (ps qs : List GroupPair) →
      with_pairs state s a (ps ++ qs) ≡ with_pairs state s (with_pairs state s a ps) qs
  pairs-append a [] qs = refl
  pairs-append a (p ∷ ps) qs = pairs-append (with_pair a (lost p) p) ps qs

  counted : (pairs : ℕ) (first : Option GroupPair) (b : Bool) (p : GroupPair) (ps : List GroupPair) →
      with_pairs state s (with_pair (record { pairs = pairs; first = first }) b p) ps
      ≡ with_pairs state s (record { pairs = pairs + cond b 1 0; first = option_or first (cond b (Some p) None) }) ps
  counted pairs first true p ps = refl
  counted pairs None false p ps = let e : pairs + 0 ≡ pairs = omega arith in
      ap (λ n. with_pairs state s (record { pairs = n; first = None }) ps) (sym e)
  counted pairs (Some q) false p ps = let e : pairs + 0 ≡ pairs = omega arith in
      ap (λ n. with_pairs state s (record { pairs = n; first = Some q }) ps) (sym e)

  either : (first : Option GroupPair) (b : Bool) (p : GroupPair) (o : Option GroupPair) →
      option_or (option_or first (cond b (Some p) None)) o ≡ option_or first (cond b (Some p) o)
  either None true p o = refl
  either None false p o = refl
  either (Some q) b p o = refl

  pub pairs-told : (pairs : ℕ) (first : Option GroupPair) (ps : List GroupPair) →
      with_pairs state s (record { pairs = pairs; first = first }) ps
      ≡ record { pairs = pairs + count_by lost ps; first = option_or first (find lost ps) }
  pairs-told pairs None [] = let e : pairs + 0 ≡ pairs = omega arith in ap (λ n. record { pairs = n; first = None }) (sym e)
  pairs-told pairs (Some q) [] = let e : pairs + 0 ≡ pairs = omega arith in ap (λ n. record { pairs = n; first = Some q }) (sym e)
  pairs-told pairs first (p ∷ ps) =
      let more : pairs + cond (lost p) 1 0 + count_by lost ps ≡ pairs + count_by lost (p ∷ ps) =
      (let c = sum_by-cons (λ (q : GroupPair). cond (lost q) 1 0) p ps in omega arith) in
      counted pairs first (lost p) p ps
      ∙ pairs-told (pairs + cond (lost p) 1 0) (option_or first (cond (lost p) (Some p) None)) ps
      ∙ (λ i. record { pairs = more i; first = either first (lost p) p (find lost ps) i })

  -- ---- the walks

  pub inner-step : (a : Audit) (one two : ℕ) (later : List ℕ) (i : ℕ) (all : Audit) → slice_get later i ≡ Some two →
      with_pairs state s a (pairs_with one (drop i later)) ≡ all →
      with_pairs state s (with_pair a (lost (record { one = one; two = two })) (record { one = one; two = two }))
      (pairs_with one (drop (i + 1) later)) ≡ all
  inner-step a one two later i all e inv =
      ap (λ v. with_pairs state s a (pairs_with one v)) (sym (drop-at later i two e)) ∙ inv

  pub inner-end : (a : Audit) (one : ℕ) (later : List ℕ) (i : ℕ) (all : Audit) → length later ≤ i →
      with_pairs state s a (pairs_with one (drop i later)) ≡ all → a ≡ all
  inner-end a one later i all l inv = ap (λ v. with_pairs state s a (pairs_with one v)) (sym (drop-end later i l)) ∙ inv

  pub outer-step : (a : Audit) (one : ℕ) (order : List ℕ) (i : ℕ) (all : Audit) → slice_get order i ≡ Some one →
      with_pairs state s a (pairs_in_order (drop i order)) ≡ all →
      with_pairs state s (with_pairs state s a (pairs_with one (drop (i + 1) order))) (pairs_in_order (drop (i + 1) order)) ≡ all
  outer-step a one order i all e inv =
      sym (pairs-append a (pairs_with one (drop (i + 1) order)) (pairs_in_order (drop (i + 1) order)))
      ∙ ap (λ v. with_pairs state s a (pairs_in_order v)) (sym (drop-at order i one e)) ∙ inv

  pub outer-end : (a : Audit) (order : List ℕ) (i : ℕ) (all : Audit) → length order ≤ i →
      with_pairs state s a (pairs_in_order (drop i order)) ≡ all → a ≡ all
  outer-end a order i all l inv = ap (λ v. with_pairs state s a (pairs_in_order v)) (sym (drop-end order i l)) ∙ inv

-- of a legal state
pub audit-is : (setup : Setup) (net : Network) (state : State) (s : Service) → Legal setup state → IsIn s state →
    with_pairs state s no_audit (pairs_in_order (groups_in_order net)) ≡ audit_of net state s
audit-is setup net state s legal i =
    pairs-told state s 0 None (pairs_in_order (groups_in_order net))
    ∙ (λ k. record {
      pairs = zero_plus (count_by (λ p. is_lost state (p.one ∷ p.two ∷ []) s) (pairs_in_order (groups_in_order net))) k;
      first = find (λ p. is_lost state (p.one ∷ p.two ∷ []) s) (pairs_in_order (groups_in_order net));
    })
    ∙ (λ k. record {
      pairs = count_by (λ p. sym (dark-lost setup state legal (p.one ∷ p.two ∷ []) s i) k) (pairs_in_order (groups_in_order net));
      first = find (λ p. sym (dark-lost setup state legal (p.one ∷ p.two ∷ []) s i) k) (pairs_in_order (groups_in_order net));
    })
  where
    zero_plus : (n : ℕ) → 0 + n ≡ n
    zero_plus n = omega arith
