-- Rivals by their places, and what a search over them finds.
use Rattle.std.proofs.Common.{◌≡◌, refl, sym, ◌∙◌, ap, ℕ, ◌+◌, ◌≤◌, arith, Bool, true, false, cond, ◌&&◌, ◌||◌, List, [], ◌∷◌, ◌++◌, length, map, take, find, Option, Some, None}
use Rattle.std.specs.Prelude.{slice_get}
use Rattle.std.specs.Option.{option_to_list}
use Rattle.std.specs.List.{list_any, flat_map}
use Rattle.std.proofs.lemmas.List.{take_all}
use Rattle.std.proofs.lemmas.List.Folds.{list_any-append}
use Rattle.eon_model.specs.Legal.{Setup, Legal}
use Rattle.eon_model.specs.LiveFailure.{Weak, weak_of, exposed, groups_in_order}
use Rattle.eon_model.specs.Network.{Network}
use Rattle.eon_model.specs.Services.{Service, State}
use Rattle.live_failure.specs.Parts.{is_rival, has_switched, is_crossed, lost_where, is_lost}
use Rattle.live_failure.specs.Rivals.{passes_at, rival_at, AreRivals, crossed_at, threat_by, weak_by}
use Rattle.live_failure.proofs.LostLaws.{dark-lost}
use Rattle.live_failure.proofs.WalkLaws.{take-at, flat-same}

passes-is : (state : State) (test : Service → Bool) (i : ℕ) (t : Service) → slice_get state i ≡ Some t →
    passes_at state test i ≡ test t
passes-is state test i t e = ap (λ (o : Option Service). elim o [ Some t ↦ test t | None ↦ false ]) e

-- one service more
pub rivals-more : (state : State) (i : ℕ) (s t : Service) (places : List ℕ) → slice_get state i ≡ Some t →
    AreRivals state i s places → AreRivals state (i + 1) s (places ++ rival_at state s i)
rivals-more state i s t places e inv = λ test.
    list_any-append (passes_at state test) places (rival_at state s i)
    ∙ (λ k. inv test k || here test k)
    ∙ sym (ap (list_any (λ t. test t && is_rival s t)) (take-at state i t e)
    ∙ list_any-append (λ t. test t && is_rival s t) (take i state) (t ∷ []))
  where
    one : (b : Bool) (test : Service → Bool) → list_any (passes_at state test) (cond b (i ∷ []) []) ≡ (passes_at state test i && b || false)
    one true test = by (passes_at state test i)
      where
        by : (a : Bool) → (a || false) ≡ (a && true || false)
        by true = refl
        by false = refl
    one false test = by (passes_at state test i)
      where
        by : (a : Bool) → false ≡ (a && false || false)
        by true = refl
        by false = refl

    here : (test : Service → Bool) → list_any (passes_at state test) (rival_at state s i) ≡ (test t && is_rival s t || false)
    here test = one (passes_at state (is_rival s) i) test
        ∙ (λ k. passes-is state test i t e k && passes-is state (is_rival s) i t e k || false)

pub rivals-whole : (state : State) (n : ℕ) (s : Service) (places : List ℕ) → length state ≤ n → AreRivals state n s places →
    AreRivals state (length state) s places
rivals-whole state n s places l inv = λ test.
    inv test ∙ ap (list_any (λ t. test t && is_rival s t)) (take_all n state l ∙ sym (take_all (length state) state (omega arith)))

module _ (state : State) (s : Service) (places : List ℕ) (are : AreRivals state (length state) s places) where
  crossed-is : (failed : List ℕ) → crossed_at state places failed ≡ is_crossed state failed s
  crossed-is failed =
      are (has_switched failed)
      ∙ ap (list_any (λ t. has_switched failed t && is_rival s t)) (take_all (length state) state (omega arith))

  -- the first group that makes it dark
  pub threat-found : (order failed : List ℕ) (found : Option ℕ) → is_lost state failed s ≡ false →
      found ≡ find (λ g. lost_where (crossed_at state places (g ∷ failed)) (g ∷ failed) s) order →
      found ≡ threat_by order state failed s
  threat-found order failed found lit e =
      e ∙ (λ i. find (λ g. lost_where (crossed-is (g ∷ failed) i) (g ∷ failed) s) order)
      ∙ (λ i. cond (sym lit i) None (find (λ g. is_lost state (g ∷ failed) s) order))

pub threat-none : (state : State) (s : Service) (order failed : List ℕ) → is_lost state failed s ≡ true →
    None ≡ threat_by order state failed s
threat-none state s order failed dark = λ i. cond (sym dark i) None (find (λ g. is_lost state (g ∷ failed) s) order)

-- ---- of a legal state

module _ (setup : Setup) (state : State) (legal : Legal setup state) (net : Network) (failed : List ℕ) where
  abbrev as_weak : Service → Option ℕ → List Weak
  as_weak s threat = map (λ g. record { name = s.name; group = g }) (option_to_list threat)

  inside : (s : Service) (b : Bool) (o : Option ℕ) → cond b [] (as_weak s o) ≡ as_weak s (cond b None o)
  inside s true o = refl
  inside s false o = refl

  pub exposed-each : flat_map (weak_by (groups_in_order net) state failed) state ≡ exposed net state failed
  exposed-each = sym (flat-same (weak_of net state failed) (weak_by (groups_in_order net) state failed) state
      (λ s i. (λ k. cond (dark-lost setup state legal failed s i k) []
      (as_weak s (find (λ g. dark-lost setup state legal (g ∷ failed) s i k) (groups_in_order net))))
      ∙ inside s (is_lost state failed s) (find (λ g. is_lost state (g ∷ failed) s) (groups_in_order net))))
