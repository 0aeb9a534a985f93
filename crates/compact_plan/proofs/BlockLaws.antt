-- The channels and backups of a list of services as blocks.
use Rattle.std.proofs.Common.{◌≡◌, refl, sym, ◌∙◌, ap, subst, ℕ, zero, suc, ◌+◌, ◌<◌, ◌≤◌, inl, inr, Bool, true, false, cond, ◌&&◌, not, nat_eq, List, [], ◌∷◌, ◌++◌, map, length, drop, append_assoc, append-nil, Option, Some, None, arith}
use Rattle.std.specs.Prelude.{slice_get}
use Rattle.std.specs.Option.{option_to_list}
use Rattle.std.specs.List.{Contains, IsDistinct, AllByRecursion}
use Rattle.std.specs.List.Sorted.{IsPermutation}
use Rattle.std.specs.Cmp.{nat_eq_equiv}
use Rattle.std.proofs.lemmas.Bool.{and_left, false_from_ne_true, eqb-true}
use Rattle.std.proofs.lemmas.List.Elements.{All-from_recursion}
use Rattle.std.proofs.lemmas.List.Sorted.{All-permutation, Contains-permutation}
use Rattle.std.proofs.lemmas.Map.Keys.{IsDistinct-cons, IsDistinct-IsPermutation}
use Rattle.eon_model.specs.Services.{Path, Service, State}
use Rattle.eon_model.proofs.OrderLaws.{IsIn}
use Rattle.eon_model.proofs.ListLaws.{IsIn-append_left, IsIn-append_right}
use Rattle.compact_plan.proofs.ListSteps.{opened, none_left}
use Rattle.compact_plan.specs.declared.block.Block.{Block}
use Rattle.compact_plan.specs.Blocks.{channel_block, backup_block, blocks_of, IsBlockOf, same_block, AreBlocks}

-- of the services from this place on
pub blocks_from : ℕ → State → List Block
blocks_from i [] = []
blocks_from i (s ∷ state) = blocks_of i s ++ blocks_from (i + 1) state

-- ---- which there are

contains : {X : Type 0} (xs : List X) (x : X) → IsIn x xs → Contains xs x
contains [] x i = absurd i
contains (y ∷ xs) x i = elim i [
  | inl e ↦ (0, omega arith, sym e)
  | inr more ↦ let c = contains xs x more in let l = c.1 in (suc c.0, omega arith, c.2)
]

at_end : (i k : ℕ) → i + suc k ≡ (i + 1) + k
at_end i k = omega arith

channel_in : (i : ℕ) (state : State) (k : ℕ) (s : Service) → slice_get state k ≡ Some s →
    IsIn (channel_block (i + k) s) (blocks_from i state)
unfolding blocks_from
channel_in i [] k s e = cc
channel_in i (t ∷ state) zero s e =
    let same : t ≡ s = cc in
    let at : i + zero ≡ i = omega arith in
    inl (ap (λ (n : ℕ). channel_block n s) at ∙ ap (channel_block i) (sym same))
channel_in i (t ∷ state) (suc k) s e =
    inr (IsIn-append_right (channel_block (i + suc k) s) (map (backup_block i) (option_to_list t.leg.back))
    (blocks_from (i + 1) state)
    (subst (λ (n : ℕ). IsIn (channel_block n s) (blocks_from (i + 1) state)) (sym (at_end i k))
    (channel_in (i + 1) state k s e)))

backup_in : (i : ℕ) (state : State) (k : ℕ) (s : Service) (b : Path) → slice_get state k ≡ Some s →
    s.leg.back ≡ Some b → IsIn (backup_block (i + k) b) (blocks_from i state)
unfolding blocks_from
backup_in i [] k s b e is = cc
backup_in i (t ∷ state) zero s b e is =
    let same : t ≡ s = cc in
    let at : i + zero ≡ i = omega arith in
    let back : t.leg.back ≡ Some b = ap (λ (x : Service). x.leg.back) same ∙ is in
    inr (IsIn-append_left (backup_block (i + zero) b) (map (backup_block i) (option_to_list t.leg.back))
    (blocks_from (i + 1) state)
    (subst (λ (o : Option Path). IsIn (backup_block (i + zero) b) (map (backup_block i) (option_to_list o))) (sym back)
    (inl (ap (λ (n : ℕ). backup_block n b) at))))
backup_in i (t ∷ state) (suc k) s b e is =
    inr (IsIn-append_right (backup_block (i + suc k) b) (map (backup_block i) (option_to_list t.leg.back))
    (blocks_from (i + 1) state)
    (subst (λ (n : ℕ). IsIn (backup_block n b) (blocks_from (i + 1) state)) (sym (at_end i k))
    (backup_in (i + 1) state k s b e is)))

-- ---- and no others

all_append : {X : Type 0} (P : X → Type 0) (xs ys : List X) → AllByRecursion P xs → AllByRecursion P ys →
    AllByRecursion P (xs ++ ys)
all_append P [] ys a b = b
all_append P (x ∷ xs) ys a b = (a.0, all_append P xs ys a.1 b)

-- what the places from i on of a larger list hold
abbrev Within : State → ℕ → State → Type 0
Within state i part = (k : ℕ) (s : Service) → slice_get part k ≡ Some s → slice_get state (i + k) ≡ Some s

all_back : (state : State) (i : ℕ) (s : Service) (back : Option Path) → s.leg.back ≡ back →
    slice_get state i ≡ Some s → AllByRecursion (IsBlockOf state) (map (backup_block i) (option_to_list back))
all_back state i s None e there = tt
all_back state i s (Some b) e there = (record { service = s; there = there; is = inr (b, e, refl) }, tt)

all_of : (state : State) (i : ℕ) (part : State) → Within state i part →
    AllByRecursion (IsBlockOf state) (blocks_from i part)
unfolding blocks_from
all_of state i [] within = tt
all_of state i (s ∷ part) within =
    let at : i + zero ≡ i = omega arith in
    let there : slice_get state i ≡ Some s = ap (slice_get state) (sym at) ∙ within 0 s refl in (
      record { service = s; there = there; is = inl refl },
      all_append (IsBlockOf state) (map (backup_block i) (option_to_list s.leg.back)) (blocks_from (i + 1) part)
          (all_back state i s s.leg.back refl there)
          (all_of state (i + 1) part (λ k t e. ap (slice_get state) (sym (at_end i k)) ∙ within (suc k) t e)),
    )

-- ---- each once

apart : (n m : ℕ) → n < m → nat_eq n m ≡ false
apart n m l = false_from_ne_true _ (λ t. let e = eqb-true n m t in omega arith)

module _ (a : Block) where
  back_apart : (i : ℕ) (o : Option Path) → a.number < i →
      AllByRecursion (λ b. same_block a b ≡ false) (map (backup_block i) (option_to_list o))
  back_apart i None h = tt
  back_apart i (Some b) h = (and_left _ _ (apart a.number i h), tt)

  above : (i : ℕ) (part : State) → a.number < i →
      AllByRecursion (λ b. same_block a b ≡ false) (blocks_from i part)
  unfolding blocks_from
  above i [] h = tt
  above i (s ∷ part) h = (
    and_left _ _ (apart a.number i h),
    all_append (λ b. same_block a b ≡ false) (map (backup_block i) (option_to_list s.leg.back)) (blocks_from (i + 1) part)
        (back_apart i s.leg.back h) (above (i + 1) part (omega arith)),
  )

next : (i : ℕ) → i < i + 1
next i = omega arith

same_number : (i : ℕ) → nat_eq i i ≡ true
same_number i = nat_eq_equiv.refl i

other_kind : (i : ℕ) (s : Service) (b : Path) → same_block (channel_block i s) (backup_block i b) ≡ false
other_kind i s b = ap (λ (x : Bool). x && false) (same_number i)

differ_back : (i : ℕ) (o : Option Path) (part : State) → IsDistinct same_block (blocks_from (i + 1) part) →
    IsDistinct same_block (map (backup_block i) (option_to_list o) ++ blocks_from (i + 1) part)
differ_back i None part h = h
differ_back i (Some b) part h =
    IsDistinct-cons same_block (backup_block i b) (blocks_from (i + 1) part)
    (above (backup_block i b) (i + 1) part (next i)) h

channel_apart : (i : ℕ) (s : Service) (o : Option Path) (part : State) →
    AllByRecursion (λ b. same_block (channel_block i s) b ≡ false)
    (map (backup_block i) (option_to_list o) ++ blocks_from (i + 1) part)
channel_apart i s None part = above (channel_block i s) (i + 1) part (next i)
channel_apart i s (Some b) part = (other_kind i s b, above (channel_block i s) (i + 1) part (next i))

differ_from : (i : ℕ) (part : State) → IsDistinct same_block (blocks_from i part)
unfolding blocks_from IsDistinct
differ_from i [] = tt
differ_from i (s ∷ part) =
    IsDistinct-cons same_block (channel_block i s)
    (map (backup_block i) (option_to_list s.leg.back) ++ blocks_from (i + 1) part)
    (channel_apart i s s.leg.back part) (differ_back i s.leg.back part (differ_from (i + 1) part))

-- ---- together

from_start : {X : Type 0} (xs : List X) (k : ℕ) (x : X) → slice_get xs k ≡ Some x → slice_get xs (0 + k) ≡ Some x
from_start xs k x e = ap (slice_get xs) (zero_more k) ∙ e
  where
    zero_more : (k : ℕ) → 0 + k ≡ k
    zero_more k = omega arith

pub are_blocks : (state : State) → AreBlocks state (blocks_from 0 state)
are_blocks state = record {
  channels = λ k s e. contains (blocks_from 0 state) (channel_block k s) (at (λ n. channel_block n s) k
      (channel_in 0 state k s e));
  backups = λ k s b e is. contains (blocks_from 0 state) (backup_block k b) (at (λ n. backup_block n b) k
      (backup_in 0 state k s b e is));
  only = All-from_recursion (IsBlockOf state) (blocks_from 0 state) (all_of state 0 state (from_start state));
  differ = differ_from 0 state;
}
  where
    zero_more : (k : ℕ) → 0 + k ≡ k
    zero_more k = omega arith

    at : (f : ℕ → Block) (k : ℕ) → IsIn (f (0 + k)) (blocks_from 0 state) → IsIn (f k) (blocks_from 0 state)
    at f k h = subst (λ (n : ℕ). IsIn (f n) (blocks_from 0 state)) (zero_more k) h

abbrev same_kind : Bool → Bool → Bool
same_kind x y = cond x y (not y)

kinds : (x y : Bool) → same_kind x y ≡ same_kind y x
kinds true true = refl
kinds true false = refl
kinds false true = refl
kinds false false = refl

flips : (a b : Block) → same_block a b ≡ same_block b a
flips a b = λ i. nat_eq_equiv.symm a.number b.number i && kinds a.is_backup b.is_backup i

-- in any order
pub are_moved : (state : State) (xs ys : List Block) → AreBlocks state xs → IsPermutation xs ys → AreBlocks state ys
are_moved state xs ys are moved = record {
  channels = λ i s e. Contains-permutation xs ys (channel_block i s) moved (are.channels i s e);
  backups = λ i s b e is. Contains-permutation xs ys (backup_block i b) moved (are.backups i s b e is);
  only = All-permutation (IsBlockOf state) xs ys moved are.only;
  differ = IsDistinct-IsPermutation same_block flips xs ys moved are.differ;
}

-- ---- one service after the other

pub listed_more : (xs ys : List Block) (state : State) (i : ℕ) (s : Service) (all : List Block) →
    slice_get state i ≡ Some s → ys ≡ xs ++ blocks_of i s →
    xs ++ blocks_from i (drop i state) ≡ all → ys ++ blocks_from (i + 1) (drop (i + 1) state) ≡ all
unfolding blocks_from
listed_more xs ys state i s all e is h =
    ap (λ (zs : List Block). zs ++ blocks_from (i + 1) (drop (i + 1) state)) is
    ∙ append_assoc xs (blocks_of i s) (blocks_from (i + 1) (drop (i + 1) state))
    ∙ ap (λ (part : State). xs ++ blocks_from i part) (sym (opened state i s e)) ∙ h

pub listed_all : (xs : List Block) (state : State) (i : ℕ) → length state ≤ i →
    xs ++ blocks_from i (drop i state) ≡ blocks_from 0 state → AreBlocks state xs
unfolding blocks_from
listed_all xs state i past h =
    subst (AreBlocks state)
    (sym h ∙ ap (λ (part : State). xs ++ blocks_from i part) (none_left state i past) ∙ append-nil xs)
    (are_blocks state)
