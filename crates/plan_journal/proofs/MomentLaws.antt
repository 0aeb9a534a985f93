-- What a crash may leave since a call began, as the calls of a disk go on.
use Rattle.std.proofs.Common.{◌∙◌, refl, inl, inr, ⊎_elim, ℕ, List, arith}
use Rattle.std.specs.Prelude.{Result, Ok, Err, OnOk, Option, None, Some, IfSome}
use Rattle.eon_model.specs.Disk.{Elapses, LeavesOnly}
use Rattle.eon_disk.proofs.HeldLaws.{take-all}
use Rattle.plan_journal.specs.Moments.{IsTornFrom, IsCutFrom, OnlyReads}

-- ---- a step that leaves an image as it was

pub not_torn : (images : List ℕ → Type 0) (at n : ℕ) (c : List ℕ) → images c → IsTornFrom images at n c
not_torn images at n c h =
    (c, h, record { before = refl; after = refl; no_shorter = omega arith; no_longer = omega arith })

pub not_cut : (images : List ℕ → Type 0) (n : ℕ) (c : List ℕ) → images c → IsCutFrom images n c
not_cut images n c h = (c, h, record { no_shorter = omega arith; front = take-all c })

module _ {D : Type 0} (clock : D → ℕ) (since : D → ℕ → List ℕ → Type 0) where
  -- before the first call
  pub started : (old : D) (P : List ℕ → Type 0) → ((c : List ℕ) → since old (clock old) c → P c) →
      LeavesOnly clock since old old P
  started old P here = record { later = omega arith; each = here; before = λ t c le left. inl left }

  -- one call more, after which a crash leaves what has P
  pub goes_on : (old mid new : D) (P images : List ℕ → Type 0) → LeavesOnly clock since old mid P →
      Elapses (clock mid) (clock new) (since mid) (since new) images → ((c : List ℕ) → images c → P c) →
      LeavesOnly clock since old new P
  goes_on old mid new P images so_far time here = record {
    later = let a = so_far.later in let b = time.later in omega arith;
    each = λ c left.
        ⊎_elim (so_far.each c) (here c) (time.nothing_else (clock old) c so_far.later left);
    before = λ t c le left. ⊎_elim (so_far.before t c le) (λ now. inr (here c now))
        (time.nothing_else t c (let a = so_far.later in omega arith) left);
  }

  -- one call, that leaves what has P as an image of the start has
  pub called : (images : D → List ℕ → Type 0) → ((d : D) (c : List ℕ) → since d (clock d) c → images d c) →
      (old new : D) (P : List ℕ → Type 0) → Elapses (clock old) (clock new) (since old) (since new) (images new) →
      ((c : List ℕ) → images old c → P c) → ((c : List ℕ) → images new c → P c) → LeavesOnly clock since old new P
  called images only_now old new P time was is =
      goes_on old old new P (images new) (started old P (λ c left. was c (only_now old c left))) time is

  -- what is left has less, too
  pub weaker : (old new : D) (P Q : List ℕ → Type 0) → LeavesOnly clock since old new P →
      ((c : List ℕ) → P c → Q c) → LeavesOnly clock since old new Q
  weaker old new P Q run more = record {
    later = run.later;
    each = λ c left. more c (run.each c left);
    before = λ t c le left. ⊎_elim (λ was. inl was) (λ p. inr (more c p)) (run.before t c le left);
  }

  -- one run, and then another
  pub then : (old mid new : D) (P : List ℕ → Type 0) → LeavesOnly clock since old mid P →
      LeavesOnly clock since mid new P → LeavesOnly clock since old new P
  then old mid new P one two = record {
    later = let a = one.later in let b = two.later in omega arith;
    each = λ c left. ⊎_elim (one.each c) (λ p. p) (two.before (clock old) c one.later left);
    before = λ t c le left. ⊎_elim (one.before t c le) (λ p. inr p)
        (two.before t c (let a = one.later in omega arith) left);
  }

  -- a call that leaves images as they were, and then a write
  pub then_torn : (images : D → List ℕ → Type 0) → ((d : D) (c : List ℕ) → since d (clock d) c → images d c) →
      (old mid new : D) (at n : ℕ) → Elapses (clock old) (clock mid) (since old) (since mid) (images mid) →
      ((c : List ℕ) → images mid c → images old c) → LeavesOnly clock since mid new (IsTornFrom (images mid) at n) →
      LeavesOnly clock since old new (IsTornFrom (images old) at n)
  then_torn images only_now old mid new at n time none_new run =
      let P : List ℕ → Type 0 = IsTornFrom (images old) at n in
      then old mid new P
      (called images only_now old mid P time (not_torn (images old) at n)
      (λ c left. not_torn (images old) at n c (none_new c left)))
      (weaker mid new (IsTornFrom (images mid) at n) P run (λ c h. (h.0, none_new h.0 h.1, h.2)))

-- ---- calls that only read

module _ {D : Type 0} (now : D → Option (List ℕ)) (images : D → List ℕ → Type 0) (clock : D → ℕ)
    (since : D → ℕ → List ℕ → Type 0) where
  pub reads_none : ((d : D) (c : List ℕ) → since d (clock d) c → images d c) → (d : D) →
      OnlyReads now images clock since d d
  reads_none only_now d = record {
    same = refl;
    none_new = λ c h. h;
    moments = started clock since d (images d) (λ c left. only_now d c left);
  }

  pub reads_then : (old mid new : D) → OnlyReads now images clock since old mid → OnlyReads now images clock since mid new →
      OnlyReads now images clock since old new
  reads_then old mid new one two = record {
    same = two.same ∙ one.same;
    none_new = λ c h. one.none_new c (two.none_new c h);
    moments = then clock since old mid new (images old) one.moments
        (weaker clock since mid new (images mid) (images old) two.moments one.none_new);
  }

-- what holds at `Ok`, and more
pub ok_more : {T E : Type 0} (r : Result T E) (P Q : Type 0) → (P → Q) → OnOk r P → OnOk r Q
ok_more (Ok x) P Q f h = f h
ok_more (Err e) P Q f h = tt

pub ok_both : {T E : Type 0} (r : Result T E) (P R Q : Type 0) → (P → R → Q) → OnOk r P → OnOk r R → OnOk r Q
ok_both (Ok x) P R Q f h k = f h k
ok_both (Err e) P R Q f h k = tt

-- what holds of bytes that are told, and more
pub some_more : (o : Option (List ℕ)) (P Q : List ℕ → Type 0) → ((bytes : List ℕ) → P bytes → Q bytes) → IfSome o P → IfSome o Q
some_more None P Q f h = tt
some_more (Some bytes) P Q f h = f bytes h
