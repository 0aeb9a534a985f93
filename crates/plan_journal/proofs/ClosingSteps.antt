-- What is left of a journal while its gate is closed, and what stands behind it is cut off.
use Rattle.std.proofs.Common.{◌≡◌, refl, sym, ◌∙◌, ap, subst, inl, ℕ, ◌+◌, List, ◌∷◌, ◌++◌, take, drop}
use Rattle.std.specs.Prelude.{Option, Some, None, IfSome}
use Rattle.std.proofs.lemmas.List.{take-append-drop, drop_more}
use Rattle.eon_model.specs.Disk.{Torn, Cut, LeavesOnly, Elapses}
use Rattle.eon_model.specs.JournalMoments.{IsClosing}
use Rattle.eon_model.proofs.StepsOfJournal.{shut_step, cut_step}
use Rattle.plan_journal.specs.Moments.{IsTornFrom, IsCutFrom}
use Rattle.plan_journal.specs.Prepared.{IsRead, WasRead}
use Rattle.plan_journal.proofs.MomentLaws.{started, called, weaker, then}

-- ---- where the bytes are told

module _ (bytes : List ℕ) (images : List ℕ → Type 0) (p gate : ℕ) (r : IsRead bytes images p gate) where
  -- a gate of 0 is closed already
  pub stays : gate ≡ 0 → (c : List ℕ) → images c → IsClosing bytes p c
  stays z c h = inl (
    drop (p + 1) bytes,
    r.durable c h ∙ sym (take-append-drop p bytes)
        ∙ ap (λ (v : List ℕ). take p bytes ++ v)
        (drop_more bytes p 0 r.shut.there ∙ ap (λ (g : ℕ). g ∷ drop (p + 1) bytes) (r.shut.is ∙ z)),
  )

  -- while it is written
  pub shutting : (gate ≡ 0 → ⊥) → (c : List ℕ) → IsTornFrom images p 1 c → IsClosing bytes p c
  shutting other c h =
      shut_step bytes p c r.shut.there (λ z. other (sym r.shut.is ∙ z))
      (subst (λ (d : List ℕ). Torn p 1 d c) (r.durable h.0 h.1) h.2)

  -- while what stands behind it is cut off
  pub cutting : gate ≡ 0 → (c : List ℕ) → IsCutFrom images (p + 1) c → IsClosing bytes p c
  cutting z c h =
      cut_step bytes p c r.shut.there (r.shut.is ∙ z)
      (subst (λ (d : List ℕ). Cut (p + 1) d c) (r.durable h.0 h.1) h.2)

-- ---- told or not

abbrev pub Closes : {D : Type 0} → (D → ℕ) → (D → ℕ → List ℕ → Type 0) → Option (List ℕ) → ℕ → D → D → Type 0
Closes clock since o at old new = IfSome o (λ bytes. LeavesOnly clock since old new (IsClosing bytes at))

-- ---- the moments

module _ {D : Type 0} (clock : D → ℕ) (since : D → ℕ → List ℕ → Type 0) (images : D → List ℕ → Type 0)
    (only_now : (d : D) (c : List ℕ) → since d (clock d) c → images d c) where
  pub none-moments : (o : Option (List ℕ)) (at gate : ℕ) (old : D) → WasRead o (images old) at gate → gate ≡ 0 →
      Closes clock since o at old old
  none-moments None at gate old r z = tt
  none-moments (Some bytes) at gate old r z =
      started clock since old (IsClosing bytes at) (λ c left. stays bytes (images old) at gate r z c (only_now old c left))

  pub shut-moments : (o : Option (List ℕ)) (at gate : ℕ) (old new : D) → WasRead o (images old) at gate →
      (gate ≡ 0 → ⊥) → LeavesOnly clock since old new (IsTornFrom (images old) at 1) → Closes clock since o at old new
  shut-moments None at gate old new r other m = tt
  shut-moments (Some bytes) at gate old new r other m =
      weaker clock since old new (IsTornFrom (images old) at 1) (IsClosing bytes at) m
      (shutting bytes (images old) at gate r other)

  pub len-moments : (o : Option (List ℕ)) (at : ℕ) (old new : D) → WasRead o (images old) at 0 →
      Elapses (clock old) (clock new) (since old) (since new) (images new) →
      ((c : List ℕ) → images new c → images old c) → Closes clock since o at old new
  len-moments None at old new r time less = tt
  len-moments (Some bytes) at old new r time less =
      called clock since images only_now old new (IsClosing bytes at) time (stays bytes (images old) at 0 r refl)
      (λ c h. stays bytes (images old) at 0 r refl c (less c h))

  pub cut-moments : (o : Option (List ℕ)) (at : ℕ) (old mid new : D) → WasRead o (images old) at 0 →
      Elapses (clock old) (clock mid) (since old) (since mid) (images mid) →
      ((c : List ℕ) → images mid c → images old c) →
      LeavesOnly clock since mid new (IsCutFrom (images mid) (at + 1)) → Closes clock since o at old new
  cut-moments None at old mid new r time less m = tt
  cut-moments (Some bytes) at old mid new r time less m =
      then clock since old mid new (IsClosing bytes at) (len-moments (Some bytes) at old mid r time less)
      (weaker clock since mid new (IsCutFrom (images mid) (at + 1)) (IsClosing bytes at) m
      (λ c h. cutting bytes (images old) at 0 r refl c (h.0, less h.0 h.1, h.2)))
