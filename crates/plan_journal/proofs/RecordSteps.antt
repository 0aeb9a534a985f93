-- What the two steps of a record leave of a journal that is ready.
use Rattle.std.proofs.Common.{◌≡◌, refl, sym, ◌∙◌, ap, subst, ℕ, ◌+◌, List, [], ◌∷◌, ◌++◌, length, take, arith}
use Rattle.std.specs.Prelude.{Option, Some, None, IfSome, option_map}
use Rattle.std.proofs.lemmas.List.{append_assoc, length-append, length-take-le, take_at}
use Rattle.eon_model.specs.Disk.{put, Torn, Only, LeavesOnly}
use Rattle.eon_model.specs.JournalMoments.{IsAppending}
use Rattle.eon_model.proofs.StepsOfJournal.{body_step, gate_step, body_written, gate_written}
use Rattle.plan_journal.specs.Appended.{with_record}
use Rattle.plan_journal.specs.Moments.{IsTornFrom, IsDurable, Ends, IsReady}
use Rattle.plan_journal.proofs.MomentLaws.{weaker, then}

-- ---- where the bytes are told

module _ (bytes : List ℕ) (images : List ℕ → Type 0) (at : ℕ) (ends : Ends bytes images at) where
  front_long : length (take at bytes) ≡ at
  front_long = let l = ends.long in length-take-le at bytes (omega arith)

  -- while the record is written behind the gate
  pub behind-torn : (body : List ℕ) (n : ℕ) (c : List ℕ) → IsTornFrom images (at + 1) n c → IsAppending (take at bytes) body c
  behind-torn body n c h =
      let front = take at bytes in
      let is : h.0 ≡ front ++ 0 ∷ [] = ends.durable h.0 h.1 ∙ ends.closed in
      body_step front body [] n c
      (subst (λ (p : ℕ). Torn (p + 1) n (front ++ 0 ∷ []) c) (sym front_long)
      (subst (λ (d : List ℕ). Torn (at + 1) n d c) is h.2))

  -- what is read then
  pub behind-written : (body : List ℕ) → put (at + 1) (body ++ 0 ∷ []) bytes ≡ take at bytes ++ (0 ∷ (body ++ 0 ∷ []))
  behind-written body =
      let front = take at bytes in
      (λ i. put (sym front_long i + 1) (body ++ 0 ∷ []) (ends.closed i)) ∙ body_written front body

  -- while the gate is opened
  pub gate-torn : (body : List ℕ) (next : List ℕ → Type 0) (c : List ℕ) →
      Only (put (at + 1) (body ++ 0 ∷ []) bytes) next → IsTornFrom next at 1 c → IsAppending (take at bytes) body c
  gate-torn body next c only h =
      let front = take at bytes in
      let is = only h.0 h.1 ∙ behind-written body in
      gate_step front body c
      (subst (λ (p : ℕ). Torn p 1 (front ++ (0 ∷ (body ++ 0 ∷ []))) c) (sym front_long)
      (subst (λ (d : List ℕ). Torn at 1 d c) is h.2))

  pub gate-written : (body : List ℕ) → put at (1 ∷ []) (put (at + 1) (body ++ 0 ∷ []) bytes)
      ≡ with_record at (body ++ 0 ∷ []) bytes
  gate-written body =
      let front = take at bytes in
      (λ i. put (sym front_long i) (1 ∷ []) (behind-written body i)) ∙ gate_written front (body ++ 0 ∷ [])

  -- and the journal is ready again
  pub record-ends : (body : List ℕ) (next : List ℕ → Type 0) → Only (with_record at (body ++ 0 ∷ []) bytes) next →
      Ends (with_record at (body ++ 0 ∷ []) bytes) next (at + length (body ++ 0 ∷ []))
  record-ends body next only =
      let front = take at bytes in
      let l = front_long in
      let a = length-append front (1 ∷ (body ++ 0 ∷ [])) in
      let b = length-append body (0 ∷ []) in
      let e = length-append front (1 ∷ body) in
      let again : with_record at (body ++ 0 ∷ []) bytes ≡ (front ++ 1 ∷ body) ++ 0 ∷ [] =
      sym (append_assoc front (1 ∷ body) (0 ∷ [])) in
      record {
        long = omega arith;
        closed = again ∙ ap (λ (v : List ℕ). v ++ 0 ∷ [])
            (sym (take_at (front ++ 1 ∷ body) (0 ∷ []) (at + length (body ++ 0 ∷ [])) (omega arith))
            ∙ ap (take (at + length (body ++ 0 ∷ []))) (sym again));
        durable = only;
      }

-- ---- told or not

-- the bytes after both
bytes-told : (o : Option (List ℕ)) (images : List ℕ → Type 0) (at : ℕ) (body : List ℕ) → IsReady o images at →
    option_map (put at (1 ∷ [])) (option_map (put (at + 1) (body ++ 0 ∷ [])) o)
    ≡ option_map (with_record at (body ++ 0 ∷ [])) o
bytes-told None images at body r = refl
bytes-told (Some bytes) images at body r = ap (λ (v : List ℕ). Some v) (gate-written bytes images at r body)

pub bytes-after : (o : Option (List ℕ)) (images : List ℕ → Type 0) (at : ℕ) (behind body : List ℕ) →
    behind ≡ body ++ 0 ∷ [] → IsReady o images at → (mid next : Option (List ℕ)) →
    mid ≡ option_map (put (at + 1) behind) o → next ≡ option_map (put at (1 ∷ [])) mid →
    next ≡ option_map (with_record at behind) o
bytes-after o images at behind body is r mid next e k =
    k ∙ ap (option_map (put at (1 ∷ []))) (e ∙ ap (λ (v : List ℕ). option_map (put (at + 1) v) o) is)
    ∙ bytes-told o images at body r ∙ ap (λ (v : List ℕ). option_map (with_record at v) o) (sym is)

ready-told : (o : Option (List ℕ)) (images : List ℕ → Type 0) (at : ℕ) (body : List ℕ) → IsReady o images at →
    (left : List ℕ → Type 0) → IsDurable (option_map (with_record at (body ++ 0 ∷ [])) o) left →
    IsReady (option_map (with_record at (body ++ 0 ∷ [])) o) left (at + length (body ++ 0 ∷ []))
ready-told None images at body r left d = tt
ready-told (Some bytes) images at body r left d = record-ends bytes images at r body left d

pub ready-after : (o : Option (List ℕ)) (images : List ℕ → Type 0) (at : ℕ) (behind body : List ℕ) →
    behind ≡ body ++ 0 ∷ [] → IsReady o images at → (next : Option (List ℕ)) (left : List ℕ → Type 0) →
    next ≡ option_map (with_record at behind) o → IsDurable next left → IsReady next left (at + length behind)
ready-after o images at behind body is r next left e d =
    let same = e ∙ ap (λ (v : List ℕ). option_map (with_record at v) o) is in
    subst (λ (n : ℕ). IsReady next left (at + n)) (sym (ap length is))
    (subst (λ (v : Option (List ℕ)). IsReady v left (at + length (body ++ 0 ∷ []))) (sym same)
    (ready-told o images at body r left (subst (λ (v : Option (List ℕ)). IsDurable v left) same d)))

module _ {D : Type 0} (clock : D → ℕ) (since : D → ℕ → List ℕ → Type 0) where
  -- at every moment of an append
  abbrev pub Appends : Option (List ℕ) → ℕ → List ℕ → D → D → Type 0
  Appends o at behind old new = IfSome o (λ bytes. (body : List ℕ) → behind ≡ body ++ 0 ∷ [] →
      LeavesOnly clock since old new (IsAppending (take at bytes) body))

  pub first-moments : (o : Option (List ℕ)) (images : List ℕ → Type 0) (at : ℕ) (behind : List ℕ) (old new : D) →
      IsReady o images at → LeavesOnly clock since old new (IsTornFrom images (at + 1) (length behind)) →
      Appends o at behind old new
  first-moments None images at behind old new r m = tt
  first-moments (Some bytes) images at behind old new r m =
      λ body is. weaker clock since old new (IsTornFrom images (at + 1) (length behind)) (IsAppending (take at bytes) body) m
      (λ c h. behind-torn bytes images at r body (length behind) c h)

  pub both-moments : (o : Option (List ℕ)) (images : List ℕ → Type 0) (at : ℕ) (behind : List ℕ) (old mid new : D) →
      (next : Option (List ℕ)) (left : List ℕ → Type 0) → IsReady o images at →
      LeavesOnly clock since old mid (IsTornFrom images (at + 1) (length behind)) →
      next ≡ option_map (put (at + 1) behind) o → IsDurable next left →
      LeavesOnly clock since mid new (IsTornFrom left at 1) → Appends o at behind old new
  both-moments None images at behind old mid new next left r m e d n = tt
  both-moments (Some bytes) images at behind old mid new next left r m e d n = λ body is.
      let P = IsAppending (take at bytes) body in
      let only : Only (put (at + 1) behind bytes) left = subst (λ (v : Option (List ℕ)). IsDurable v left) e d in
      let only' = subst (λ (v : List ℕ). Only (put (at + 1) v bytes) left) is only in
      then clock since old mid new P
      (weaker clock since old mid (IsTornFrom images (at + 1) (length behind)) P m
      (λ c h. behind-torn bytes images at r body (length behind) c h))
      (weaker clock since mid new (IsTornFrom left at 1) P n (λ c h. gate-torn bytes images at r body left c only' h))
