-- Journals stand whatever the network, whole and while an event is appended.
use Rattle.std.proofs.Common.{◌≡◌, ◌≢◌, refl, sym, ◌∙◌, ap, subst, ◌⊎◌, inl, inr, ℕ, ◌+◌, ◌≤◌, true, List, [], ◌∷◌, ◌++◌, length, arith}
use Rattle.std.specs.List.{list_all}
use Rattle.std.proofs.lemmas.Bool.{cases_eq}
use Rattle.eon_model.specs.Events.{Event}
use Rattle.eon_model.specs.EventText.{is_event}
use Rattle.eon_model.specs.Journal.{record_body, written, bound_digest, Stands}
use Rattle.eon_model.specs.JournalMoments.{IsAppending}
use Rattle.eon_model.specs.JournalLaws.{WrittenEventsStand, AppendingLeavesEither}
use Rattle.eon_model.proofs.JournalShape.{Stands-of}
use Rattle.eon_model.proofs.AppendLaws.{written-shorter, in_range-first, zero-closed, with_gate, opened-longer}

pub written-stand : WrittenEventsStand
written-stand kept limit events long range room = Stands-of kept events 0 [] limit long range room (zero-closed 0 refl)

-- the bytes stand for these events, with whatever gate after them
abbrev StandFor : List ℕ → ℕ → List Event → List ℕ → Type 0
StandFor kept limit events c = Stands c (bound_digest kept events) limit events (length (written kept events))

module _ (kept : List ℕ) (limit : ℕ) (events : List Event) (e : Event) (long : length kept ≡ 32)
    (range : list_all is_event (events ++ e ∷ []) ≡ true) (room : length (written kept (events ++ e ∷ [])) + 1 ≤ limit) where
  closed : (g : ℕ) (x : List ℕ) → g ≢ 1 → StandFor kept limit events (written kept events ++ g ∷ x)
  closed g x shut =
      let shorter = written-shorter kept events (e ∷ []) in
      Stands-of kept events g x limit long (in_range-first events (e ∷ []) range) (omega arith) shut

  open_gate : StandFor kept limit (events ++ e ∷ []) (with_gate kept events e 1)
  open_gate = subst (StandFor kept limit (events ++ e ∷ [])) (sym (opened-longer kept events e))
      (written-stand kept limit (events ++ e ∷ []) long range room)

  either : (c : List ℕ) → IsAppending (written kept events) (record_body (length events + 1) e) c →
      StandFor kept limit events c ⊎ StandFor kept limit (events ++ e ∷ []) c
  either c a = elim a [
    | inl shut ↦ inl (subst (StandFor kept limit events) (sym shut.1) (closed 0 shut.0 (zero-closed 0 refl)))
    | inr whole ↦ elim (cases_eq whole.0 1) [
      | inl one ↦ inr (subst (StandFor kept limit (events ++ e ∷ [])) (sym (whole.1 ∙ ap (with_gate kept events e) one)) open_gate)
      | inr other ↦ inl (subst (StandFor kept limit events) (sym whole.1)
          (closed whole.0 (record_body (length events + 1) e ++ 0 ∷ []) other))
    ]
  ]

pub appending-either : AppendingLeavesEither
appending-either kept limit events e c long range room a = either kept limit events e long range room c a
