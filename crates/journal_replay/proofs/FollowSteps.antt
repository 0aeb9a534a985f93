-- One event more of a journal, or how the journal ends.
use Rattle.std.proofs.Common.{◌≡◌, sym, ◌∙◌, ap, subst, ℕ, ◌+◌, ◌-◌, ◌≤◌, Bool, false, cond, List, [], ◌∷◌, ◌++◌, length, Option, Some, None, arith}
use Rattle.std.specs.Prelude.{IsTrue, is_some}
use Rattle.std.specs.Option.{option_and_then}
use Rattle.std.proofs.lemmas.List.{length-append}
use Rattle.eon_model.specs.Services.{State}
use Rattle.eon_model.specs.Legal.{Setup}
use Rattle.eon_model.specs.Events.{Event, apply}
use Rattle.eon_model.specs.EventText.{room_for}
use Rattle.eon_model.specs.Journal.{Stands}
use Rattle.eon_model.specs.JournalFault.{HasRecord, HasRecords, IsBadRecord, IsKept, StandBefore, IsRefusedAt}
use Rattle.eon_model.specs.Replay.{can_follow, follow}
use Rattle.eon_model.specs.TopLines.{JournalWhy}
use Rattle.eon_model.proofs.JournalMomentLaws.{replay-push}
use Rattle.eon_model.proofs.KeptLaws.{standing-kept, one-kept}
use Rattle.eon_model.proofs.WalkLaws.{walk_start, walk_more, walk_stop}
use Rattle.plan_journal.specs.Walked.{IsShut}
use Rattle.journal_replay.specs.Followed.{LeadTo}
use Rattle.journal_replay.specs.Replayed.{StandsFor}

-- before the first record
pub leads-first : (setup : Setup) (bytes own : List ℕ) (state : State) (p number : ℕ) → IsKept bytes setup.journal own →
    state ≡ [] → p ≡ 40 → number ≡ 1 → LeadTo setup bytes state p number
leads-first setup bytes own state p number kept none at n = record {
  events = [];
  has = subst (λ (k : ℕ). HasRecords bytes setup.journal [] k) (sym at) (walk_start bytes setup.journal kept.whole);
  numbered = n;
  replays = ap (λ (s : State). Some s) (sym none);
}

module _ (setup : Setup) (bytes : List ℕ) (state : State) (p number : ℕ) (so_far : LeadTo setup bytes state p number) where
  -- the record of one event more
  numbered-record : (e : Event) → HasRecord bytes setup.journal p number e →
      HasRecord bytes setup.journal p (length so_far.events + 1) e
  numbered-record e r = subst (λ (n : ℕ). HasRecord bytes setup.journal p n e) so_far.numbered r

  pub leads-on : (e : Event) (after : State) (q next : ℕ) → HasRecord bytes setup.journal p number e →
      IsTrue (can_follow setup state e) → after ≡ apply setup.network state e → q ≡ p + room_for e → next ≡ number + 1 →
      LeadTo setup bytes after q next
  leads-on e after q next r can is at n = record {
    events = so_far.events ++ e ∷ [];
    has = subst (λ (k : ℕ). HasRecords bytes setup.journal (so_far.events ++ e ∷ []) k) (sym at)
        (walk_more bytes setup.journal so_far.events p e so_far.has (numbered-record e r));
    numbered = let long = length-append so_far.events (e ∷ []) in let was = so_far.numbered in omega arith;
    replays = replay-push setup so_far.events state e so_far.replays can ∙ ap (λ (s : State). Some s) (sym is);
  }

  before : StandBefore setup bytes so_far.events p
  before = record { records = so_far.has; replays = ap is_some so_far.replays }

  -- a record that is none
  pub refused-record : (own : List ℕ) → IsKept bytes setup.journal own → IsBadRecord bytes setup.journal p number →
      IsRefusedAt setup bytes own p JournalWhy.Record
  refused-record own kept bad =
      (kept, so_far.events, before, subst (λ (n : ℕ). IsBadRecord bytes setup.journal p n) so_far.numbered bad)

  -- an event that cannot follow
  pub refused-event : (own : List ℕ) (e : Event) → IsKept bytes setup.journal own → HasRecord bytes setup.journal p number e →
      can_follow setup state e ≡ false → IsRefusedAt setup bytes own p JournalWhy.Event
  refused-event own e kept r cannot =
      let none = ap (λ (o : Option State). option_and_then (follow setup e) o) so_far.replays
      ∙ ap (λ (b : Bool). cond b (Some (apply setup.network state e)) None) cannot in
      (kept, so_far.events, e, before, numbered-record e r, ap is_some none)

  -- a gate that is not open
  pub stands-for : (own : List ℕ) (gate : ℕ) → IsKept bytes setup.journal own → IsShut bytes p gate → p + 1 ≤ setup.journal →
      StandsFor setup bytes own state p (number - 1)
  stands-for own gate kept shut within =
      let stands = walk_stop bytes setup.journal so_far.events p so_far.has shut.there within
      (λ e. shut.shut (sym shut.is ∙ e)) in
      let bound = one-kept bytes _ own setup.journal (standing-kept bytes _ setup.journal so_far.events p stands) kept in
      record {
        events = so_far.events;
        stands = subst (λ (d : List ℕ). Stands bytes d setup.journal so_far.events p) bound stands;
        replays = so_far.replays;
        counted = let was = so_far.numbered in omega arith;
      }
