-- What is told of one step over a journal's bytes, where these are told.
use Rattle.std.proofs.Common.{◌≡◌, refl, sym, ◌∙◌, subst, ℕ, ◌+◌, ◌-◌, ◌≤◌, Bool, true, false, List, [], Option, Some, None}
use Rattle.std.specs.Prelude.{Result, Ok, Err, IfSome, is_some}
use Rattle.std.proofs.lemmas.Bool.{false≢true}
use Rattle.eon_model.specs.Services.{State}
use Rattle.eon_model.specs.Legal.{Setup}
use Rattle.eon_model.specs.JournalFault.{HasRecord, IsBadRecord, IsKept, IsRefusedAt}
use Rattle.eon_model.specs.TopLines as model
use Rattle.journal_record.specs.Told.{event_told}
use Rattle.plan_journal.specs.declared.walk.Kept.{Kept}
use Rattle.plan_journal.specs.declared.fault.NextFault.{NextFault}
use Rattle.plan_journal.specs.declared.fault.NextFault.TheVariants.{BadRecord}
use Rattle.plan_journal.specs.Opened.{IsNext, IsBehind, has_ended}
use Rattle.plan_journal.specs.Walked.{IsShut}
use Rattle.journal_replay.specs.declared.fault.ReplayFault.{ReplayFault}
use Rattle.journal_replay.specs.declared.fault.ReplayFault.TheVariants.{Refused, Other, Disk, Memory}
use Rattle.journal_replay.specs.Followed.{LeadTo, IsFollowed, IsTaken}
use Rattle.journal_replay.specs.Replayed.{StandsFor, IsReplayed, why_told}
use Rattle.journal_replay.proofs.FollowSteps.{leads-first, leads-on, refused-record, refused-event, stands-for}

-- ---- bytes that are told

module _ (setup : Setup) (bytes own : List ℕ) (before : State) (p number : ℕ) (kept : IsKept bytes setup.journal own)
    (so_far : LeadTo setup bytes before p number) where
  -- the event of the record at p
  taken : (after : State) (q next : ℕ) (k : Kept) (r : Result Bool ReplayFault) → (k.at ≡ p) →
      HasRecord bytes setup.journal p number (event_told k.event) → IsBehind p number q next (Ok (Some k)) →
      IsTaken setup before after k r → IsFollowed setup bytes own after q next r
  taken after q next k (Ok true) at has behind t =
      leads-on setup bytes before p number so_far (event_told k.event) after q next has t.1 t.2 behind.0 behind.1
  taken after q next k (Ok false) at has behind t = absurd (false≢true t.0)
  taken after q next k (Err (Refused place word)) at has behind t =
      subst (λ w. IsRefusedAt setup bytes own place (why_told w)) (sym t.1)
      (subst (λ (i : ℕ). IsRefusedAt setup bytes own i model.JournalWhy.Event) (sym (t.0 ∙ at))
      (refused-event setup bytes before p number so_far own (event_told k.event) kept has t.2))
  taken after q next k (Err (Other digest mine)) at has behind t = absurd t
  taken after q next k (Err Disk) at has behind t = absurd t
  taken after q next k (Err Memory) at has behind t = tt

  -- a gate that is not open
  shut : (q next : ℕ) (gate : Option ℕ) → is_some gate ≡ true → IfSome gate (IsShut bytes p) → q ≡ p → next ≡ number →
      p + 1 ≤ setup.journal → StandsFor setup bytes own before q (next - 1)
  shut q next None there s at n within = absurd (false≢true there)
  shut q next (Some gate) there s at n within =
      subst (λ (i : ℕ). StandsFor setup bytes own before i (next - 1)) (sym at)
      (subst (λ (i : ℕ). StandsFor setup bytes own before p (i - 1)) (sym n)
      (stands-for setup bytes before p number so_far own gate kept s within))

-- ---- bytes that may be told

module _ (setup : Setup) (limit : ℕ) (most : limit ≡ setup.journal) (before : State) (p number : ℕ) where
  -- what was read next
  abbrev pub Read : Option (List ℕ) → Option ℕ → Result (Option Kept) NextFault → Type 0
  Read o gate next = IfSome o (λ bytes. IsNext bytes limit p number gate next)

  -- what follows from it, once the events before lead to the state
  abbrev pub Then : Option (List ℕ) → (List ℕ → List ℕ → Type 0) → Type 0
  Then o P = IfSome o (λ bytes. (own : List ℕ) → IsKept bytes setup.journal own → LeadTo setup bytes before p number →
      P bytes own)

  pub told-taken : (o : Option (List ℕ)) (after : State) (q next : ℕ) (gate : Option ℕ) (found : Option Kept) (k : Kept)
      (r : Result Bool ReplayFault) → found ≡ Some k → Read o gate (Ok found) → IsBehind p number q next (Ok found) →
      IsTaken setup before after k r → Then o (λ bytes own. IsFollowed setup bytes own after q next r)
  told-taken None after q next gate found k r is n behind t = tt
  told-taken (Some bytes) after q next gate found k r is n behind t = λ own kept so_far.
      let has = subst (λ (f : Option Kept). IsNext bytes limit p number gate (Ok f)) is n in
      taken setup bytes own before p number kept so_far after q next k r has.0
      (subst (λ (m : ℕ). HasRecord bytes m p number (event_told k.event)) most has.1)
      (subst (λ (f : Option Kept). IsBehind p number q next (Ok f)) is behind) t

  pub told-shut : (o : Option (List ℕ)) (q next : ℕ) (gate : Option ℕ) (found : Option Kept) → found ≡ None →
      Read o gate (Ok found) → is_some gate ≡ has_ended (Ok found) → IsBehind p number q next (Ok found) → p + 1 ≤ limit →
      Then o (λ bytes own. StandsFor setup bytes own before q (next - 1))
  told-shut None q next gate found is n there behind within = tt
  told-shut (Some bytes) q next gate found is n there behind within = λ own kept so_far.
      let at = subst (λ (f : Option Kept). IsBehind p number q next (Ok f)) is behind in
      shut setup bytes own before p number kept so_far q next gate
      (subst (λ (f : Option Kept). is_some gate ≡ has_ended (Ok f)) is there)
      (subst (λ (f : Option Kept). IsNext bytes limit p number gate (Ok f)) is n) at.0 at.1
      (subst (λ (m : ℕ). p + 1 ≤ m) most within)

  pub told-bad : (o : Option (List ℕ)) (gate : Option ℕ) (fault : NextFault) (at : ℕ) → fault ≡ BadRecord at →
      Read o gate (Err fault) → Then o (λ bytes own. IsRefusedAt setup bytes own at model.JournalWhy.Record)
  told-bad None gate fault at is n = tt
  told-bad (Some bytes) gate fault at is n = λ own kept so_far.
      let has = subst (λ (f : NextFault). IsNext bytes limit p number gate (Err f)) is n in
      subst (λ (i : ℕ). IsRefusedAt setup bytes own i model.JournalWhy.Record) (sym has.0)
      (refused-record setup bytes before p number so_far own kept
      (subst (λ (m : ℕ). IsBadRecord bytes m p number) most has.1))

-- ---- along all events

-- the events so far lead to this state, in a journal of this network
abbrev pub Leads : Option (List ℕ) → Setup → State → ℕ → ℕ → Type 0
Leads o setup state p number =
    IfSome o (λ bytes. (own : List ℕ) → IsKept bytes setup.journal own → LeadTo setup bytes state p number)

pub told-first : (o : Option (List ℕ)) (setup : Setup) (state : State) (p number : ℕ) → state ≡ [] → p ≡ 40 → number ≡ 1 →
    Leads o setup state p number
told-first None setup state p number none at n = tt
told-first (Some bytes) setup state p number none at n = λ own kept.
    leads-first setup bytes own state p number kept none at n

-- one step more, with the bytes and the setup as they were at the start
pub told-step : (o there : Option (List ℕ)) → there ≡ o → (start now : Setup) → now ≡ start → (before after : State)
    (p number q next : ℕ) (r : Result Bool ReplayFault) → Leads o start before p number →
    Then now now.journal refl before p number there (λ bytes own. IsFollowed now bytes own after q next r) →
    IfSome o (λ bytes. (own : List ℕ) → IsKept bytes start.journal own → IsFollowed start bytes own after q next r)
told-step None there told start now same before after p number q next r was step = tt
told-step (Some bytes) there told start now same before after p number q next r was step = λ own kept.
    let here = subst (λ (v : Option (List ℕ)). Then now now.journal refl before p number v
    (λ bytes own. IsFollowed now bytes own after q next r)) told step in
    subst (λ (s : Setup). IsKept bytes s.journal own → LeadTo s bytes before p number → IsFollowed s bytes own after q next r)
    same (here own) kept (was own kept)

-- there was one event more
pub told-more : (o : Option (List ℕ)) (setup : Setup) (after : State) (q next : ℕ) (more : Bool) → more ≡ true →
    IfSome o (λ bytes. (own : List ℕ) → IsKept bytes setup.journal own → IsFollowed setup bytes own after q next (Ok more)) →
    Leads o setup after q next
told-more None setup after q next more is h = tt
told-more (Some bytes) setup after q next more is h = λ own kept.
    subst (λ (b : Bool). IsFollowed setup bytes own after q next (Ok b)) is (h own kept)

-- there was none
pub told-no-more : (o : Option (List ℕ)) (setup : Setup) (after : State) (q next : ℕ) (more : Bool) → more ≡ false →
    IfSome o (λ bytes. (own : List ℕ) → IsKept bytes setup.journal own → IsFollowed setup bytes own after q next (Ok more)) →
    IfSome o (λ bytes. (own : List ℕ) → IsKept bytes setup.journal own → StandsFor setup bytes own after q (next - 1))
told-no-more None setup after q next more is h = tt
told-no-more (Some bytes) setup after q next more is h = λ own kept.
    subst (λ (b : Bool). IsFollowed setup bytes own after q next (Ok b)) is (h own kept)

-- ---- the whole journal

-- behind a head that was examined
pub told-whole : (o now : Option (List ℕ)) → now ≡ o → (setup : Setup) (limit : ℕ) → limit ≡ setup.journal → (own : List ℕ)
    (after : State) (p : ℕ) (r : Result ℕ ReplayFault) → IfSome o (λ bytes. IsKept bytes limit own) →
    IfSome now (λ bytes. (digest : List ℕ) → IsKept bytes setup.journal digest → IsReplayed setup bytes digest after p r) →
    IfSome o (λ bytes. (place : ℕ) × IsReplayed setup bytes own after place r)
told-whole None now same setup limit most own after p r kept h = tt
told-whole (Some bytes) now same setup limit most own after p r kept h =
    let all = subst (λ (v : Option (List ℕ)). IfSome v (λ bytes. (digest : List ℕ) → IsKept bytes setup.journal digest →
    IsReplayed setup bytes digest after p r)) same h in
    (p, all own (subst (λ (m : ℕ). IsKept bytes m own) most kept))
