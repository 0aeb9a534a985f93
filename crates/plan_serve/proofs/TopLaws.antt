-- How the parts of a call make up its end.
use Rattle.std.proofs.Common.{◌≡◌, ◌≢◌, refl, sym, ◌∙◌, ap, subst, inl, inr, ℕ, ◌+◌, ◌<◌, Bool, true, false, List, [], ◌∷◌, ◌++◌, append_assoc, length, take, drop, Option, Some, None, Ok, Err, arith}
use Rattle.std.specs.Prelude.{IfSome, IsSomeAnd, IsTrue, replicate}
use Rattle.std.specs.FinMap.{get}
use Rattle.std.specs.Io.KnownBytes.{Appends, Keeps}
use Rattle.std.proofs.lemmas.List.{take-append-drop, length-replicate, length-drop}
use Rattle.eon_model.specs.Legal.{Setup, Legal}
use Rattle.eon_model.specs.Services.{State}
use Rattle.eon_model.specs.Run.{situation}
use Rattle.eon_model.proofs.LegalLaws.{Legal-from_parts}
use Rattle.eon_model.specs.Modes.{network_limit}
use Rattle.eon_outside.specs.Faults.{Standing, Stands, counted}
use Rattle.eon_outside.specs.Reading.{NamedFiles, Opens, OpensCalmly, IsThere}
use Rattle.eon_outside.specs.Writing.{AppendsPart}
use Rattle.eon_outside.specs.WholeFile.{IsFile, IsLonger}
use Rattle.plan_serve.specs.declared.status.Status.{Status}
use Rattle.plan_serve.specs.declared.status.Status.TheVariants.{Done, NetRefused, NetLong, ReadFault, Memory, WriteFault, InputLong}
use Rattle.plan_serve.specs.Files.{IsLeft, IsAcceptedFile, IsLongFile, IsNotRead}
use Rattle.plan_serve.specs.Status.{own_line}
use Rattle.plan_serve.specs.Outside.{Outside}
use Rattle.plan_serve.specs.Ends.{AnswersStream, CountsReads, StandsAt, GivesLine, Says, OverNetwork, DryStream, AtNetwork, AtOpening, InStream, StreamEnds, EndsAtNetwork, DryEnds}
use Rattle.plan_serve.proofs.LineLaws.{no_text_more}

-- ---- the line of a refusal

pub line_given : (T E : Type 0) (line : List ℕ) (before now : Option (List ℕ)) (old new : Standing) (x : T) →
    Appends before now line → Stands {T = T} {E = E} old new (Ok x) → GivesLine line before now old.faults new.faults
line_given T E line before now old new x given stands = record {
  front = line;
  rest = [];
  is = no_text_more line;
  given = given;
  counts = inl (refl, ap (λ s. s.faults) stands);
}

pub some_left : (n : ℕ) (line : List ℕ) → n < length line → drop n line ≢ []
some_left n line low e =
    let k : length (drop n line) ≡ 0 = ap length e in
    let l = length-drop n line in omega arith

pub part_given : (T E : Type 0) (line : List ℕ) (before now : Option (List ℕ)) (old new : Standing) (e : E) →
    AppendsPart before now line → Stands {T = T} {E = E} old new (Err e) →
    GivesLine line before now old.faults new.faults
part_given T E line before now old new e part stands = record {
  front = take part.0 line;
  rest = drop part.0 line;
  is = take-append-drop part.0 line;
  given = part.2;
  counts = inr (some_left part.0 line part.1, ap (λ s. s.faults) stands);
}

-- ---- the network

some_long : (n : ℕ) → (bytes : List ℕ) × (length bytes ≡ n)
some_long n = (replicate n 0, length-replicate n 0)

pub long_file : (files : Option NamedFiles) (name : List ℕ) → IsLonger files name network_limit →
    IsLongFile files name
long_file None name h =
    let long = some_long (network_limit + 1) in (long.0, tt, let e = long.1 in omega arith)
long_file (Some files) name h = found (get files name) refl h
  where
    found : (o : Option (List ℕ)) → get files name ≡ o → IsSomeAnd o (λ bytes. network_limit < length bytes) →
        IsLongFile (Some files) name
    found None e k = absurd k
    found (Some bytes) e k = (bytes, e, k)

-- ---- the stream, as its file has it

false_true : false ≡ true → ⊥
false_true e = cc

pub opened_is : {T : Type 0} (E : Type 0) (files : Option NamedFiles) (name : List ℕ) (left : Option (List ℕ)) (x : T)
    (stream : List ℕ) → Opens {T = T} {E = E} files name left (Ok x) → IsLeft left stream →
    IsFile files name stream
opened_is E None name left x stream h k = tt
opened_is E (Some files) name None x stream h k = absurd (false_true h.0)
opened_is E (Some files) name (Some left) x stream h k = sym h.1 ∙ ap (λ (v : List ℕ). Some v) k

pub none_left : (left : Option (List ℕ)) → IfSome left (λ bytes. bytes ≡ []) → IsLeft left []
none_left None h = tt
none_left (Some left) h = h

pub keeps_all : (a : Option (List ℕ)) → Keeps a a
keeps_all None = tt
keeps_all (Some a) = refl

-- the stream that is left is the file's
pub stream_told : (P Q : List ℕ → Type 0) (setup : Setup) (left before now : Option (List ℕ)) (status : Status) →
    ((stream : List ℕ) → P stream → Q stream) → AnswersStream P setup (situation [] None) left before now status →
    AnswersStream Q setup (situation [] None) left before now status
stream_told P Q setup left before now Done is h = record {
  read = h.read;
  rest = h.rest;
  told = is (h.read ++ h.rest) h.told;
  unread = h.unread;
  to_end = h.to_end;
  no_further = h.no_further;
  short = h.short;
  serves = h.serves;
}
stream_told P Q setup left before now ReadFault is h = record {
  read = h.read;
  rest = h.rest;
  told = is (h.read ++ h.rest) h.told;
  unread = h.unread;
  short = h.short;
  no_quit = h.no_quit;
  serves = h.serves;
  begins = h.begins;
}
stream_told P Q setup left before now WriteFault is h =
    record { stream = h.stream; told = is h.stream h.told; begins = h.begins; early = h.early }
stream_told P Q setup left before now InputLong is h =
    record { stream = h.stream; told = is h.stream h.told; long = h.long; serves = h.serves; begins = h.begins }
stream_told P Q setup left before now _ is h = absurd h

-- the run over the stream, with what it opened and counted
pub stream_ends : (setup : Setup) (commands : List ℕ) (before now : Outside) (old new : Standing) (status : Status) →
    now.opened ≡ before.opened ++ commands ∷ [] → CountsReads status before.read_faults now.read_faults →
    StandsAt status old new → old.faults ≡ before.write_faults → new.faults ≡ now.write_faults →
    DryStream commands before now status setup → StreamEnds setup commands before now status
stream_ends setup commands before now old new Done opened reads stands a b h =
    (opened, (reads, sym b ∙ ap (λ s. s.faults) stands ∙ a), h)
stream_ends setup commands before now old new InputLong opened reads stands a b h =
    (opened, (reads, sym b ∙ ap (λ s. s.faults) stands ∙ a), h)
stream_ends setup commands before now old new WriteFault opened reads stands a b h =
    (opened, reads, sym b ∙ ap (λ s. s.faults) stands ∙ ap counted a, h)
stream_ends setup commands before now old new ReadFault opened reads stands a b h =
    (opened, reads, sym b ∙ ap (λ s. s.faults) stands ∙ a, inr h)
stream_ends setup commands before now old new _ opened reads stands a b h = absurd h

-- ---- behind the network

both_opened : (old mid new : List (List ℕ)) (net commands : List ℕ) → mid ≡ old ++ net ∷ [] →
    new ≡ mid ++ commands ∷ [] → new ≡ old ++ net ∷ commands ∷ []
both_opened old mid new net commands p q =
    q ∙ ap (λ (v : List (List ℕ)). v ++ commands ∷ []) p ∙ append_assoc old (net ∷ []) (commands ∷ [])

over_files : (commands : List ℕ) (before mid now : Outside) (status : Status) (setup : Setup) → mid.files ≡ before.files →
    mid.given ≡ before.given → DryStream commands mid now status setup → DryStream commands before now status setup
over_files commands before mid now status setup files given h =
    subst (λ (v : Option NamedFiles). AnswersStream (IsFile v commands) setup (situation [] None) now.left before.given now.given status) files
    (subst (λ (v : Option (List ℕ)). AnswersStream (IsFile mid.files commands) setup (situation [] None) now.left v now.given status) given h)

module _ (setup : Setup) (net commands : List ℕ) (before mid now : Outside)
    (opened : mid.opened ≡ before.opened ++ net ∷ []) (reads : mid.read_faults ≡ before.read_faults)
    (writes : mid.write_faults ≡ before.write_faults) (given : mid.given ≡ before.given) (files : mid.files ≡ before.files)
    (accepted : IsAcceptedFile before.files net setup) where
  both : now.opened ≡ mid.opened ++ commands ∷ [] → now.opened ≡ before.opened ++ net ∷ commands ∷ []
  both = both_opened before.opened mid.opened now.opened net commands opened

  over : (status : Status) → DryStream commands mid now status setup →
      OverNetwork before.files net (DryStream commands before now status)
  over status h = (setup, accepted, over_files commands before mid now status setup files given h)

  kept : Keeps mid.given now.given → Keeps before.given now.given
  kept h = subst (λ (v : Option (List ℕ)). Keeps v now.given) given h

  pub dry_ends : (status : Status) → StreamEnds setup commands mid now status → DryEnds net commands before now status
  dry_ends Done h = (both h.0, (h.1.0 ∙ reads, h.1.1 ∙ writes), over Done h.2)
  dry_ends InputLong h = (both h.0, (h.1.0 ∙ reads, h.1.1 ∙ writes), over InputLong h.2)
  dry_ends WriteFault h = (both h.0, h.1 ∙ reads, h.2 ∙ ap counted writes, over WriteFault h.3)
  dry_ends ReadFault h = (
    h.1 ∙ ap counted reads,
    h.2 ∙ writes,
    elim h.3 [
      | inl k ↦ AtOpening setup (both h.0) accepted k.0 (kept k.1)
      | inr k ↦ InStream (both h.0) (over ReadFault k)
    ],
  )
  dry_ends Memory h = (inr (h.0 ∙ opened), (h.1.0 ∙ reads, h.1.1 ∙ writes), kept h.2)
  dry_ends _ h = absurd h.2

-- ---- a network that is not accepted

empty_front : (front rest : List ℕ) → front ++ rest ≡ [] → front ≡ []
empty_front [] rest e = refl
empty_front (b ∷ front) rest e = cc

empty_rest : (front rest : List ℕ) → front ++ rest ≡ [] → rest ≡ []
empty_rest [] rest e = e
empty_rest (b ∷ front) rest e = cc

keeps_none : (before now : Option (List ℕ)) → Appends before now [] → Keeps before now
keeps_none None now h = tt
keeps_none (Some a) None h = absurd h
keeps_none (Some a) (Some b) h = h ∙ no_text_more a

-- no line was given
pub nothing_said : (before now : Option (List ℕ)) (old new : ℕ) → GivesLine [] before now old new →
    Keeps before now × (new ≡ old)
nothing_said before now old new h = (
  keeps_none before now (subst (λ (v : List ℕ). Appends before now v) (empty_front h.front h.rest h.is) h.given),
  elim h.counts [ inl k ↦ k.1 | inr k ↦ absurd (k.0 (empty_rest h.front h.rest h.is)) ],
)

pub network_ends : (net : List ℕ) (before now : Outside) (status : Status) → now.opened ≡ before.opened ++ net ∷ [] →
    IsNotRead before.files net before.read_faults now.read_faults status → Says (own_line status) before now →
    EndsAtNetwork net before now status
network_ends net before now (NetRefused number why) opened h said = (opened, h.0, h.1, said)
network_ends net before now NetLong opened h said = (opened, h.0, h.1, said)
network_ends net before now Memory opened h said =
    let none = nothing_said before.given now.given before.write_faults now.write_faults said in
    (inr opened, (h, none.1), none.0)
network_ends net before now ReadFault opened h said =
    let none = nothing_said before.given now.given before.write_faults now.write_faults said in
    (h, none.1, opened, none.0)
network_ends net before now _ opened h said = absurd h

pub network_said : (net : List ℕ) (before now : Outside) (status result : Status) → result ≡ status →
    now.opened ≡ before.opened ++ net ∷ [] →
    IsNotRead before.files net before.read_faults now.read_faults status → Says (own_line status) before now →
    EndsAtNetwork net before now result
network_said net before now status result is opened h said =
    subst (λ (v : Status). EndsAtNetwork net before now v) (sym is) (network_ends net before now status opened h said)

pub dry_at_network : (net commands : List ℕ) (before now : Outside) (status : Status) → EndsAtNetwork net before now status →
    DryEnds net commands before now status
dry_at_network net commands before now Done h = absurd h
dry_at_network net commands before now InputLong h = absurd h
dry_at_network net commands before now WriteFault h = absurd h
dry_at_network net commands before now ReadFault h = (h.0, h.1, AtNetwork h.2 h.3)
dry_at_network net commands before now _ h = h

pub status_room : (old new : Standing) (status : Status) → StandsAt status old new → new.room ≡ old.room
status_room old new WriteFault h = ap (λ s. s.room) h
status_room old new _ h = ap (λ s. s.room) h

-- where there is no service, all is well
pub Legal-none : (setup : Setup) (state : State) → state ≡ [] → Legal setup state
Legal-none setup state none =
    subst (λ (v : State). Legal setup v) (sym none)
    (Legal-from_parts setup [] (record { fit = refl; clear = refl; differ = refl; few = omega arith; one_way = refl }))

-- ---- what holds of equal values

pub stream_alike : (a b : Setup) (commands : List ℕ) (before now : Outside) (status : Status) → a ≡ b →
    StreamEnds a commands before now status → StreamEnds b commands before now status
stream_alike a b commands before now status is h =
    subst (λ (v : Setup). StreamEnds v commands before now status) is h

-- a calm shelf opens a file that is there
pub not_calm : (T E : Type 0) (old new : Bool) (files : Option NamedFiles) (name : List ℕ) (e : E) →
    OpensCalmly {T = T} {E = E} old new files name (Err e) → IsTrue old → IsThere files name → ⊥
not_calm T E old new files name e h calm there = false_true ((h calm).1 there)
