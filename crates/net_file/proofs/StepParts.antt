-- A line is taken where it has no cause, and is then one line more; else its first cause is told.
use Rattle.std.proofs.Common.{◌≡◌, refl, sym, ◌∙◌, ap, ℕ, ◌<◌, ◌≤◌, Bool, true, false, cond, List, [], ◌∷◌, ◌++◌, length, nat_le, Option, Some, None, Result, Ok, Err, arith}
use Rattle.std.specs.Option.{option_map}
use Rattle.eon_model.specs.Network.{Network}
use Rattle.eon_model.specs.NetworkFault.{Fields, Word, field_at, word_spelled, last_word, lines_with, is_many, cause_of}
use Rattle.eon_model.specs.NetworkFault as model
use Rattle.net_file.specs.declared.fault.Why.{Why}
use Rattle.net_file.specs.declared.fault.Why.TheVariants as why
use Rattle.net_file.specs.Told.{why_told}
use Rattle.net_file.specs.LineWords.{ranged}
use Rattle.net_file.specs.Steps.{SoFar, Sheet, on_ok, unless_fault, told_by, may_come}
use Rattle.net_file.specs.Drafts.{head_at, rank, lines_at, lines_of, InRange, BandSoFar, Sound}
use Rattle.net_file.proofs.CauseParts.{behind, told, cause-parts}
use Rattle.net_file.proofs.FrontParts.{ReadsAs, front-told}
use Rattle.net_file.proofs.LineGrowth.{head_lines, last-word}
use Rattle.net_file.proofs.BandLines.{comes-same}

-- ---- what a step has to be

-- the sheet with one line more
pub record Grows (s : Sheet) (fields : Fields) (t : Sheet) : Type 0 where
  pub sound : Sound t
  pub lines : lines_of t ≡ lines_of s ++ fields ∷ []

-- taken with no cause, or refused for the first one
abbrev pub Takes : Sheet → Fields → Result Sheet Why → Type 0
Takes s fields (Ok t) = (cause_of (lines_of s) fields ≡ None) × Grows s fields t
Takes s fields (Err e) = cause_of (lines_of s) fields ≡ Some (why_told e)

-- the same of a line whose form and ranges are right
abbrev pub Follows : Sheet → Word → Fields → Result SoFar Why → Type 0
Follows s w fields (Ok t) = (behind (lines_of s) w fields ≡ None) × Grows s fields (told_by w t)
Follows s w fields (Err e) = behind (lines_of s) w fields ≡ Some (why_told e)

ranged-ok : {A : Type 0} (test : A → Bool) (o : Option A) (a : A) → ranged test o ≡ Ok a →
    (o ≡ Some a) × (test a ≡ true)
ranged-ok test None a e = cc
ranged-ok test (Some x) a e = by_test (test x) refl e
  where
    by_test : (b : Bool) → test x ≡ b → cond b (Ok x) (Err why.Range) ≡ Ok a → (Some x ≡ Some a) × (test a ≡ true)
    by_test true t k = let is : x ≡ a = cc in (ap Some is, sym (ap test is) ∙ t)
    by_test false t k = cc

after : (s : Sheet) (w : Word) (fields : Fields) (r : Result SoFar Why) →
    cause_of (lines_of s) fields ≡ behind (lines_of s) w fields → Follows s w fields r →
    Takes s fields (on_ok (λ setup. Ok (told_by w setup)) r)
after s w fields (Ok t) c h = (c ∙ h.0, h.1)
after s w fields (Err e) c h = c ∙ h

answered : {A : Type 0} (s : Sheet) (w : Word) (fields : Fields) (r : Result A Why) (next : A → Result SoFar Why) →
    cause_of (lines_of s) fields ≡ told r (behind (lines_of s) w fields) →
    ((a : A) → r ≡ Ok a → Follows s w fields (next a)) →
    Takes s fields (on_ok (λ setup. Ok (told_by w setup)) (on_ok next r))
answered s w fields (Err e) next c h = c
answered s w fields (Ok a) next c h = after s w fields (next a) c (h a refl)

-- what is read, checked for its range and then against the lines before
pub line-takes : {A : Type 0} (s : Sheet) (w : Word) (word : List ℕ) (rest : Fields) (o : Option A) (test : A → Bool)
    (spell : A → Fields) (next : A → Result SoFar Why) → Sound s → word_spelled word ≡ Some w →
    may_come s w ≡ true → ReadsAs (lines_of s) w word rest o test spell →
    ((a : A) → o ≡ Some a → test a ≡ true → rest ≡ spell a → Follows s w (word ∷ rest) (next a)) →
    Takes s (word ∷ rest) (on_ok (λ setup. Ok (told_by w setup)) (on_ok next (ranged test o)))
line-takes s w word rest o test spell next sound spelled may reads more =
    let fields = word ∷ rest in
    answered s w fields (ranged test o) next
    (cause-parts (lines_of s) w fields spelled (comes-same s sound w ∙ may)
    ∙ front-told (lines_of s) w word rest o test spell (behind (lines_of s) w fields) reads)
    (λ a e. let p = ranged-ok test o a e in more a p.0 p.1 (reads.spelled a p.0 p.1))

-- a check against the lines before
pub checked : {X : Type 0} (s : Sheet) (w : Word) (fields : Fields) (o : Option Why) (x : X) (put : X → SoFar) →
    behind (lines_of s) w fields ≡ option_map why_told o → (o ≡ None → Grows s fields (told_by w (put x))) →
    Follows s w fields (on_ok (λ x. Ok (put x)) (unless_fault o x))
checked s w fields None x put b g = (b, g refl)
checked s w fields (Some e) x put b g = b

-- one step after another
pub nested : {A B C : Type 0} (g : B → Result C Why) (f : A → Result B Why) (r : Result A Why) →
    on_ok g (on_ok f r) ≡ on_ok (λ a. on_ok g (f a)) r
nested g f (Ok a) = refl
nested g f (Err e) = refl

-- ---- a line of the head

pub head-follows : (s : Sheet) (w : Word) (fields : Fields) (t : SoFar) → Sound s → rank s.last < 7 →
    rank (Some w) < 7 → 1 ≤ rank (Some w) → word_spelled (field_at fields 0) ≡ Some w → behind (lines_of s) w fields ≡ None →
    head_at (rank (Some w)) t ≡ head_at (rank s.last) s.setup ++ fields ∷ [] → InRange t →
    BandSoFar (rank (Some w)) t.version t.band → t.formats ≡ [] → t.network ≡ s.setup.network → Follows s w fields (Ok t)
head-follows s w fields t sound here next some spelled free grown ranges band formats net =
    let formats_s = sound.no_formats (omega arith) in
    let nodes_s = sound.no_nodes (omega arith) in
    let fibres_s = sound.no_fibres (omega arith) in
    let groups_s = sound.no_groups (omega arith) in
    let nodes = ap (λ (n : Network). n.nodes) net ∙ nodes_s in
    let fibres = ap (λ (n : Network). n.fibres) net ∙ fibres_s in
    let groups = ap (λ (n : Network). n.groups) net ∙ groups_s in
    let lines : lines_at (rank (Some w)) t ≡ lines_of s ++ fields ∷ [] =
    head_lines (rank (Some w)) t next formats nodes fibres groups ∙ grown
    ∙ ap (λ (v : List Fields). v ++ fields ∷ [])
    (sym (head_lines (rank s.last) s.setup here formats_s nodes_s fibres_s groups_s)) in (
      free,
      record {
        sound = record {
          ranges = ranges;
          band = band;
          no_version = λ l. absurd (omega arith);
          last = ap last_word lines ∙ last-word (lines_of s) fields w spelled;
          no_formats = λ l. formats;
          no_nodes = λ l. nodes;
          no_fibres = λ l. fibres;
          no_groups = λ l. groups;
          some_formats = λ l. absurd (omega arith);
          some_nodes = λ l. absurd (omega arith);
        };
        lines = lines;
      },
    )

-- no line with the word has come, and so it may
pub free-many : (s : Sheet) (w : Word) (fields : Fields) → lines_with (lines_of s) (field_at fields 0) ≡ [] →
    model.most_lines w ≡ 1 → is_many (lines_of s) w fields ≡ false
free-many s w fields none one = λ i. nat_le (one i) (length (none i))
