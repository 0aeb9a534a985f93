-- A whole line: what is read is the command of the line, and what is refused is no line, with its fault place.
use Rattle.std.proofs.Common.{◌≡◌, refl, sym, ◌∙◌, ap, subst, ℕ, ◌-◌, ◌≤◌, true, false, cond, List, [], ◌∷◌, ◌++◌, length, length-append, length-drop, take, drop, Ok, Err, inl, inr, arith}
use Rattle.std.specs.Prelude.{nat_eq}
use Rattle.std.proofs.lemmas.List.{append-nil, nil_from_length, take_at, take-append-drop}
use Rattle.std.proofs.lemmas.Bool.{eqb-true}
use Rattle.eon_model.specs.Names.{Name, is_name}
use Rattle.eon_model.specs.Spelling.{spaced}
use Rattle.eon_model.specs.LiveCommands.{LiveCommand, live_words, live_text, is_live_command, IsLiveLineOf, IsLiveLine, IsLiveFaultPlace}
use Rattle.command_text.specs.Reading.{◌>>=◌}
use Rattle.command_text.specs.Lines.{ended}
use Rattle.command_text.specs.Words.{behind}
use Rattle.command_text.proofs.ListParts.{ok_is, bind_ok, bind_err, left_of}
use Rattle.command_text.proofs.PartLaws.{Open, IsNil, Open-nil, Begun, IsPart, part-by, done-part, Then, then-part}
use Rattle.command_text.proofs.NameParts.{name-part}
use Rattle.command_text.proofs.FieldLaws.{spaced-behind, behind-Open, Field, field-part, field_is, with_field, Done, Opens}
use Rattle.live_failure.specs.declared.verb.Verb.{Verb}
use Rattle.live_failure.specs.declared.verb.Verb.TheVariants as verb
use Rattle.live_failure.specs.Lines.{verb_word, named_at, rest_at, start_at, command_at}
use Rattle.live_failure.proofs.VerbLaws.{VerbText, verb-part}

-- ---- what follows the verb

abbrev verb_of : LiveCommand → Verb
verb_of (LiveCommand.Fail group) = verb.Fail
verb_of LiveCommand.Repair = verb.Repair
verb_of LiveCommand.Lights = verb.Lights
verb_of LiveCommand.Exposed = verb.Exposed
verb_of (LiveCommand.Audit name) = verb.Audit
verb_of LiveCommand.Quit = verb.Quit

abbrev rest_words : LiveCommand → List (List ℕ)
rest_words (LiveCommand.Fail group) = group ∷ []
rest_words (LiveCommand.Audit name) = name ∷ []
rest_words LiveCommand.Repair = []
rest_words LiveCommand.Lights = []
rest_words LiveCommand.Exposed = []
rest_words LiveCommand.Quit = []

words_are : (c : LiveCommand) → live_words c ≡ verb_word (verb_of c) ∷ rest_words c
words_are (LiveCommand.Fail group) = refl
words_are LiveCommand.Repair = refl
words_are LiveCommand.Lights = refl
words_are LiveCommand.Exposed = refl
words_are (LiveCommand.Audit name) = refl
words_are LiveCommand.Quit = refl

-- the one text of what follows the verb
record RestText (v : Verb) (c : LiveCommand) (t : List ℕ) : Type 0 where
  verb_is : verb_of c ≡ v
  in_range : is_live_command c ≡ true
  is : t ≡ behind (rest_words c)

RestText-Open : (v : Verb) → Opens (RestText v)
RestText-Open v c t h = subst Open (sym h.is) (behind-Open (rest_words c))

abbrev NamedFields : (Name → LiveCommand) → LiveCommand → List ℕ → Type 0
NamedFields command = Then (Field is_name (λ v. v)) (λ name. Done (command name))

abbrev Fields : Verb → LiveCommand → List ℕ → Type 0
Fields verb.Fail = NamedFields LiveCommand.Fail
Fields verb.Repair = Done LiveCommand.Repair
Fields verb.Lights = Done LiveCommand.Lights
Fields verb.Exposed = Done LiveCommand.Exposed
Fields verb.Audit = NamedFields LiveCommand.Audit
Fields verb.Quit = Done LiveCommand.Quit

rest_by : (c d : LiveCommand) (t : List ℕ) → c ≡ d → is_live_command d ≡ true → t ≡ behind (rest_words d) →
    RestText (verb_of d) c t
rest_by c d t e h is = subst (λ (k : LiveCommand). RestText (verb_of d) k t) (sym e)
    (record { verb_is = refl; in_range = h; is = is })

fields_to : (v : Verb) (c : LiveCommand) (t : List ℕ) → Fields v c t → RestText v c t
fields_to verb.Fail c t h = rest_by c (LiveCommand.Fail h.first) t h.back_is.0 h.first_is.0 (field_is h [] h.back_is.1)
fields_to verb.Audit c t h = rest_by c (LiveCommand.Audit h.first) t h.back_is.0 h.first_is.0 (field_is h [] h.back_is.1)
fields_to verb.Repair c t h = rest_by c LiveCommand.Repair t h.0 refl h.1
fields_to verb.Lights c t h = rest_by c LiveCommand.Lights t h.0 refl h.1
fields_to verb.Exposed c t h = rest_by c LiveCommand.Exposed t h.0 refl h.1
fields_to verb.Quit c t h = rest_by c LiveCommand.Quit t h.0 refl h.1

fields_from : (c : LiveCommand) → is_live_command c ≡ true → Fields (verb_of c) c (behind (rest_words c))
fields_from (LiveCommand.Fail group) h = with_field group (LiveCommand.Fail group) [] h (refl, refl)
fields_from (LiveCommand.Audit name) h = with_field name (LiveCommand.Audit name) [] h (refl, refl)
fields_from LiveCommand.Repair h = (refl, refl)
fields_from LiveCommand.Lights h = (refl, refl)
fields_from LiveCommand.Exposed h = (refl, refl)
fields_from LiveCommand.Quit h = (refl, refl)

rest_from : (v : Verb) (c : LiveCommand) (t : List ℕ) → RestText v c t → Fields v c t
rest_from v c t h = subst (λ (u : List ℕ). Fields v c u) (sym h.is)
    (subst (λ (w : Verb). Fields w c (behind (rest_words c))) h.verb_is (fields_from c h.in_range))

named_fields : (command : Name → LiveCommand) → IsPart IsNil (NamedFields command) (named_at command)
named_fields command = then-part (field-part name-part) (λ name. done-part IsNil (command name))
    (λ n c t h. subst Open (sym h.1) tt) Open-nil

rest_fields : (v : Verb) → IsPart IsNil (Fields v) (rest_at v)
unfolding rest_at
rest_fields verb.Fail = named_fields LiveCommand.Fail
rest_fields verb.Audit = named_fields LiveCommand.Audit
rest_fields verb.Repair = done-part IsNil LiveCommand.Repair
rest_fields verb.Lights = done-part IsNil LiveCommand.Lights
rest_fields verb.Exposed = done-part IsNil LiveCommand.Exposed
rest_fields verb.Quit = done-part IsNil LiveCommand.Quit

rest-part : (v : Verb) → IsPart IsNil (RestText v) (rest_at v)
rest-part v = part-by (rest_fields v) (fields_to v) (rest_from v)

-- ---- a line

abbrev LineText : LiveCommand → List ℕ → Type 0
LineText c line = IsLiveLineOf line c

text_is : (c : LiveCommand) → live_text c ≡ verb_word (verb_of c) ++ behind (rest_words c)
text_is c = ap spaced (words_are c) ∙ spaced-behind (verb_word (verb_of c)) (rest_words c)

line_to : (c : LiveCommand) (t : List ℕ) → Then VerbText RestText c t → LineText c t
line_to c t h = record {
  in_range = h.back_is.in_range;
  is = h.is ∙ (λ i. (h.first_is ∙ ap verb_word (sym h.back_is.verb_is)) i ++ h.back_is.is i) ∙ sym (text_is c);
}

line_from : (c : LiveCommand) (t : List ℕ) → LineText c t → Then VerbText RestText c t
line_from c t h = record {
  first = verb_of c;
  front = verb_word (verb_of c);
  back = behind (rest_words c);
  first_is = refl;
  back_is = record { verb_is = refl; in_range = h.in_range; is = refl };
  is = h.is ∙ text_is c;
}

start-part : IsPart IsNil LineText start_at
unfolding start_at
start-part = part-by (then-part verb-part rest-part RestText-Open Open-nil) line_to line_from

ended_ok : (found : LiveCommand × List ℕ) (c : LiveCommand) → ended found ≡ Ok c → (found.0 ≡ c) × (found.1 ≡ [])
ended_ok found c e =
    elim (nat_eq (length found.1) 0) as (λ t. nat_eq (length found.1) 0 ≡ t → cond t (Ok found.0)
    (Err (length found.1)) ≡ Ok c → (found.0 ≡ c) × (found.1 ≡ [])) [
      | true ↦ λ h f. (ok_is found.0 c f, nil_from_length found.1 (eqb-true _ _ h))
      | false ↦ λ h f. absurd cc
    ] refl e

ended_err : (found : LiveCommand × List ℕ) (left : ℕ) → ended found ≡ Err left → length found.1 ≡ left
ended_err found left e =
    elim (nat_eq (length found.1) 0) as (λ t. cond t (Ok found.0)
    (Err (length found.1)) ≡ Err left → length found.1 ≡ left) [
      | true ↦ λ f. absurd cc
      | false ↦ λ f. cc
    ] e

-- what is read is the command of the line
pub command-found : (line : List ℕ) (c : LiveCommand) → command_at line ≡ Ok c → IsLiveLineOf line c
unfolding command_at
command-found line c e =
    let s = bind_ok (start_at line) ended c e in
    let found = ended_ok s.0 c s.2 in
    let took = start-part.takes line s.0.0 s.0.1 s.1 in
    let whole : line ≡ took.text = took.is ∙ ap (λ v. took.text ++ v) found.1 ∙ append-nil took.text in
    subst (λ (k : LiveCommand). IsLiveLineOf line k) found.0
    (subst (λ (v : List ℕ). IsLiveLineOf v s.0.0) (sym whole) took.is_text)

-- the command of a line is read
pub command-again : (line : List ℕ) (c : LiveCommand) → IsLiveLineOf line c → command_at line ≡ Ok c
unfolding command_at
command-again line c h = ap (λ r. r >>= ended) (ap start_at (sym (append-nil line))
    ∙ start-part.again c line [] h refl)

pub record Refused (line : List ℕ) (left : ℕ) : Type 0 where
  pub no_line : ¬ IsLiveLine line
  pub few : left ≤ length line
  pub place : IsLiveFaultPlace line (length line - left)

-- where the whole is stuck, its start is stuck or leaves so many bytes
start_left : (line : List ℕ) (left : ℕ) → command_at line ≡ Err left → left_of (start_at line) ≡ left
unfolding command_at
start_left line left e = elim (bind_err (start_at line) ended left e) [
  | inl h ↦ ap left_of h
  | inr h ↦ ap left_of h.1 ∙ ended_err h.0 left h.2
]

start_begun : (line : List ℕ) (left : ℕ) → command_at line ≡ Err left → Begun LineText line left
unfolding command_at
start_begun line left e = elim (bind_err (start_at line) ended left e) [
  | inl h ↦ start-part.stuck line left h
  | inr h ↦ let took = start-part.takes line h.0.0 h.0.1 h.1 in record {
    front = took.text;
    back = h.0.1;
    a = h.0.0;
    more = [];
    is_text = subst (λ (v : List ℕ). IsLiveLineOf v h.0.0) (sym (append-nil took.text)) took.is_text;
    is = took.is;
    left_is = ended_err h.0 left h.2;
  }
]

-- what is refused is no line, and no line goes farther
pub command-refused : (line : List ℕ) (left : ℕ) → command_at line ≡ Err left → Refused line left
command-refused line left e =
    let b = start_begun line left e in
    let total = ap length b.is ∙ length-append b.front b.back in
    let back = b.left_is in
    let front : take (length line - left) line ≡ b.front = ap (take (length line - left)) b.is
    ∙ take_at b.front b.back (length line - left) (omega arith) in
    record {
      no_line = λ h. let bad = sym e ∙ command-again line h.0 h.1 in absurd cc;
      few = omega arith;
      place = record {
        within = omega arith;
        begins = (b.more, (b.a, subst (λ (v : List ℕ). IsLiveLineOf (v ++ b.more) b.a) (sym front) b.is_text));
        longest = λ n l h.
            let reach = start-part.reach h.1.0 (take n line) h.0 (drop n line) h.1.1 in
            let same = ap (λ v. left_of (start_at v)) (take-append-drop n line) ∙ start_left line left e in
            let rest = length-drop n line in
            omega arith;
      };
    }
