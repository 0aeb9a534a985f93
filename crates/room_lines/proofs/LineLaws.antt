-- A whole line: what is read is the command of the line, and what is refused is no line, with its fault place.
use Rattle.std.proofs.Common.{◌≡◌, refl, sym, ◌∙◌, ap, subst, ℕ, ◌-◌, ◌≤◌, true, false, cond, ◌&&◌, List, [], ◌∷◌, ◌++◌, length, length-append, length-drop, take, drop, Ok, Err, inl, inr, arith}
use Rattle.std.specs.Prelude.{nat_eq}
use Rattle.std.proofs.lemmas.List.{append-nil, nil_from_length, take_at, take-append-drop}
use Rattle.std.proofs.lemmas.Bool.{eqb-true, and_parts, and_from}
use Rattle.std.specs.Fmt.{decimal}
use Rattle.eon_model.specs.Names.{Name, is_name}
use Rattle.eon_model.specs.Spelling.{spaced}
use Rattle.eon_model.specs.Commands.{PathWords}
use Rattle.eon_model.specs.CommandText.{path_words, is_rate, is_path}
use Rattle.eon_model.specs.RoomCommands.{Question, RoomCommand, room_words, room_text, is_room_command, IsRoomLineOf, IsRoomLine, IsRoomFaultPlace}
use Rattle.command_text.specs.Reading.{◌>>=◌}
use Rattle.command_text.specs.Lines.{ended}
use Rattle.command_text.specs.Words.{behind}
use Rattle.command_text.proofs.ListParts.{ok_is, bind_ok, bind_err, left_of}
use Rattle.command_text.proofs.PartLaws.{Open, IsNil, Open-nil, Begun, IsPart, part-by, done-part, Then, then-part}
use Rattle.command_text.proofs.NameParts.{name-part}
use Rattle.command_text.proofs.NumberParts.{rate-part}
use Rattle.command_text.proofs.FieldLaws.{spaced-behind, behind-Open, Field, field-part, field_is, with_field, Done, Opens, Done-Open, Field-Open, Then-Open, PathText, path-part}
use Rattle.room_lines.specs.declared.verb.Verb.{Verb}
use Rattle.room_lines.specs.declared.verb.Verb.TheVariants as verb
use Rattle.room_lines.specs.Lines.{verb_word, question_at, rest_at, start_at, command_at}
use Rattle.room_lines.proofs.VerbLaws.{VerbText, verb-part}

-- ---- what follows the verb

abbrev verb_of : RoomCommand → Verb
verb_of (RoomCommand.Room q) = verb.Room
verb_of RoomCommand.Quit = verb.Quit

abbrev question_words : Question → List (List ℕ)
question_words q = q.src ∷ q.dst ∷ decimal q.rate ∷ path_words q.work

abbrev rest_words : RoomCommand → List (List ℕ)
rest_words (RoomCommand.Room q) = question_words q
rest_words RoomCommand.Quit = []

words_are : (c : RoomCommand) → room_words c ≡ verb_word (verb_of c) ∷ rest_words c
words_are (RoomCommand.Room q) = refl
words_are RoomCommand.Quit = refl

-- the one text of what follows the verb
record RestText (v : Verb) (c : RoomCommand) (t : List ℕ) : Type 0 where
  verb_is : verb_of c ≡ v
  in_range : is_room_command c ≡ true
  is : t ≡ behind (rest_words c)

RestText-Open : (v : Verb) → Opens (RestText v)
RestText-Open v c t h = subst Open (sym h.is) (behind-Open (rest_words c))

-- ---- a question

abbrev NameField : Name → List ℕ → Type 0
NameField = Field is_name (λ v. v)

abbrev QuestionFields : Question → List ℕ → Type 0
QuestionFields = Then NameField (λ src. Then NameField (λ dst. Then (Field is_rate decimal) (λ rate. Then PathText (λ work. Done
    (record { src = src; dst = dst; rate = rate; work = work })))))

abbrev QuestionText : Question → List ℕ → Type 0
QuestionText q t = (is_room_command (RoomCommand.Room q) ≡ true) × (t ≡ behind (question_words q))

question_to : (q : Question) (t : List ℕ) → QuestionFields q t → QuestionText q t
question_to q t src =
    let dst = src.back_is in
    let rate = dst.back_is in
    let work = rate.back_is in
    let done = work.back_is in (
      ap (λ (k : Question). is_room_command (RoomCommand.Room k)) done.0
          ∙ and_from _ _ (and_from _ _ (and_from _ _ src.first_is.0 dst.first_is.0) rate.first_is.0) work.first_is.0,
      field_is src _ (field_is dst _ (field_is rate _
          (work.is ∙ (λ i. work.first_is.1 i ++ done.1 i) ∙ append-nil (behind (path_words work.first)))))
          ∙ ap (λ (k : Question). behind (question_words k)) (sym done.0),
    )

question_from : (q : Question) (t : List ℕ) → QuestionText q t → QuestionFields q t
question_from q t h =
    let a = and_parts (is_name q.src && is_name q.dst && is_rate q.rate) (is_path q.work) h.0 in
    let b = and_parts (is_name q.src && is_name q.dst) (is_rate q.rate) a.0 in
    let c = and_parts (is_name q.src) (is_name q.dst) b.0 in
    subst (QuestionFields q) (sym h.1)
    (with_field q.src q _ c.0 (with_field q.dst q _ c.1 (with_field q.rate q _ b.1 (record {
      first = q.work;
      front = behind (path_words q.work);
      back = [];
      first_is = (a.1, refl);
      back_is = (refl, refl);
      is = sym (append-nil (behind (path_words q.work)));
    }))))

PathText-Open : Opens PathText
PathText-Open p t h = subst Open (sym h.1) (behind-Open (path_words p))

question_fields : IsPart Open QuestionFields question_at
unfolding question_at
question_fields =
    then-part (field-part name-part) (λ src. then-part (field-part name-part)
    (λ dst. then-part (field-part rate-part) (λ rate. then-part path-part
    (λ work. done-part Open (record { src = src; dst = dst; rate = rate; work = work }))
    (λ work q t h. Done-Open t h) (λ rest h. h))
    (λ rate. path_open (λ work q t h. Done-Open t h)) (λ rest h. h))
    (λ dst. rate_open (λ rate. path_open (λ work q t h. Done-Open t h))) (λ rest h. h))
    (λ src. name_open (λ dst. rate_open (λ rate. path_open (λ work q t h. Done-Open t h)))) (λ rest h. h)
  where
    name_open : {S : Name → Question → List ℕ → Type 0} → ((a : Name) → Opens (S a)) → Opens (Then NameField S)
    name_open second = Then-Open (Field-Open is_name (λ v. v)) second

    rate_open : {S : ℕ → Question → List ℕ → Type 0} → ((a : ℕ) → Opens (S a)) → Opens (Then (Field is_rate decimal) S)
    rate_open second = Then-Open (Field-Open is_rate decimal) second

    path_open : {S : PathWords → Question → List ℕ → Type 0} → ((a : PathWords) → Opens (S a)) → Opens (Then PathText S)
    path_open second = Then-Open PathText-Open second

question-part : IsPart Open QuestionText question_at
question-part = part-by question_fields question_to question_from

-- ---- the rest of a line

abbrev Asked : RoomCommand → List ℕ → Type 0
Asked = Then QuestionText (λ q. Done (RoomCommand.Room q))

abbrev Fields : Verb → RoomCommand → List ℕ → Type 0
Fields verb.Room = Asked
Fields verb.Quit = Done RoomCommand.Quit

rest_by : (c d : RoomCommand) (t : List ℕ) → c ≡ d → is_room_command d ≡ true → t ≡ behind (rest_words d) →
    RestText (verb_of d) c t
rest_by c d t e h is = subst (λ (k : RoomCommand). RestText (verb_of d) k t) (sym e)
    (record { verb_is = refl; in_range = h; is = is })

fields_to : (v : Verb) (c : RoomCommand) (t : List ℕ) → Fields v c t → RestText v c t
fields_to verb.Room c t h = rest_by c (RoomCommand.Room h.first) t h.back_is.0 h.first_is.0
    (h.is ∙ (λ i. h.first_is.1 i ++ h.back_is.1 i) ∙ append-nil (behind (question_words h.first)))
fields_to verb.Quit c t h = rest_by c RoomCommand.Quit t h.0 refl h.1

fields_from : (c : RoomCommand) → is_room_command c ≡ true → Fields (verb_of c) c (behind (rest_words c))
fields_from (RoomCommand.Room q) h = record {
  first = q;
  front = behind (question_words q);
  back = [];
  first_is = (h, refl);
  back_is = (refl, refl);
  is = sym (append-nil (behind (question_words q)));
}
fields_from RoomCommand.Quit h = (refl, refl)

rest_from : (v : Verb) (c : RoomCommand) (t : List ℕ) → RestText v c t → Fields v c t
rest_from v c t h = subst (λ (u : List ℕ). Fields v c u) (sym h.is)
    (subst (λ (w : Verb). Fields w c (behind (rest_words c))) h.verb_is (fields_from c h.in_range))

rest_fields : (v : Verb) → IsPart IsNil (Fields v) (rest_at v)
unfolding rest_at
rest_fields verb.Room = then-part question-part (λ q. done-part IsNil (RoomCommand.Room q))
    (λ q c t h. subst Open (sym h.1) tt) Open-nil
rest_fields verb.Quit = done-part IsNil RoomCommand.Quit

rest-part : (v : Verb) → IsPart IsNil (RestText v) (rest_at v)
rest-part v = part-by (rest_fields v) (fields_to v) (rest_from v)

-- ---- a line

abbrev LineText : RoomCommand → List ℕ → Type 0
LineText c line = IsRoomLineOf line c

text_is : (c : RoomCommand) → room_text c ≡ verb_word (verb_of c) ++ behind (rest_words c)
text_is c = ap spaced (words_are c) ∙ spaced-behind (verb_word (verb_of c)) (rest_words c)

line_to : (c : RoomCommand) (t : List ℕ) → Then VerbText RestText c t → LineText c t
line_to c t h = record {
  in_range = h.back_is.in_range;
  is = h.is ∙ (λ i. (h.first_is ∙ ap verb_word (sym h.back_is.verb_is)) i ++ h.back_is.is i) ∙ sym (text_is c);
}

line_from : (c : RoomCommand) (t : List ℕ) → LineText c t → Then VerbText RestText c t
line_from c t h = record {
  first = verb_of c;
  front = verb_word (verb_of c);
  back = behind (rest_words c);
  first_is = refl;
  back_is = record { verb_is = refl; in_range = h.in_range; is = refl };
  is = h.is ∙ text_is c;
}

start-part : IsPart IsNil LineText start_at
unfolding start_at
start-part = part-by (then-part verb-part rest-part RestText-Open Open-nil) line_to line_from

ended_ok : (found : RoomCommand × List ℕ) (c : RoomCommand) → ended found ≡ Ok c → (found.0 ≡ c) × (found.1 ≡ [])
ended_ok found c e =
    elim (nat_eq (length found.1) 0) as (λ t. nat_eq (length found.1) 0 ≡ t → cond t (Ok found.0)
    (Err (length found.1)) ≡ Ok c → (found.0 ≡ c) × (found.1 ≡ [])) [
      | true ↦ λ h f. (ok_is found.0 c f, nil_from_length found.1 (eqb-true _ _ h))
      | false ↦ λ h f. absurd cc
    ] refl e

ended_err : (found : RoomCommand × List ℕ) (left : ℕ) → ended found ≡ Err left → length found.1 ≡ left
ended_err found left e =
    elim (nat_eq (length found.1) 0) as (λ t. cond t (Ok found.0)
    (Err (length found.1)) ≡ Err left → length found.1 ≡ left) [
      | true ↦ λ f. absurd cc
      | false ↦ λ f. cc
    ] e

-- what is read is the command of the line
pub command-found : (line : List ℕ) (c : RoomCommand) → command_at line ≡ Ok c → IsRoomLineOf line c
unfolding command_at
command-found line c e =
    let s = bind_ok (start_at line) ended c e in
    let found = ended_ok s.0 c s.2 in
    let took = start-part.takes line s.0.0 s.0.1 s.1 in
    let whole : line ≡ took.text = took.is ∙ ap (λ v. took.text ++ v) found.1 ∙ append-nil took.text in
    subst (λ (k : RoomCommand). IsRoomLineOf line k) found.0
    (subst (λ (v : List ℕ). IsRoomLineOf v s.0.0) (sym whole) took.is_text)

-- the command of a line is read
pub command-again : (line : List ℕ) (c : RoomCommand) → IsRoomLineOf line c → command_at line ≡ Ok c
unfolding command_at
command-again line c h = ap (λ r. r >>= ended) (ap start_at (sym (append-nil line))
    ∙ start-part.again c line [] h refl)

pub record Refused (line : List ℕ) (left : ℕ) : Type 0 where
  pub no_line : ¬ IsRoomLine line
  pub few : left ≤ length line
  pub place : IsRoomFaultPlace line (length line - left)

-- where the whole is stuck, its start is stuck or leaves so many bytes
start_left : (line : List ℕ) (left : ℕ) → command_at line ≡ Err left → left_of (start_at line) ≡ left
unfolding command_at
start_left line left e = elim (bind_err (start_at line) ended left e) [
  | inl h ↦ ap left_of h
  | inr h ↦ ap left_of h.1 ∙ ended_err h.0 left h.2
]

start_begun : (line : List ℕ) (left : ℕ) → command_at line ≡ Err left → Begun LineText line left
unfolding command_at
start_begun line left e = elim (bind_err (start_at line) ended left e) [
  | inl h ↦ start-part.stuck line left h
  | inr h ↦ let took = start-part.takes line h.0.0 h.0.1 h.1 in record {
    front = took.text;
    back = h.0.1;
    a = h.0.0;
    more = [];
    is_text = subst (λ (v : List ℕ). IsRoomLineOf v h.0.0) (sym (append-nil took.text)) took.is_text;
    is = took.is;
    left_is = ended_err h.0 left h.2;
  }
]

-- what is refused is no line, and no line goes farther
pub command-refused : (line : List ℕ) (left : ℕ) → command_at line ≡ Err left → Refused line left
command-refused line left e =
    let b = start_begun line left e in
    let total = ap length b.is ∙ length-append b.front b.back in
    let back = b.left_is in
    let front : take (length line - left) line ≡ b.front = ap (take (length line - left)) b.is
    ∙ take_at b.front b.back (length line - left) (omega arith) in
    record {
      no_line = λ h. let bad = sym e ∙ command-again line h.0 h.1 in absurd cc;
      few = omega arith;
      place = record {
        within = omega arith;
        begins = (b.more, (b.a, subst (λ (v : List ℕ). IsRoomLineOf (v ++ b.more) b.a) (sym front) b.is_text));
        longest = λ n l h.
            let reach = start-part.reach h.1.0 (take n line) h.0 (drop n line) h.1.1 in
            let same = ap (λ v. left_of (start_at v)) (take-append-drop n line) ∙ start_left line left e in
            let rest = length-drop n line in
            omega arith;
      };
    }
