-- A whole line: what is read is the command of the line, and what is refused is no line, with its fault place.
use Rattle.std.proofs.Common.{◌≡◌, refl, sym, ◌∙◌, ap, subst, ℕ, ◌-◌, ◌≤◌, true, false, cond, List, [], ◌++◌, length, length-append, length-drop, take, drop, Ok, Err, inl, inr, arith}
use Rattle.std.specs.Prelude.{nat_eq}
use Rattle.std.proofs.lemmas.List.{append-nil, nil_from_length, take_at, take-append-drop}
use Rattle.std.proofs.lemmas.Bool.{eqb-true}
use Rattle.eon_model.specs.Commands.{Command}
use Rattle.eon_model.specs.Spelling.{spaced}
use Rattle.eon_model.specs.CommandText.{command_text, IsLineOf, IsLine, IsFaultPlace}
use Rattle.command_text.specs.Reading.{◌>>=◌}
use Rattle.command_text.specs.Lines.{verb_word, start_at, ended, command_at}
use Rattle.command_text.specs.Words.{behind, verb_of, rest_words}
use Rattle.command_text.proofs.ListParts.{ok_is, bind_ok, bind_err, left_of}
use Rattle.command_text.proofs.PartLaws.{IsNil, Open-nil, Begun, IsPart, part-by, Then, then-part}
use Rattle.command_text.proofs.VerbLaws.{VerbText, verb-part}
use Rattle.command_text.proofs.FieldLaws.{spaced-behind}
use Rattle.command_text.proofs.CommandFields.{words_are, RestText, RestText-Open}
use Rattle.command_text.proofs.CommandLaws.{rest-part}

abbrev pub LineText : Command → List ℕ → Type 0
LineText c line = IsLineOf line c

pub text_is : (c : Command) → command_text c ≡ verb_word (verb_of c) ++ behind (rest_words c)
text_is c = ap spaced (words_are c) ∙ spaced-behind (verb_word (verb_of c)) (rest_words c)

line_to : (c : Command) (t : List ℕ) → Then VerbText RestText c t → LineText c t
line_to c t h = record {
  in_range = h.back_is.in_range;
  is = h.is ∙ (λ i. (h.first_is ∙ ap verb_word (sym h.back_is.verb_is)) i ++ h.back_is.is i) ∙ sym (text_is c);
}

line_from : (c : Command) (t : List ℕ) → LineText c t → Then VerbText RestText c t
line_from c t h = record {
  first = verb_of c;
  front = verb_word (verb_of c);
  back = behind (rest_words c);
  first_is = refl;
  back_is = record { verb_is = refl; in_range = h.in_range; is = refl };
  is = h.is ∙ text_is c;
}

pub start-part : IsPart IsNil LineText start_at
unfolding start_at
start-part = part-by (then-part verb-part rest-part RestText-Open Open-nil) line_to line_from

ended_ok : (found : Command × List ℕ) (c : Command) → ended found ≡ Ok c → (found.0 ≡ c) × (found.1 ≡ [])
ended_ok found c e =
    elim (nat_eq (length found.1) 0) as (λ t. nat_eq (length found.1) 0 ≡ t → cond t (Ok found.0)
    (Err (length found.1)) ≡ Ok c → (found.0 ≡ c) × (found.1 ≡ [])) [
      | true ↦ λ h f. (ok_is found.0 c f, nil_from_length found.1 (eqb-true _ _ h))
      | false ↦ λ h f. absurd cc
    ] refl e

ended_err : (found : Command × List ℕ) (left : ℕ) → ended found ≡ Err left → length found.1 ≡ left
ended_err found left e =
    elim (nat_eq (length found.1) 0) as (λ t. cond t (Ok found.0)
    (Err (length found.1)) ≡ Err left → length found.1 ≡ left) [
      | true ↦ λ f. absurd cc
      | false ↦ λ f. cc
    ] e

-- what is read is the command of the line
pub command-found : (line : List ℕ) (c : Command) → command_at line ≡ Ok c → IsLineOf line c
unfolding command_at
command-found line c e =
    let s = bind_ok (start_at line) ended c e in
    let found = ended_ok s.0 c s.2 in
    let took = start-part.takes line s.0.0 s.0.1 s.1 in
    let whole : line ≡ took.text = took.is ∙ ap (λ v. took.text ++ v) found.1 ∙ append-nil took.text in
    subst (λ (k : Command). IsLineOf line k) found.0
    (subst (λ (v : List ℕ). IsLineOf v s.0.0) (sym whole) took.is_text)

-- the command of a line is read
pub command-again : (line : List ℕ) (c : Command) → IsLineOf line c → command_at line ≡ Ok c
unfolding command_at
command-again line c h = ap (λ r. r >>= ended) (ap start_at (sym (append-nil line))
    ∙ start-part.again c line [] h refl)

pub record Refused (line : List ℕ) (left : ℕ) : Type 0 where
  pub no_line : ¬ IsLine line
  pub few : left ≤ length line
  pub place : IsFaultPlace line (length line - left)

-- where the whole is stuck, its start is stuck or leaves so many bytes
start_left : (line : List ℕ) (left : ℕ) → command_at line ≡ Err left → left_of (start_at line) ≡ left
unfolding command_at
start_left line left e = elim (bind_err (start_at line) ended left e) [
  | inl h ↦ ap left_of h
  | inr h ↦ ap left_of h.1 ∙ ended_err h.0 left h.2
]

start_begun : (line : List ℕ) (left : ℕ) → command_at line ≡ Err left → Begun LineText line left
unfolding command_at
start_begun line left e = elim (bind_err (start_at line) ended left e) [
  | inl h ↦ start-part.stuck line left h
  | inr h ↦ let took = start-part.takes line h.0.0 h.0.1 h.1 in record {
    front = took.text;
    back = h.0.1;
    a = h.0.0;
    more = [];
    is_text = subst (λ (v : List ℕ). IsLineOf v h.0.0) (sym (append-nil took.text)) took.is_text;
    is = took.is;
    left_is = ended_err h.0 left h.2;
  }
]

-- what is refused is no line, and no line goes farther
pub command-refused : (line : List ℕ) (left : ℕ) → command_at line ≡ Err left → Refused line left
command-refused line left e =
    let b = start_begun line left e in
    let total = ap length b.is ∙ length-append b.front b.back in
    let back = b.left_is in
    let front : take (length line - left) line ≡ b.front = ap (take (length line - left)) b.is
    ∙ take_at b.front b.back (length line - left) (omega arith) in
    record {
      no_line = λ h. let bad = sym e ∙ command-again line h.0 h.1 in absurd cc;
      few = omega arith;
      place = record {
        within = omega arith;
        begins = (b.more, (b.a, subst (λ (v : List ℕ). IsLineOf (v ++ b.more) b.a) (sym front) b.is_text));
        longest = λ n l h.
            let reach = start-part.reach h.1.0 (take n line) h.0 (drop n line) h.1.1 in
            let same = ap (λ v. left_of (start_at v)) (take-append-drop n line) ∙ start_left line left e in
            let rest = length-drop n line in
            omega arith;
      };
    }
