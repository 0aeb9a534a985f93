-- What the calls that read a line have read, put together.
use Rattle.std.proofs.Common.{◌≡◌, sym, ◌∙◌, ap, subst, ℕ, cond, List, length, Result, Ok, Err}
use Rattle.std.specs.Result.{IsErrAnd}
use Rattle.std.proofs.lemmas.Result.{err_from_is_err_and}
use Rattle.std.proofs.lemmas.Bool.{eq-eqb, ne_eqb}
use Rattle.eon_model.specs.RoomCommands.{RoomCommand}
use Rattle.command_text.specs.Reading.{Read, ◌>>=◌}
use Rattle.command_text.specs.Lines.{ended}
use Rattle.command_text.specs.declared.part.Stuck.{Stuck}
use Rattle.room_lines.specs.declared.verb.Verb.{Verb}
use Rattle.room_lines.specs.Lines.{verb_at, rest_at, start_at, command_at}
use Rattle.command_text.specs.Given.{Gives}

pub gives-err : {X Y : Type 0} (view : X → Y) (r : Result X Stuck) (read : Result Y ℕ) (stuck : Stuck) →
    IsErrAnd r (λ e. e ≡ stuck) → read ≡ Err stuck.left → Gives view r read
gives-err view r read stuck h e =
    let p = err_from_is_err_and r h in
    subst (λ (x : Result _ Stuck). Gives view x read) (sym (p.1 ∙ ap Err p.2)) e

pub no-verb : (line : List ℕ) (left : ℕ) → verb_at line ≡ Err left → command_at line ≡ Err left
unfolding command_at start_at
no-verb line left e = ap (λ r. (r >>= λ found. rest_at found.0 found.1) >>= ended) e

started : (line : List ℕ) (v : Verb) (rest : List ℕ) (r : Read RoomCommand) → verb_at line ≡ Ok (v, rest) →
    rest_at v rest ≡ r → command_at line ≡ (r >>= ended)
unfolding command_at start_at
started line v rest r e h = ap (λ r. (r >>= λ found. rest_at found.0 found.1) >>= ended) e ∙ ap (λ r. r >>= ended) h

pub no-rest : (line : List ℕ) (v : Verb) (rest : List ℕ) (left : ℕ) → verb_at line ≡ Ok (v, rest) →
    rest_at v rest ≡ Err left → command_at line ≡ Err left
no-rest line v rest left e h = started line v rest (Err left) e h

pub not-ended : (line : List ℕ) (v : Verb) (rest : List ℕ) (c : RoomCommand) (last : List ℕ) →
    verb_at line ≡ Ok (v, rest) → rest_at v rest ≡ Ok (c, last) →
    (length last ≡ 0 → ⊥) → command_at line ≡ Err (length last)
not-ended line v rest c last e h some =
    started line v rest (Ok (c, last)) e h ∙ (λ i. cond (ne_eqb (length last) 0 some i) (Ok c) (Err (length last)))

pub has-ended : (line : List ℕ) (v : Verb) (rest : List ℕ) (c : RoomCommand) (last : List ℕ) →
    verb_at line ≡ Ok (v, rest) → rest_at v rest ≡ Ok (c, last) →
    length last ≡ 0 → command_at line ≡ Ok c
has-ended line v rest c last e h none =
    started line v rest (Ok (c, last)) e h ∙ (λ i. cond (eq-eqb (length last) 0 none i) (Ok c) (Err (length last)))
