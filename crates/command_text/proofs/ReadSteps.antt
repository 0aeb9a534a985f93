-- What the calls that read a line have read, put together.
use Rattle.std.proofs.Common.{◌≡◌, refl, sym, ◌∙◌, ap, subst, ℕ, cond, List, [], ◌∷◌, length, Some, None, Result, Ok, Err}
use Rattle.std.specs.Prelude.{codes}
use Rattle.std.specs.Result.{IsErrAnd}
use Rattle.std.proofs.lemmas.Result.{err_from_is_err_and}
use Rattle.std.proofs.lemmas.List.{nil_from_length}
use Rattle.std.proofs.lemmas.Bool.{eq-eqb, ne_eqb}
use Rattle.eon_model.specs.Names.{Name}
use Rattle.eon_model.specs.Commands.{Command}
use Rattle.command_text.specs.declared.part.Stuck.{Stuck}
use Rattle.command_text.specs.declared.verb.Verb.{Verb}
use Rattle.command_text.specs.Reading.{Read, ◌>>=◌, after}
use Rattle.command_text.specs.Parts.{name_at}
use Rattle.command_text.specs.Lines.{field_at, avoid_at, make_at, verb_at, rest_at, start_at, ended, command_at}
use Rattle.command_text.specs.Given.{Gives, Leaves}

pub leaves-err : {X Y : Type 0} (view : X → Y) (r : Result X Stuck) (rest : List ℕ) (read : Read Y) (stuck : Stuck) →
    IsErrAnd r (λ e. e ≡ stuck) → read ≡ Err stuck.left → Leaves view r rest read
leaves-err view r rest read stuck h e =
    let p = err_from_is_err_and r h in
    subst (λ (x : Result _ Stuck). Leaves view x rest read) (sym (p.1 ∙ ap Err p.2)) e

pub gives-err : {X Y : Type 0} (view : X → Y) (r : Result X Stuck) (read : Result Y ℕ) (stuck : Stuck) →
    IsErrAnd r (λ e. e ≡ stuck) → read ≡ Err stuck.left → Gives view r read
gives-err view r read stuck h e =
    let p = err_from_is_err_and r h in
    subst (λ (x : Result _ Stuck). Gives view x read) (sym (p.1 ∙ ap Err p.2)) e

-- ---- a fibre to avoid

abbrev avoided : Name → List ℕ → Read Command
avoided name bytes = after (codes " avoid") bytes >>= λ rest.
    (field_at name_at rest >>= λ fibre. Ok (Command.Make name (Some fibre.0), fibre.1))

avoid_full : (name : Name) (rest : List ℕ) → (length rest ≡ 0 → ⊥) → avoid_at name rest ≡ avoided name rest
unfolding avoid_at
avoid_full name [] h = absurd (h refl)
avoid_full name (b ∷ rest) h = refl

make_on : (bytes : List ℕ) (name : Name) (rest : List ℕ) → field_at name_at bytes ≡ Ok (name, rest) →
    make_at bytes ≡ avoid_at name rest
unfolding make_at
make_on bytes name rest e = ap (λ r. r >>= λ found. avoid_at found.0 found.1) e

pub make-none : (bytes : List ℕ) (name : Name) (rest : List ℕ) → field_at name_at bytes ≡ Ok (name, rest) →
    length rest ≡ 0 →
    make_at bytes ≡ Ok (Command.Make name None, rest)
unfolding avoid_at
make-none bytes name rest e none =
    let gone = nil_from_length rest none in
    make_on bytes name rest e ∙ ap (avoid_at name) gone ∙ ap (λ v. Ok (Command.Make name None, v)) (sym gone)

pub make-stuck : (bytes : List ℕ) (name : Name) (rest : List ℕ) (left : ℕ) →
    field_at name_at bytes ≡ Ok (name, rest) → (length rest ≡ 0 → ⊥) →
    after (codes " avoid") rest ≡ Err left → make_at bytes ≡ Err left
make-stuck bytes name rest left e some h =
    make_on bytes name rest e ∙ avoid_full name rest some
    ∙ ap (λ r. r >>= λ rest. (field_at name_at rest >>= λ fibre. Ok (Command.Make name (Some fibre.0), fibre.1))) h

make_after : (bytes : List ℕ) (name : Name) (rest others : List ℕ) (r : Read Name) →
    field_at name_at bytes ≡ Ok (name, rest) → (length rest ≡ 0 → ⊥) →
    after (codes " avoid") rest ≡ Ok others → field_at name_at others ≡ r → make_at bytes ≡
    (r >>= λ fibre. Ok (Command.Make name (Some fibre.0), fibre.1))
make_after bytes name rest others r e some h k =
    make_on bytes name rest e ∙ avoid_full name rest some
    ∙ ap (λ r. r >>= λ rest. (field_at name_at rest >>= λ fibre. Ok (Command.Make name (Some fibre.0), fibre.1))) h
    ∙ ap (λ r. r >>= λ fibre. Ok (Command.Make name (Some fibre.0), fibre.1)) k

pub make-bad : (bytes : List ℕ) (name : Name) (rest others : List ℕ) (left : ℕ) →
    field_at name_at bytes ≡ Ok (name, rest) → (length rest ≡ 0 → ⊥) →
    after (codes " avoid") rest ≡ Ok others → field_at name_at others ≡ Err left → make_at bytes ≡ Err left
make-bad bytes name rest others left e some h k = make_after bytes name rest others (Err left) e some h k

pub make-some : (bytes : List ℕ) (name : Name) (rest others : List ℕ) (fibre : Name) (last : List ℕ) →
    field_at name_at bytes ≡ Ok (name, rest) → (length rest ≡ 0 → ⊥) →
    after (codes " avoid") rest ≡ Ok others → field_at name_at others ≡ Ok (fibre, last) → make_at bytes ≡ Ok
    (Command.Make name (Some fibre), last)
make-some bytes name rest others fibre last e some h k = make_after bytes name rest others
    (Ok (fibre, last)) e some h k

-- ---- the whole line

pub no-verb : (line : List ℕ) (left : ℕ) → verb_at line ≡ Err left → command_at line ≡ Err left
unfolding command_at start_at
no-verb line left e = ap (λ r. (r >>= λ found. rest_at found.0 found.1) >>= ended) e

started : (line : List ℕ) (v : Verb) (rest : List ℕ) (r : Read Command) → verb_at line ≡ Ok
    (v, rest) → rest_at v rest ≡ r → command_at line ≡ (r >>= ended)
unfolding command_at start_at
started line v rest r e h = ap (λ r. (r >>= λ found. rest_at found.0 found.1) >>= ended) e ∙ ap (λ r. r >>= ended) h

pub no-rest : (line : List ℕ) (v : Verb) (rest : List ℕ) (left : ℕ) → verb_at line ≡ Ok (v, rest) →
    rest_at v rest ≡ Err left → command_at line ≡ Err left
no-rest line v rest left e h = started line v rest (Err left) e h

pub not-ended : (line : List ℕ) (v : Verb) (rest : List ℕ) (c : Command) (last : List ℕ) →
    verb_at line ≡ Ok (v, rest) → rest_at v rest ≡ Ok (c, last) →
    (length last ≡ 0 → ⊥) → command_at line ≡ Err (length last)
not-ended line v rest c last e h some =
    started line v rest (Ok (c, last)) e h ∙ (λ i. cond (ne_eqb (length last) 0 some i) (Ok c) (Err (length last)))

pub has-ended : (line : List ℕ) (v : Verb) (rest : List ℕ) (c : Command) (last : List ℕ) →
    verb_at line ≡ Ok (v, rest) → rest_at v rest ≡ Ok (c, last) →
    length last ≡ 0 → command_at line ≡ Ok c
has-ended line v rest c last e h none =
    started line v rest (Ok (c, last)) e h ∙ (λ i. cond (eq-eqb (length last) 0 none i) (Ok c) (Err (length last)))
