-- The steps of the loop that looks for the first word.
use Rattle.std.proofs.Common.{◌≡◌, sym, ◌∙◌, ap, ℕ, suc, ◌+◌, ◌<◌, ◌≤◌, min, List, ◌∷◌, length, drop, length-drop, drop-cons, get_or, Result, Ok, Err, arith}
use Rattle.std.proofs.lemmas.List.{nil_from_length}
use Rattle.room_lines.specs.declared.verb.Verb.{Verb}
use Rattle.room_lines.specs.declared.verb.Verb.TheVariants as verb
use Rattle.command_text.specs.Reading.{after}
use Rattle.room_lines.specs.Lines.{verb_word, verb_among}
use Rattle.room_lines.proofs.VerbLaws.{verb_or}

abbrev nth_verb : List Verb → ℕ → Verb
nth_verb vs i = get_or vs i verb.Room

among_step : (left i : ℕ) (vs : List Verb) (bytes word : List ℕ) (r : Result (List ℕ) ℕ) → i < length vs →
    word ≡ verb_word (nth_verb vs i) →
    after word bytes ≡ r → verb_among left (drop i vs) bytes ≡ verb_or (nth_verb vs i) left (drop (suc i) vs) bytes r
unfolding verb_among
among_step left i vs bytes word r l w e =
    let cut : drop i vs ≡ nth_verb vs i ∷ drop (suc i) vs = drop-cons vs i verb.Room l in
    ap (λ v. verb_among left v bytes) cut
    ∙ ap (verb_or (nth_verb vs i) left (drop (suc i) vs) bytes) (ap (λ v. after v bytes) (sym w) ∙ e)

pub among-here : (left i : ℕ) (vs : List Verb) (bytes word rest : List ℕ) → i < length vs →
    word ≡ verb_word (nth_verb vs i) →
    after word bytes ≡ Ok rest → verb_among left (drop i vs) bytes ≡ Ok (nth_verb vs i, rest)
among-here left i vs bytes word rest l w e = among_step left i vs bytes word (Ok rest) l w e

pub among-later : (left i : ℕ) (vs : List Verb) (bytes word : List ℕ) (short : ℕ) → i < length vs →
    word ≡ verb_word (nth_verb vs i) →
    after word bytes ≡ Err short → verb_among left (drop i vs) bytes ≡ verb_among (min left short)
    (drop (i + 1) vs) bytes
among-later left i vs bytes word short l w e =
    let next : suc i ≡ i + 1 = omega arith in
    among_step left i vs bytes word (Err short) l w e ∙ ap (λ k. verb_among (min left short) (drop k vs) bytes) next

pub among-end : (left i : ℕ) (vs : List Verb) (bytes : List ℕ) → length vs ≤ i →
    verb_among left (drop i vs) bytes ≡ Err left
unfolding verb_among
among-end left i vs bytes l =
    let rest = length-drop i vs in
    ap (λ v. verb_among left v bytes) (nil_from_length (drop i vs) (omega arith))
