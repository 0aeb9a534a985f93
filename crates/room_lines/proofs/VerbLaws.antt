-- The first word of a line.
use Rattle.std.proofs.Common.{◌≡◌, refl, sym, ◌∙◌, ap, subst, ℕ, ◌≤◌, min, List, [], ◌∷◌, ◌++◌, length, length-append, Result, Ok, Err, ◌⊎◌, inl, inr, append_assoc, arith}
use Rattle.std.specs.Prelude.{codes}
use Rattle.std.proofs.lemmas.Bool.{cases_lt}
use Rattle.std.proofs.lemmas.List.{append-nil}
use Rattle.room_lines.specs.declared.verb.Verb.{Verb}
use Rattle.room_lines.specs.declared.verb.Verb.TheVariants as verb
use Rattle.command_text.specs.Reading.{Read, after}
use Rattle.room_lines.specs.Lines.{verb_word, verbs, verb_among, verb_at}
use Rattle.command_text.proofs.ListParts.{two_cuts, ok_is, left_of}
use Rattle.command_text.proofs.PartLaws.{Open, Begun, IsPart}
use Rattle.command_text.proofs.WordLaws.{after-takes, after-stuck, after-reach, left_behind}

abbrev pub VerbText : Verb → List ℕ → Type 0
VerbText v t = t ≡ verb_word v

again_word : (v : Verb) (rest : List ℕ) → verb_at (verb_word v ++ rest) ≡ Ok (v, rest)
unfolding verb_at verb_among after
again_word verb.Room rest = refl
again_word verb.Quit rest = refl

-- no word begins another
words_apart : (v w : Verb) (s : List ℕ) → verb_word v ≡ verb_word w ++ s → s ≡ []
words_apart v w s e =
    let both = sym (again_word v []) ∙ ap verb_at (append-nil (verb_word v) ∙ e) ∙ again_word w s in
    sym (ap (λ (x : Verb × List ℕ). x.1) (ok_is (v, []) (w, s) both))

abbrev pub verb_or : Verb → ℕ → List Verb → List ℕ → Result (List ℕ) ℕ → Read Verb
verb_or v left vs bytes (Ok rest) = Ok (v, rest)
verb_or v left vs bytes (Err short) = verb_among (min left short) vs bytes

abbrev IsAmong : Verb → List Verb → Type 0
IsAmong v [] = ⊥
IsAmong v (w ∷ ws) = (v ≡ w) ⊎ IsAmong v ws

among_takes : (left : ℕ) (vs : List Verb) (bytes : List ℕ) (v : Verb) (rest : List ℕ) →
    verb_among left vs bytes ≡ Ok (v, rest) → bytes ≡ verb_word v ++ rest
unfolding verb_among
among_takes left [] bytes v rest e = absurd cc
among_takes left (w ∷ ws) bytes v rest e =
    elim (after (verb_word w) bytes) as (λ r. after (verb_word w) bytes ≡ r →
    verb_or w left ws bytes r ≡ Ok (v, rest) → bytes ≡ verb_word v ++ rest) [
      | Ok others ↦ λ h f. let same = ok_is (w, others) (v, rest) f in
          after-takes (verb_word w) bytes others h ∙
          (λ i. verb_word ((ap (λ (x : Verb × List ℕ). x.0) same) i) ++ ap
          (λ (x : Verb × List ℕ). x.1) same i)
      | Err short ↦ λ h f. among_takes (min left short) ws bytes v rest f
    ] refl e

-- the least of what is left
among_least : (left : ℕ) (vs : List Verb) (bytes : List ℕ) (found : ℕ) → verb_among left vs bytes ≡ Err found →
    found ≤ left
unfolding verb_among
among_least left [] bytes found e = let same : left ≡ found = cc in omega arith
among_least left (w ∷ ws) bytes found e =
    elim (after (verb_word w) bytes) as (λ r.
    verb_or w left ws bytes r ≡ Err found → found ≤ left) [
      | Ok others ↦ λ f. absurd cc
      | Err short ↦ λ f. let l = among_least (min left short) ws bytes found f in omega arith
    ] e

among_le : (left : ℕ) (vs : List Verb) (bytes : List ℕ) (found : ℕ) (v : Verb) →
    verb_among left vs bytes ≡ Err found → IsAmong v vs →
    found ≤ left_behind (after (verb_word v) bytes)
unfolding verb_among
among_le left [] bytes found v e h = absurd h
among_le left (w ∷ ws) bytes found v e h =
    elim (after (verb_word w) bytes) as (λ r. after (verb_word w) bytes ≡ r →
    verb_or w left ws bytes r ≡ Err found → found ≤ left_behind (after (verb_word v) bytes)) [
      | Ok others ↦ λ k f. absurd cc
      | Err short ↦ λ k f. elim h [
        | inl same ↦
            let l = among_least (min left short) ws bytes found f in
            let e : left_behind (after (verb_word v) bytes) ≡ short = ap
            (λ u. left_behind (after (verb_word u) bytes)) same ∙ ap left_behind k in
            omega arith
        | inr later ↦ among_le (min left short) ws bytes found v f later
      ]
    ] refl e

among_stuck : (left : ℕ) (vs : List Verb) (bytes : List ℕ) (found : ℕ) → verb_among left vs bytes ≡ Err found →
    Begun VerbText bytes left → Begun VerbText bytes found
unfolding verb_among
among_stuck left [] bytes found e b = let same : left ≡ found = cc in subst (Begun VerbText bytes) same b
among_stuck left (w ∷ ws) bytes found e b =
    elim (after (verb_word w) bytes) as (λ r. after (verb_word w) bytes ≡ r →
    verb_or w left ws bytes r ≡ Err found → Begun VerbText bytes found) [
      | Ok others ↦ λ k f. absurd cc
      | Err short ↦ λ k f. among_stuck (min left short) ws bytes found f (
          let s = after-stuck (verb_word w) bytes short k in
          elim (least_is left short) [
            | inl e ↦ subst (Begun VerbText bytes) (sym e) b
            | inr e ↦ subst (Begun VerbText bytes) (sym e) (record {
              front = s.front;
              back = s.back;
              a = w;
              more = s.more;
              is_text = sym s.is_word;
              is = s.is;
              left_is = s.left_is;
            })
          ])
    ] refl e
  where
    least_is : (a b : ℕ) → (min a b ≡ a) ⊎ (min a b ≡ b)
    least_is a b = elim (cases_lt a b) [ inl l ↦ inl (omega arith) | inr l ↦ inr (omega arith) ]

among_all : (v : Verb) → IsAmong v verbs
among_all verb.Room = inl refl
among_all verb.Quit = inr (inl refl)

verb_reach : (v : Verb) (p z y : List ℕ) → p ++ z ≡ verb_word v → left_of (verb_at (p ++ y)) ≤ length y
unfolding verb_at
verb_reach v p z y h =
    elim (verb_among (length (p ++ y)) verbs (p ++ y)) as
    (λ r. verb_among (length (p ++ y)) verbs (p ++ y) ≡ r → left_of r ≤ length y) [
      | Ok found ↦ λ e. matched found.0 found.1 (among_takes (length (p ++ y)) verbs (p ++ y) found.0 found.1 e)
      | Err found ↦ λ e.
          let l = among_le (length (p ++ y)) verbs (p ++ y) found v e (among_all v) in
          let far = subst (λ (w : List ℕ). left_behind (after w (p ++ y)) ≤ length y) h (after-reach p z y) in
          omega arith
    ] refl
  where
    matched : (w : Verb) (rest : List ℕ) → p ++ y ≡ verb_word w ++ rest → length rest ≤ length y
    matched w rest e = elim (two_cuts p y (verb_word w) rest e) [
      | inl u ↦
          let all : verb_word v ≡ verb_word w ++ (u.0 ++ z) = sym h ∙ ap (λ x. x ++ z) u.1 ∙ append_assoc
          (verb_word w) u.0 z in
          let none = ap length (words_apart v w (u.0 ++ z) all) in
          let parts = length-append u.0 z in
          let more = length-append u.0 y in
          let rest_is = ap length u.2 in
          omega arith
      | inr u ↦ let more = length-append u.0 rest in let y_is = ap length u.2 in omega arith
    ]

pub verb-part : IsPart Open VerbText verb_at
unfolding verb_at
verb-part = record {
  some = (verb.Room, codes "room", refl);
  takes = λ bytes v rest e. record {
    text = verb_word v;
    is_text = refl;
    is = among_takes
        (length bytes) verbs bytes v rest e;
  };
  stuck = λ bytes left e. among_stuck (length bytes) verbs bytes left e
      (record { front = []; back = bytes; a = verb.Room; more = codes "room"; is_text = refl; is = refl; left_is = refl });
  again = λ v t rest h ends. ap (λ u. verb_at (u ++ rest)) h ∙ again_word v rest;
  reach = verb_reach;
}
