-- Words that are taken one after the other.
use Rattle.std.proofs.Common.{◌≡◌, refl, sym, ◌∙◌, ap, ℕ, ◌+◌, ◌<◌, List, [], ◌∷◌, ◌++◌, length, map, take, get_or, Bor, append_assoc}
use Rattle.std.proofs.lemmas.List.{append-nil, map-append, take_more}
use Rattle.eon_model.specs.Spelling.{spaced, line}
use Rattle.line_writer.specs.Words.{behind}
use Rattle.line_writer.specs.Sent.{Sent, Takes}
use Rattle.line_writer.proofs.TakesLaws.{takes-both, takes-same, takes-none}

-- a word and those behind it, as one text
pub spaced-behind : (w : List ℕ) (ws : List (List ℕ)) → spaced (w ∷ ws) ≡ w ++ behind ws
unfolding behind
spaced-behind w [] = sym (append-nil w)
spaced-behind w (v ∷ ws) = ap (λ (xs : List ℕ). w ++ 32 ∷ xs) (spaced-behind v ws)

pub behind-append : (vs ws : List (List ℕ)) → behind (vs ++ ws) ≡ behind vs ++ behind ws
unfolding behind
behind-append [] ws = refl
behind-append (v ∷ vs) ws =
    ap (λ (xs : List ℕ). 32 ∷ v ++ xs) (behind-append vs ws)
    ∙ ap (λ (xs : List ℕ). 32 ∷ xs) (sym (append_assoc v (behind vs) (behind ws)))

-- one word behind a space
pub behind-one : (w : List ℕ) → 32 ∷ w ≡ behind (w ∷ [])
unfolding behind
behind-one w = ap (λ v. 32 ∷ v) (sym (append-nil w))

-- a space and a word
pub one_word : (a b c : Sent) (w : List ℕ) → Takes a b (32 ∷ []) → Takes b c w → Takes a c (behind (w ∷ []))
one_word a b c w p q = takes-same a c _ _ (behind-one w) (takes-both a b c (32 ∷ []) w p q)

-- these words and then those
pub words_both : (a b c : Sent) (vs ws : List (List ℕ)) → Takes a b (behind vs) → Takes b c (behind ws) →
    Takes a c (behind (vs ++ ws))
words_both a b c vs ws p q = takes-same a c _ _ (sym (behind-append vs ws)) (takes-both a b c (behind vs) (behind ws) p q)

-- one word and then those
pub word_then : (a b c : Sent) (v : List ℕ) (ws : List (List ℕ)) → Takes a b (behind (v ∷ [])) → Takes b c (behind ws) →
    Takes a c (behind (v ∷ ws))
word_then a b c v ws p q = words_both a b c (v ∷ []) ws p q

pub words_three : (a b c d : Sent) (us vs ws : List (List ℕ)) → Takes a b (behind us) → Takes b c (behind vs) →
    Takes c d (behind ws) → Takes a d (behind (us ++ vs ++ ws))
words_three a b c d us vs ws p q r = words_both a c d (us ++ vs) ws (words_both a b c us vs p q) r

-- no word
pub no_word : (a : Sent) → Takes a a (behind [])
unfolding behind
no_word a = takes-none a

line_is : (w : List ℕ) (ws : List (List ℕ)) → line (w ∷ ws) ≡ w ++ (behind ws ++ 10 ∷ [])
line_is w ws = ap (λ v. v ++ 10 ∷ []) (spaced-behind w ws) ∙ append_assoc w (behind ws) (10 ∷ [])

-- a first word, the words behind it, and the end of the line
pub line_taken : (a b c d : Sent) (w : List ℕ) (ws : List (List ℕ)) → Takes a b w → Takes b c (behind ws) →
    Takes c d (10 ∷ []) → Takes a d (line (w ∷ ws))
line_taken a b c d w ws p q r = takes-same a d _ _ (sym (line_is w ws))
    (takes-both a b d w (behind ws ++ 10 ∷ []) p (takes-both b c d (behind ws) (10 ∷ []) q r))

-- a line of one word
pub word_alone : (a b c : Sent) (w : List ℕ) → Takes a b w → Takes b c (10 ∷ []) → Takes a c (line (w ∷ []))
word_alone a b c w p q = line_taken a b b c w [] p (no_word b) q

-- the end of a line that was begun
pub line_ended : (a b c : Sent) (w : List ℕ) (vs : List (List ℕ)) → Takes a b (w ++ behind vs) → Takes b c (10 ∷ []) →
    Takes a c (line (w ∷ vs))
line_ended a b c w vs p q = takes-same a c _ _ (append_assoc w (behind vs) (10 ∷ []) ∙ sym (line_is w vs))
    (takes-both a b c (w ++ behind vs) (10 ∷ []) p q)

-- the other words of a line that was begun, and its end
pub line_on : (a b c d : Sent) (w : List ℕ) (vs ws : List (List ℕ)) → Takes a b (w ++ behind vs) → Takes b c (behind ws) →
    Takes c d (10 ∷ []) → Takes a d (line (w ∷ (vs ++ ws)))
line_on a b c d w vs ws p q r = line_ended a c d w (vs ++ ws)
    (takes-same a c _ _ (append_assoc w (behind vs) (behind ws) ∙ ap (λ x. w ++ x) (sym (behind-append vs ws)))
    (takes-both a b c (w ++ behind vs) (behind ws) p q)) r

pub ruleset words = (words_both, word_then, no_word, line_taken, word_alone)

-- one more word of a slice
pub next_word : (ws : List (Bor (List ℕ))) (i : ℕ) (d : Bor (List ℕ)) (a b c : Sent) → i < length ws →
    Takes a b (behind (map (λ w. w.now) (take i ws))) → Takes b c (behind ((get_or ws i d).now ∷ [])) →
    Takes a c (behind (map (λ w. w.now) (take (i + 1) ws)))
next_word ws i d a b c l p q =
    rw (take_more ws i d l, map-append (λ (w : Bor (List ℕ)). w.now) (take i ws) (get_or ws i d ∷ []))
    (words_both a b c (map (λ (w : Bor (List ℕ)). w.now) (take i ws)) ((get_or ws i d).now ∷ []) p q)
