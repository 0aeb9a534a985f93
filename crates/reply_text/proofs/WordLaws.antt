-- Names behind commas, and words of what may be there.
use Rattle.std.proofs.Common.{◌≡◌, refl, sym, ◌∙◌, ap, subst, ℕ, zero, suc, ◌+◌, ◌<◌, ◌≤◌, List, [], ◌∷◌, ◌++◌, length, take, get_or, Option, Some, None, append_assoc, arith}
use Rattle.std.proofs.lemmas.List.{append-nil, take_more, map-append, length-map, length-take-le}
use Rattle.std.specs.Option.{option_to_list}
use Rattle.std.specs.List.{flat_map}
use Rattle.eon_model.specs.Network.{Fibre, fibre_at, names_of_fibres}
use Rattle.eon_model.specs.Spelling.{fibre_list}
use Rattle.line_writer.specs.Words.{behind}
use Rattle.line_writer.specs.Sent.{Sent, Takes}
use Rattle.line_writer.proofs.TakesLaws.{takes-both, takes-same, takes-none}
use Rattle.line_writer.proofs.WordLaws.{no_word}
use Rattle.reply_text.specs.Words.{comma_at}

-- ---- names behind commas

listed-push : (ws : List (List ℕ)) (w : List ℕ) →
    fibre_list (ws ++ w ∷ []) ≡ fibre_list ws ++ (comma_at (length ws) ++ w)
unfolding comma_at
listed-push [] w = refl
listed-push (v ∷ []) w = refl
listed-push (v ∷ u ∷ ws) w =
    ap (λ x. v ++ 44 ∷ x) (listed-push (u ∷ ws) w)
    ∙ sym (append_assoc v (44 ∷ fibre_list (u ∷ ws)) (comma_at (length (u ∷ ws)) ++ w))

-- no comma at the first place
pub no_comma : (a : Sent) (i : ℕ) → i ≤ 0 → Takes a a (comma_at i)
unfolding comma_at
no_comma a zero l = takes-none a
no_comma a (suc i) l = absurd (omega arith)

-- and one at each other
pub comma_taken : (a b : Sent) (i : ℕ) → 0 < i → Takes a b (44 ∷ []) → Takes a b (comma_at i)
unfolding comma_at
comma_taken a b zero l p = absurd (omega arith)
comma_taken a b (suc i) l p = p

-- no fibre yet
pub none_listed : (fs : List Fibre) (xs : List ℕ) (a : Sent) → Takes a a (fibre_list (names_of_fibres fs (take 0 xs)))
none_listed fs xs a = takes-none a

-- one fibre more
pub next_fibre : (fs : List Fibre) (xs : List ℕ) (i : ℕ) (a b c : Sent) → i < length xs →
    Takes a b (fibre_list (names_of_fibres fs (take i xs))) →
    Takes b c (comma_at i ++ (fibre_at fs (get_or xs i 0)).name) →
    Takes a c (fibre_list (names_of_fibres fs (take (i + 1) xs)))
next_fibre fs xs i a b c l p q =
    let before = names_of_fibres fs (take i xs) in
    let name = (fibre_at fs (get_or xs i 0)).name in
    let count : length before ≡ i = length-map (take i xs) (λ (n : ℕ). (fibre_at fs n).name) ∙ length-take-le i xs (omega arith) in
    rw (take_more xs i 0 l, map-append (λ (n : ℕ). (fibre_at fs n).name) (take i xs) (get_or xs i 0 ∷ []))
    (takes-same a c _ _
    (ap (λ k. fibre_list before ++ (comma_at k ++ name)) (sym count) ∙ sym (listed-push before name))
    (takes-both a b c (fibre_list before) (comma_at i ++ name) p q))

-- ---- what may be there

-- it is there
pub found_words : {X : Type 0} (f : X → List (List ℕ)) (o : Option X) (x : X) (a b : Sent) → Some x ≡ o →
    Takes a b (behind (f x)) → Takes a b (behind (flat_map f (option_to_list o)))
found_words f o x a b e p = subst (λ (v : Option _). Takes a b (behind (flat_map f (option_to_list v)))) e
    (takes-same a b _ _ (ap behind (sym (append-nil (f x)))) p)

-- it is not
pub no_words : {X : Type 0} (f : X → List (List ℕ)) (o : Option X) (a : Sent) → None ≡ o →
    Takes a a (behind (flat_map f (option_to_list o)))
no_words f o a e = subst (λ (v : Option _). Takes a a (behind (flat_map f (option_to_list v)))) e (no_word a)

-- the text of what is there
pub found_text : {X : Type 0} (f : X → List ℕ) (o : Option X) (x : X) (a b : Sent) → Some x ≡ o →
    Takes a b (f x) → Takes a b (flat_map f (option_to_list o))
found_text f o x a b e p = subst (λ (v : Option _). Takes a b (flat_map f (option_to_list v))) e
    (takes-same a b _ _ (sym (append-nil (f x))) p)

-- and of nothing
pub no_text : {X : Type 0} (f : X → List ℕ) (o : Option X) (a : Sent) → None ≡ o →
    Takes a a (flat_map f (option_to_list o))
no_text f o a e = subst (λ (v : Option _). Takes a a (flat_map f (option_to_list v))) e (takes-none a)
