-- Words that are put behind a text, each with a space before it.
use Rattle.std.proofs.Common.{◌≡◌, refl, ◌∙◌, ℕ, List, [], ◌∷◌, ◌++◌, append_assoc}
use Rattle.eon_model.specs.Spelling.{spaced}

pub more-words : (w x : List ℕ) (ws : List (List ℕ)) → spaced ((w ++ 32 ∷ x) ∷ ws) ≡ spaced (w ∷ x ∷ ws)
more-words w x [] = refl
more-words w x (v ∷ vs) = append_assoc w (32 ∷ x) (32 ∷ spaced (v ∷ vs))

pub five-words : (w a b c d e : List ℕ) →
    ((((w ++ 32 ∷ a) ++ 32 ∷ b) ++ 32 ∷ c) ++ 32 ∷ d) ++ 32 ∷ e ≡ spaced (w ∷ a ∷ b ∷ c ∷ d ∷ e ∷ [])
five-words w a b c d e =
    let one = w ++ 32 ∷ a in
    let two = one ++ 32 ∷ b in
    let three = two ++ 32 ∷ c in
    let four = three ++ 32 ∷ d in
    more-words four e [] ∙ more-words three d (e ∷ []) ∙ more-words two c (d ∷ e ∷ [])
    ∙ more-words one b (c ∷ d ∷ e ∷ []) ∙ more-words w a (b ∷ c ∷ d ∷ e ∷ [])
