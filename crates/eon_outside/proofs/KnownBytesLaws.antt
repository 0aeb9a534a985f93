-- Bytes that are given or taken in two steps.
use Rattle.std.proofs.Common.{ℕ, ◌+◌, ◌-◌, List, ◌++◌, length, take, drop, Option, None, Some, sym, ap, subst, ◌∙◌, append_assoc}
use Rattle.std.proofs.Math.Seq.{take-add}
use Rattle.std.proofs.lemmas.List.{take_rest}
use Rattle.std.specs.Io.KnownBytes.{Appends, Consumes}

pub appends_more : (a b c : Option (List ℕ)) (xs ys : List ℕ) → Appends a b xs → Appends b c ys → Appends a c (xs ++ ys)
appends_more None b c xs ys p q = tt
appends_more (Some os) None c xs ys p q = absurd p
appends_more (Some os) (Some bs) None xs ys p q = absurd q
appends_more (Some os) (Some bs) (Some cs) xs ys p q = q ∙ ap (λ v. v ++ ys) p ∙ append_assoc os xs ys

pub consumes_more : (a b c : Option (List ℕ)) (xs ys : List ℕ) → Consumes a b xs → Consumes b c ys → Consumes a c (xs ++ ys)
consumes_more None b c xs ys p q = tt
consumes_more (Some os) None c xs ys p q = absurd p
consumes_more (Some os) (Some bs) None xs ys p q = absurd q
consumes_more (Some os) (Some bs) (Some cs) xs ys p q = p ∙ ap (λ v. xs ++ v) q ∙ sym (append_assoc xs ys cs)

-- a piece of which the first `done` bytes were given, and then n of the others
pub appends_of_piece : (a b c : Option (List ℕ)) (piece : List ℕ) (done n : ℕ) → Appends a b (take done piece)
    → Appends b c (take n (take (length piece - done) (drop done piece))) → Appends a c (take (done + n) piece)
appends_of_piece a b c piece done n p q =
    let P : List ℕ → Type 0 = λ v. Appends b c (take n v) in
    let Q : List ℕ → Type 0 = λ v. Appends a c v in
    subst Q (sym (take-add done n piece)) (appends_more a b c _ _ p (subst P (take_rest piece done) q))
