-- A read at a place within some bytes.
use Rattle.std.proofs.Common.{◌≡◌, ℕ, ◌+◌, ◌-◌, ◌<◌, ◌≤◌, min, List, [], ◌++◌, length, take, drop, sym, ap, ◌∙◌, arith}
use Rattle.std.proofs.lemmas.List.{take-append-drop, drop-drop, drop_all, length-drop, take_rest}

-- what was read stands before what is left, and nothing is left where nothing was read into a buffer with room
pub read_on : (left all old new : List ℕ) (at count most : ℕ) → left ≡ drop at all → at ≤ length all → 0 < most → length new ≡ length old
    → count ≡ min most (min (length old) (length (take (length all - at) (drop at all))))
    → take count new ≡ take count (take (length all - at) (drop at all))
    → (left ≡ take count new ++ drop (at + count) all) × (count ≡ 0 → 0 < length new → drop (at + count) all ≡ [])
read_on left all old new at count most is within some same counts copied =
    let front : take count new ≡ take count (drop at all) = copied ∙ ap (take count) (take_rest all at) in
    let size : length (take (length all - at) (drop at all)) ≡ length all - at = ap length (take_rest all at) ∙ length-drop at all in (
      is ∙ sym (take-append-drop count (drop at all)) ∙ ap (λ v. v ++ drop count (drop at all)) (sym front)
          ∙ ap (λ v. take count new ++ v) (drop-drop count at all),
      λ none room. drop_all (at + count) all (omega arith),
    )
