-- A line that is too long is told by its first bytes.
use Rattle.std.proofs.Common.{◌≡◌, ℕ, ◌<◌, Bool, false, List, length, take, arith}
use Rattle.std.proofs.lemmas.List.{length-take-le}
use Rattle.eon_model.specs.OneLine as one
use Rattle.line_session.specs.Lines.{most_kept}

-- a line of more than 4,096 bytes is not missed, and has the answer of its first 4,097
pub answers_long : {C A : Type 0} (IsLineOf : List ℕ → C → Type 0) (MayMiss : C → Type 0) (Does : C → A → Type 0)
    (at_fault : ℕ → A) (memory : A) (line : List ℕ) (m : Bool) (a : A) → 4096 < length line →
    one.AnswersBy IsLineOf MayMiss Does at_fault memory (take most_kept line) m a →
    (m ≡ false) × one.AnswersBy IsLineOf MayMiss Does at_fault memory line m a
answers_long IsLineOf MayMiss Does at_fault memory line m a more (one.Long x long e) = (x, one.Long x more e)
answers_long IsLineOf MayMiss Does at_fault memory line m a more (one.Fault p x short n f e) =
    let k = length-take-le most_kept line (omega arith) in absurd (omega arith)
answers_long IsLineOf MayMiss Does at_fault memory line m a more (one.Missed c x short l q e) =
    let k = length-take-le most_kept line (omega arith) in absurd (omega arith)
answers_long IsLineOf MayMiss Does at_fault memory line m a more (one.Answered c x short l k) =
    let s = length-take-le most_kept line (omega arith) in absurd (omega arith)
