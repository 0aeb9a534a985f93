-- Plain words are values.
use Rattle.std.proofs.Common.{◌≡◌, ◌≢◌, ◌∙◌, ℕ, false, ◌==◌, List, [], ◌∷◌, refl, ap, arith}
use Rattle.std.proofs.lemmas.Bool.Decides.{nat_tests}
use Rattle.std.proofs.lemmas.List.Elements.{All-head, All-tail}
use Rattle.std.specs.Prelude.{Some, bytes_eq, option_and_then}
use Rattle.std.specs.List.{All}
use Rattle.clap.specs.Walk.{Text}
use Rattle.eon_model.specs.Modes.{is_option, task_of_values, values_of}
use Rattle.plan_words.specs.Laws.{IsPlain, PlainWordsAreWords}
use Rattle.plan_words.proofs.TaskLaws.{words_ask}

other_byte : (b : ℕ) → b ≢ 45 → (b == 45) ≡ false
other_byte b h = grind (arith, nat_tests)

plain_is_no_mark : (word : Text) → IsPlain word → bytes_eq word (45 ∷ 45 ∷ []) ≡ false
plain_is_no_mark [] p = absurd p
plain_is_no_mark (b ∷ word) p = let e : (b == 45) ≡ false = other_byte b p in rw e refl

plain_is_no_option : (word : Text) → IsPlain word → is_option word ≡ false
plain_is_no_option [] p = absurd p
plain_is_no_option (b ∷ word) p = let e : (b == 45) ≡ false = other_byte b p in rw e refl

plain_values : (texts : List Text) → All IsPlain texts → values_of texts ≡ Some texts
plain_values [] p = refl
plain_values (word ∷ texts) p =
    let first = All-head IsPlain word texts p in
    let later = plain_values texts (All-tail IsPlain word texts p) in
    rw (plain_is_no_mark word first, plain_is_no_option word first, later) refl

pub plain_ask : PlainWordsAreWords
plain_ask texts task p h =
    words_ask texts task (ap (option_and_then task_of_values) (plain_values texts p) ∙ h)
