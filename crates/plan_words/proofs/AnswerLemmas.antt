-- From what words ask for to the task that is theirs.
use Rattle.std.proofs.Common.{◌≡◌, String, List, get_or, map, refl}
use Rattle.std.proofs.lemmas.Result.{IfErr-weaker, IfOk-weaker}
use Rattle.std.proofs.lemmas.List.Elements.{All-map}
use Rattle.std.proofs.lemmas.Str.{IsUtf8-string_bytes}
use Rattle.std.specs.Prelude.{Option, Some, None, Result, IfOk, IfErr, string_bytes}
use Rattle.std.specs.List.{All}
use Rattle.std.specs.Str.{IsUtf8}
use Rattle.clap.specs.Walk.{Text}
use Rattle.eon_model.specs.Modes.{Task, task_of}
use Rattle.plan_words.specs.declared.words.Words.{Words}
use Rattle.plan_words.specs.declared.words.WordsFault.{WordsFault}
use Rattle.plan_words.specs.declared.words.WordsFault.TheVariants.{Refused}
use Rattle.plan_words.specs.AreWords.{AreWords, AskFor, task_asked}
use Rattle.plan_words.proofs.TaskLaws.{words_ask}
use Rattle.plan_words.proofs.UnknownLaws.{asked_is_theirs}

-- the bytes of strings are texts
pub strings_are_texts : {Z : Type 0} (words : List (String Z)) → All IsUtf8 (map string_bytes words)
strings_are_texts {Z} words = All-map IsUtf8 (string_bytes {Z = Z}) words (λ k d lt. IsUtf8-string_bytes (get_or words k d))

-- what the words ask for is their task
pub answer_is_their_task : (texts : List Text) (r : Result Words WordsFault) → All IsUtf8 texts → IfOk r (AreWords texts)
    → IfOk r (λ w. task_of texts ≡ Some (task_asked w))
answer_is_their_task texts r u ok =
    IfOk-weaker r _ _ (λ (w : Words) (a : AreWords texts w). asked_is_theirs texts (task_asked w) u a) ok

no_task_by : (texts : List Text) (task : Option Task) → task_of texts ≡ task
    → ((t : Task) → AskFor texts t → ⊥) → task_of texts ≡ None
no_task_by texts None is none = is
no_task_by texts (Some t) is none = absurd (none t (words_ask texts t is))

-- words that ask for nothing have no task
pub none_asked : (texts : List Text) → ((task : Task) → AskFor texts task → ⊥) → task_of texts ≡ None
none_asked texts none = no_task_by texts (task_of texts) refl none

pub refused_have_none : (texts : List Text) (r : Result Words WordsFault)
    → IfErr r (λ e. e ≡ Refused → (task : Task) → AskFor texts task → ⊥)
    → IfErr r (λ e. e ≡ Refused → task_of texts ≡ None)
refused_have_none texts r refused =
    IfErr-weaker r _ _ (λ (e : WordsFault) (h : e ≡ Refused → (task : Task) → AskFor texts task → ⊥).
    λ (is : e ≡ Refused). none_asked texts (h is)) refused
