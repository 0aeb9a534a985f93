-- Which words ask for a task.
use Rattle.std.specs.Prelude.{◌≡◌, ◌≢◌, List, [], ◌∷◌, Some}
use Rattle.std.specs.List.{All}
use Rattle.std.specs.Str.{IsUtf8}
use Rattle.clap.specs.Walk.{Text}
use Rattle.eon_model.specs.Modes.{Task, task_of, task_of_values}
use Rattle.plan_words.specs.AreWords.{AskFor}

-- not empty, and not begun by `-`
abbrev pub IsPlain : Text → Type 0
IsPlain [] = ⊥
IsPlain (b ∷ word) = b ≢ 45

-- plain words that are those of a mode ask for its task
abbrev pub PlainWordsAreWords : Type 0
PlainWordsAreWords =
    (texts : List Text) (task : Task) → All IsPlain texts → task_of_values texts ≡ Some task → AskFor texts task

-- words ask for the task that is theirs
abbrev pub WordsAskForTheirTask : Type 0
WordsAskForTheirTask = (texts : List Text) (task : Task) → task_of texts ≡ Some task → AskFor texts task

-- the task that words ask for is theirs
abbrev pub TheirTaskIsAskedFor : Type 0
TheirTaskIsAskedFor =
    (texts : List Text) (task : Task) → All IsUtf8 texts → AskFor texts task → task_of texts ≡ Some task
