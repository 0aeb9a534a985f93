-- The words that clap takes, by the task that is theirs.
use Rattle.std.proofs.Common.{◌≡◌, ◌∙◌, Bool, false, List, [], ◌∷◌, refl, ap, ap₂}
use Rattle.std.specs.Prelude.{Option, Some, None, option_and_then, is_some}
use Rattle.clap.specs.Walk.{Text, Walk, finished, nothing_held, settled, walk}
use Rattle.clap.specs.Kinds.{Kinds, or_else}
use Rattle.clap.specs.Simple.{built, entered, matches_of}
use Rattle.clap.specs.Faults.{check_fault, defaults_fault, entered_fault, fault_of, settle_fault, walk_fault}
use Rattle.clap.proofs.OnLiterals.{clap_on_literals}
use Rattle.eon_model.specs.Modes.{Task, task_of_values, values_of}
use Rattle.plan_words.specs.CommandLine.{eonplan_app, values_found}
use Rattle.plan_words.specs.AreWords.{AskFor}
use Rattle.plan_words.specs.Laws.{WordsAskForTheirTask}
use Rattle.plan_words.proofs.WalkStates.{line_built, state}
use Rattle.plan_words.proofs.WalkRuns.{runs_to_values}

-- ---- the end of the walk

-- what is wrong, by the faults of the walk and where it ended
abbrev pub fault_at : Kinds → Walk → Kinds
fault_at walking w =
    let stop = w.stopped in
    or_else walking
    (or_else (entered_fault (built eonplan_app) stop)
    (or_else (settle_fault line_built.rules line_built.args_override_self w.held)
    (or_else (defaults_fault (settled line_built.rules w.held).rows line_built.rules)
    (check_fault line_built (finished line_built.rules w.held) (is_some (entered (built eonplan_app) stop))))))

-- what was found
abbrev found_at : Walk → List Text
found_at w = values_found (finished line_built.rules w.held)

pub fault_is : (words : List Text) → fault_of eonplan_app words
    ≡ fault_at (walk_fault line_built [] (state false []) words) (walk line_built.rules [] nothing_held words)
fault_is words = refl

found_values : (t : Bool) (values : List Text) → found_at (state t values) ≡ values
found_values t [] = refl
found_values t (mode ∷ []) = refl
found_values t (mode ∷ name ∷ names) = refl

-- the values of a mode leave nothing wrong
well_ended : (t : Bool) (values : List Text) (task : Task) → task_of_values values ≡ Some task
    → fault_at [] (state t values) ≡ []
unfolding clap_on_literals
well_ended t [] task h = absurd (cc)
well_ended t (a ∷ []) task h = absurd (cc)
well_ended t (a ∷ b ∷ []) task h = absurd (cc)
well_ended t (a ∷ b ∷ c ∷ []) task h = refl
well_ended t (a ∷ b ∷ c ∷ d ∷ []) task h = refl
well_ended t (a ∷ b ∷ c ∷ d ∷ e ∷ rest) task h = absurd (cc)

-- ---- words that have a task ask for it

pub found_in : (words values : List Text) → values_of words ≡ Some values
    → values_found (matches_of eonplan_app words) ≡ values
found_in words values e =
    let run = runs_to_values [] words values e in
    ap found_at run.1.to ∙ found_values run.0 values

asks : (words : List Text) (values : Option (List Text)) (task : Task) → values_of words ≡ values
    → option_and_then task_of_values values ≡ Some task → AskFor words task
asks words None task e h = let bad : None ≡ Some task = h in absurd (cc)
asks words (Some values) task e h =
    let run = runs_to_values [] words values e in
    record {
      taken = fault_is words ∙ ap₂ fault_at run.1.well run.1.to ∙ well_ended run.0 values task h;
      said = ap task_of_values (found_in words values e) ∙ h;
    }

pub words_ask : WordsAskForTheirTask
words_ask words task h = asks words (values_of words) task refl h
