-- clap's walk over all the words of the command line.
use Rattle.std.proofs.Common.{◌≡◌, ◌∙◌, Bool, true, false, cond, List, [], ◌∷◌, ◌++◌, fold, refl, sym, ap, ap₂, append-nil, append_assoc}
use Rattle.std.specs.Prelude.{Option, Some, None, option_map, bytes_eq}
use Rattle.clap.specs.Walk.{Text, Walk, walked}
use Rattle.clap.specs.Kinds.{or_else}
use Rattle.clap.specs.Faults.{walk_fault}
use Rattle.eon_model.specs.Modes.{is_option, values_of}
use Rattle.plan_words.proofs.WalkStates.{Goes, line_built, state, value_word, goes_behind, goes_on, goes_through}

abbrev pub end_of : Walk → List Text → Walk
end_of w words = fold (walked line_built.rules []) w words

-- the walk over these words ends in this state, and found no fault
pub record Runs (before : Walk) (words : List Text) (after : Walk) : Type 0 where
  pub to : end_of before words ≡ after
  pub well : walk_fault line_built [] before words ≡ []

-- a run behind a step
begun_by : (before middle after : Walk) (word : Text) (words : List Text) → Goes before word middle
    → Runs middle words after → Runs before (word ∷ words) after
unfolding walk_fault
begun_by before middle after word words step run = record {
  to = ap (λ (w : Walk). end_of w words) step.to ∙ run.to;
  well = ap₂ or_else step.well (ap (λ (w : Walk). walk_fault line_built [] w words) step.to ∙ run.well);
}

ends_at : (before after after' : Walk) (words : List Text) → after ≡ after' → Runs before words after
    → Runs before words after'
ends_at before after after' words e run = record { to = run.to ∙ e; well = run.well }

no_words : (before : Walk) → Runs before [] before
unfolding walk_fault
no_words before = record { to = refl; well = refl }

-- behind a `--` all words are values
pub runs_behind : (values words : List Text) → Runs (state true values) words (state true (values ++ words))
runs_behind values [] =
    ends_at _ _ _ _ (ap (λ (vs : List Text). state true vs) (sym (append-nil values))) (no_words (state true values))
runs_behind values (word ∷ words) =
    begun_by (state true values) (state true (values ++ word ∷ [])) (state true (values ++ word ∷ words)) word words
    (goes_behind values word)
    (ends_at (state true (values ++ word ∷ [])) (state true ((values ++ word ∷ []) ++ words))
    (state true (values ++ word ∷ words)) words
    (ap (λ (vs : List Text). state true vs) (append_assoc values (word ∷ []) words))
    (runs_behind (values ++ word ∷ []) words))

-- ---- words whose values are known

abbrev pub RunsToValues : List Text → List Text → List Text → Type 0
RunsToValues before words values = (t : Bool) × Runs (state false before) words (state t (before ++ values))

-- a word that is a value, before words of which that holds
value_first : (before : List Text) (word : Text) (words : List Text) (later : Option (List Text)) (values : List Text)
    → values_of words ≡ later → bytes_eq word (45 ∷ 45 ∷ []) ≡ false → is_option word ≡ false
    → ((vs : List Text) → values_of words ≡ Some vs → RunsToValues (before ++ word ∷ []) words vs)
    → option_map (λ (vs : List Text). word ∷ vs) later ≡ Some values → RunsToValues before (word ∷ words) values
value_first before word words None values is d o runs h = let bad : None ≡ Some values = h in absurd (cc)
value_first before word words (Some vs) values is d o runs h =
    let same : word ∷ vs ≡ values = cc in
    let run = runs vs is in (
      run.0,
      begun_by (state false before) (state false (before ++ word ∷ [])) (state run.0 (before ++ values)) word words
          (goes_on before word (value_word word d o))
          (ends_at (state false (before ++ word ∷ [])) (state run.0 ((before ++ word ∷ []) ++ vs))
          (state run.0 (before ++ values)) words
          (ap (λ (vs : List Text). state run.0 vs)
          (append_assoc before (word ∷ []) vs ∙ ap (λ (vs : List Text). before ++ vs) same)) run.1),
    )

unmarked : (before : List Text) (word : Text) (words values : List Text) (o : Bool) → is_option word ≡ o
    → bytes_eq word (45 ∷ 45 ∷ []) ≡ false
    → ((vs : List Text) → values_of words ≡ Some vs → RunsToValues (before ++ word ∷ []) words vs)
    → cond o None (option_map (λ (vs : List Text). word ∷ vs) (values_of words)) ≡ Some values
    → RunsToValues before (word ∷ words) values
unmarked before word words values true is d runs h =
    let bad : None ≡ Some values = h in absurd (cc)
unmarked before word words values false is d runs h =
    value_first before word words (values_of words) values refl d is runs h

marked_or_not : (before : List Text) (word : Text) (words values : List Text) (d : Bool)
    → bytes_eq word (45 ∷ 45 ∷ []) ≡ d
    → ((vs : List Text) → values_of words ≡ Some vs → RunsToValues (before ++ word ∷ []) words vs)
    → cond d (Some words) (cond (is_option word) None (option_map (λ (vs : List Text). word ∷ vs) (values_of words)))
    ≡ Some values
    → RunsToValues before (word ∷ words) values
marked_or_not before word words values true is runs h =
    let same : words ≡ values = cc in (
      true,
      begun_by (state false before) (state true before) (state true (before ++ values)) word words
          (goes_through before word is)
          (ends_at (state true before) (state true (before ++ words)) (state true (before ++ values)) words
          (ap (λ (vs : List Text). state true (before ++ vs)) same) (runs_behind before words)),
    )
marked_or_not before word words values false is runs h =
    unmarked before word words values (is_option word) refl is runs h

pub runs_to_values : (before words values : List Text) → values_of words ≡ Some values
    → RunsToValues before words values
runs_to_values before [] values h =
    let same : [] ≡ values = cc in (
      false,
      ends_at (state false before) (state false before) (state false (before ++ values)) []
          (ap (λ (vs : List Text). state false vs) (sym (append-nil before) ∙ ap (λ (vs : List Text). before ++ vs) same))
          (no_words (state false before)),
    )
runs_to_values before (word ∷ words) values h =
    marked_or_not before word words values (bytes_eq word (45 ∷ 45 ∷ [])) refl
    (runs_to_values (before ++ word ∷ []) words) h
