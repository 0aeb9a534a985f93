-- From what clap gives to what the words ask for.
use Rattle.std.proofs.Common.{◌≡◌, ◌∙◌, ◌↔◌, List, [], ◌∷◌, map, codes, sym, ap, ap₂, subst, inl, inr}
use Rattle.std.specs.Prelude.{Option, Some, None, Result, option_map, unwrap_or, IfOk, IfErr}
use Rattle.std.specs.Option.{option_map_or, ok_or}
use Rattle.std.specs.Borrow.{Bor}
use Rattle.clap.specs.Walk.{Row, Text, first_of, all_of, rows_of}
use Rattle.clap.specs.Matches.{first_value, matched_of, raw_values}
use Rattle.clap.specs.Kinds.{HasKind, IsAmong, Kinds}
use Rattle.clap.specs.Values.{kind_of}
use Rattle.clap.specs.Simple.{matches_of}
use Rattle.clap.specs.Faults.{fault_of}
use Rattle.clap.specs.declared.error.Error.{Error}
use Rattle.clap.specs.declared.error.kind.ErrorKind.TheVariants as kind
use Rattle.clap.specs.declared.parser.matches.Found.{Found}
use Rattle.clap.proofs.WalkLemmas.{first_value-rows, raw_values-rows}
use Rattle.eon_model.specs.Modes.{Task, task_of_values}
use Rattle.plan_words.specs.declared.words.Words.{Words}
use Rattle.plan_words.specs.declared.words.WordsFault.{WordsFault}
use Rattle.plan_words.specs.declared.words.WordsFault.TheVariants.{Refused, Memory}
use Rattle.plan_words.specs.CommandLine.{eonplan_app, values_found}
use Rattle.plan_words.specs.AreWords.{AreWords, AskFor, task_asked}

-- ---- the values, by what the getters gave

abbrev together : Option Text → Option (List Text) → List Text
together mode names = option_map_or (λ m. m ∷ unwrap_or names []) mode []

abbrev bytes_of : Option (Bor Text) → Option Text
bytes_of = option_map (λ s. s.now)

abbrev bytes_of_each : Option (Bor (List (Bor Text))) → Option (List Text)
bytes_of_each = option_map (λ s. map (λ v. v.now) s.now)

mode_in : (f : Found) (mode : Option (Bor Text)) → bytes_of mode ≡ first_value f (codes "mode")
    → first_of (codes "mode") (rows_of f) ≡ bytes_of mode
mode_in f mode h = sym (h ∙ first_value-rows f (codes "mode"))

names_in : (f : Found) (names : Option (Bor (List (Bor Text))))
    → bytes_of_each names ≡ option_map raw_values (matched_of f (codes "names"))
    → all_of (codes "names") (rows_of f) ≡ bytes_of_each names
names_in f names h = sym (h ∙ raw_values-rows f (codes "names"))

pub no_mode_found : (f : Found) (mode : Option (Bor Text)) → bytes_of mode ≡ first_value f (codes "mode")
    → mode ≡ None → values_found (rows_of f) ≡ []
no_mode_found f mode h e =
    ap (λ (m : Option Text). together m (all_of (codes "names") (rows_of f))) (mode_in f mode h ∙ ap bytes_of e)

pub no_names_found : (f : Found) (mode : Option (Bor Text)) (names : Option (Bor (List (Bor Text)))) (m : Bor Text)
    → bytes_of mode ≡ first_value f (codes "mode")
    → bytes_of_each names ≡ option_map raw_values (matched_of f (codes "names"))
    → mode ≡ Some m → names ≡ None → values_found (rows_of f) ≡ m.now ∷ []
no_names_found f mode names m h i e d =
    ap₂ together (mode_in f mode h ∙ ap bytes_of e) (names_in f names i ∙ ap bytes_of_each d)

pub both_found : (f : Found) (mode : Option (Bor Text)) (names : Option (Bor (List (Bor Text)))) (m : Bor Text)
    (ns : Bor (List (Bor Text)))
    → bytes_of mode ≡ first_value f (codes "mode")
    → bytes_of_each names ≡ option_map raw_values (matched_of f (codes "names"))
    → mode ≡ Some m → names ≡ Some ns → values_found (rows_of f) ≡ m.now ∷ map (λ v. v.now) ns.now
both_found f mode names m ns h i e d =
    ap₂ together (mode_in f mode h ∙ ap bytes_of e) (names_in f names i ∙ ap bytes_of_each d)

-- ---- what is asked for

-- clap took the words, and its matches ask for this
taken_asks : (texts : List Text) (rows : List Row) (o : Option Words) → fault_of eonplan_app texts ≡ []
    → rows ≡ matches_of eonplan_app texts → option_map task_asked o ≡ task_of_values (values_found rows)
    → IfOk (ok_or o Refused) (AreWords texts)
taken_asks texts rows None taken same said = tt
taken_asks texts rows (Some w) taken same said =
    record { taken = taken; said = sym (said ∙ ap (λ (rs : List Row). task_of_values (values_found rs)) same) }

taken_refuses : (texts : List Text) (rows : List Row) (o : Option Words)
    → rows ≡ matches_of eonplan_app texts → option_map task_asked o ≡ task_of_values (values_found rows)
    → IfErr (ok_or o Refused) (λ e. e ≡ Refused → (task : Task) → AskFor texts task → ⊥)
taken_refuses texts rows (Some w) same said = tt
taken_refuses texts rows None same said = λ _ task asks.
    let bad : None ≡ Some task =
    said ∙ ap (λ (rs : List Row). task_of_values (values_found rs)) same ∙ asks.said in cc

-- the same of a result that is made of what they ask for
pub result_asks : (texts : List Text) (rows : List Row) (o : Option Words) (r : Result Words WordsFault)
    → r ≡ ok_or o Refused → fault_of eonplan_app texts ≡ []
    → rows ≡ matches_of eonplan_app texts → option_map task_asked o ≡ task_of_values (values_found rows)
    → IfOk r (AreWords texts)
result_asks texts rows o r is taken same said =
    subst (λ (x : Result Words WordsFault). IfOk x (AreWords texts)) (sym is) (taken_asks texts rows o taken same said)

pub result_refuses : (texts : List Text) (rows : List Row) (o : Option Words) (r : Result Words WordsFault)
    → r ≡ ok_or o Refused
    → rows ≡ matches_of eonplan_app texts → option_map task_asked o ≡ task_of_values (values_found rows)
    → IfErr r (λ e. e ≡ Refused → (task : Task) → AskFor texts task → ⊥)
result_refuses texts rows o r is same said =
    subst (λ (x : Result Words WordsFault). IfErr x (λ e. e ≡ Refused → (task : Task) → AskFor texts task → ⊥)) (sym is)
    (taken_refuses texts rows o same said)

-- clap did not take the words
pub untaken_refuses : (texts : List Text) (e : Error) (fault : WordsFault) → HasKind (fault_of eonplan_app texts) e
    → (fault ≡ Memory) ↔ (kind_of e ≡ kind.OutOfMemory) → fault ≡ Refused → (task : Task) → AskFor texts task → ⊥
untaken_refuses texts e fault (inl full) means refused task asks =
    let memory : fault ≡ Memory = means.1 full in cc
untaken_refuses texts e fault (inr among) means refused task asks =
    subst (λ (ks : Kinds). IsAmong (kind_of e) ks) asks.taken among
