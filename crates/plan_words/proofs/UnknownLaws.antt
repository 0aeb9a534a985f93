-- Words that clap takes have values.
use Rattle.std.proofs.Common.{◌≡◌, ◌∙◌, ℕ, Bool, true, false, ◌&&◌, ◌==◌, cond, List, [], ◌∷◌, ◌++◌, refl, sym, ap, ap₂, arith}
use Rattle.std.proofs.lemmas.Bool.Decides.{nat_tests}
use Rattle.std.proofs.lemmas.Str.{IsUtf8-drop, IsCharBoundary-after_ascii, encodes-chars}
use Rattle.std.proofs.lemmas.List.Elements.{All-head, All-tail}
use Rattle.std.specs.Prelude.{Option, Some, None, option_map, option_and_then, bytes_eq, slice_get}
use Rattle.std.specs.List.{All}
use Rattle.std.specs.Str.{IsUtf8, chars, encode_utf8_all}
use Rattle.clap.specs.Lexer.{long_of, short_of}
use Rattle.clap.specs.Walk.{Text, Walk, walked}
use Rattle.clap.specs.Kinds.{Kinds, or_else}
use Rattle.clap.specs.Faults.{flags_fault, turn_fault, walk_fault}
use Rattle.clap.specs.declared.error.kind.ErrorKind.TheVariants as kind
use Rattle.eon_model.specs.Modes.{is_option, task_of_values, values_of}
use Rattle.plan_words.specs.AreWords.{AskFor}
use Rattle.plan_words.specs.Laws.{TheirTaskIsAskedFor}
use Rattle.plan_words.proofs.WalkStates.{Goes, line_built, state, value_word, goes_on}
use Rattle.plan_words.proofs.TaskLaws.{fault_is, found_in}

-- ---- an option

-- the text begins with a character
pub record Begins (text : Text) : Type 0 where
  pub first : ℕ
  pub is : slice_get (chars text) 0 ≡ Some first

begins_by : (b : ℕ) (text : Text) (cs : List ℕ) → chars (b ∷ text) ≡ cs → IsUtf8 (b ∷ text) → Begins (b ∷ text)
begins_by b text [] is u =
    let bad : [] ≡ b ∷ text = sym (ap encode_utf8_all is) ∙ encodes-chars (b ∷ text) u in absurd (cc)
begins_by b text (x ∷ cs) is u = record { first = x; is = ap (λ (ds : List ℕ). slice_get ds 0) is }

-- what follows a dash begins with a character
begins_behind : (b c : ℕ) (rest : Text) → b ≡ 45 → IsUtf8 (b ∷ c ∷ rest) → Begins (c ∷ rest)
begins_behind b c rest e u =
    begins_by c rest (chars (c ∷ rest)) refl
    (IsUtf8-drop (b ∷ c ∷ rest) 1 u (IsCharBoundary-after_ascii (b ∷ c ∷ rest) 0 u (omega arith) (omega arith)))

-- what clap sees in a word of one dash
pub record IsFlagWord (word flags : Text) : Type 0 where
  pub no_dashes : bytes_eq word (45 ∷ 45 ∷ []) ≡ false
  pub not_long : long_of word ≡ None
  pub short : short_of word ≡ Some flags

flag_word : (b c : ℕ) (rest : Text) → (b == 45) ≡ true → (c == 45) ≡ false → IsFlagWord (b ∷ c ∷ rest) (c ∷ rest)
flag_word b c rest dash other = record {
  no_dashes = rw (dash, other) refl;
  not_long = rw (dash, other) refl;
  short = rw (dash, other) refl;
}

-- a flag of one dash is unknown
unknown_flag : (before : List Text) (word : Text) (c : ℕ) (rest : Text) → IsFlagWord word (c ∷ rest)
    → Begins (c ∷ rest) → turn_fault line_built [] (state false before) word ≡ kind.UnknownArgument ∷ []
unfolding flags_fault
unknown_flag [] word c rest f begins = rw (f.no_dashes, f.not_long, f.short, begins.is) refl
unknown_flag (mode ∷ []) word c rest f begins = rw (f.no_dashes, f.not_long, f.short, begins.is) refl
unknown_flag (mode ∷ name ∷ names) word c rest f begins = rw (f.no_dashes, f.not_long, f.short, begins.is) refl

-- so is one of two
unknown_long : (before : List Text) (b c x : ℕ) (rest : Text) → (b == 45) ≡ true → (c == 45) ≡ true
    → turn_fault line_built [] (state false before) (b ∷ c ∷ x ∷ rest) ≡ kind.UnknownArgument ∷ []
unknown_long [] b c x rest dash again = rw (dash, again) refl
unknown_long (mode ∷ []) b c x rest dash again = rw (dash, again) refl
unknown_long (mode ∷ name ∷ names) b c x rest dash again = rw (dash, again) refl

and_left : (t u : Bool) → (t && u) ≡ true → t ≡ true
and_left true u e = refl
and_left false u e = e

and_right : (t u : Bool) → (t && u) ≡ true → u ≡ true
and_right true u e = e
and_right false u e = let bad : false ≡ true = e in absurd (cc)

is_dash : (b : ℕ) → (b == 45) ≡ true → b ≡ 45
is_dash b e = grind (arith, nat_tests)

unknown_by : (before : List Text) (b c : ℕ) (rest : Text) (again : Bool) → (c == 45) ≡ again → (b == 45) ≡ true
    → bytes_eq (b ∷ c ∷ rest) (45 ∷ 45 ∷ []) ≡ false → IsUtf8 (b ∷ c ∷ rest)
    → turn_fault line_built [] (state false before) (b ∷ c ∷ rest) ≡ kind.UnknownArgument ∷ []
unknown_by before b c rest false other dash d u =
    unknown_flag before (b ∷ c ∷ rest) c rest (flag_word b c rest dash other) (begins_behind b c rest (is_dash b dash) u)
unknown_by before b c (x ∷ rest) true again dash d u = unknown_long before b c x rest dash again
unknown_by before b c [] true again dash d u =
    let marks : bytes_eq (b ∷ c ∷ []) (45 ∷ 45 ∷ []) ≡ true = rw (dash, again) refl in absurd (cc)

unknown : (before : List Text) (word : Text) → is_option word ≡ true
    → bytes_eq word (45 ∷ 45 ∷ []) ≡ false → IsUtf8 word
    → turn_fault line_built [] (state false before) word ≡ kind.UnknownArgument ∷ []
unknown before [] o d u = let bad : false ≡ true = o in absurd (cc)
unknown before (b ∷ []) o d u = let bad : false ≡ true = and_right (b == 45) false o in absurd (cc)
unknown before (b ∷ c ∷ rest) o d u =
    unknown_by before b c rest (c == 45) refl (and_left (b == 45) _ o) d u

-- ---- words with an option among them

-- the fault of the walk over the first word and the rest
abbrev faults_in_turn : Walk → Text → List Text → Kinds
faults_in_turn before word words =
    or_else (turn_fault line_built [] before word)
    (walk_fault line_built [] (walked line_built.rules [] before word) words)

faulty_step : (before : List Text) (word : Text) (words : List Text)
    → turn_fault line_built [] (state false before) word ≡ kind.UnknownArgument ∷ []
    → walk_fault line_built [] (state false before) (word ∷ words) ≡ [] → ⊥
unfolding walk_fault
faulty_step before word words e h =
    let bad : kind.UnknownArgument ∷ [] ≡ [] =
    sym (ap (λ (ks : Kinds). or_else ks (walk_fault line_built [] (walked line_built.rules [] (state false before) word) words)) e)
    ∙ h in cc

faultless_step : (before after : Walk) (word : Text) (words : List Text) → Goes before word after
    → walk_fault line_built [] before (word ∷ words) ≡ [] → walk_fault line_built [] after words ≡ []
unfolding walk_fault
faultless_step before after word words step h =
    sym (ap₂ or_else step.well (ap (λ (w : Walk). walk_fault line_built [] w words) step.to)) ∙ h

option_first : (before : List Text) (word : Text) (words : List Text) (later : Option (List Text)) (o : Bool)
    → is_option word ≡ o → bytes_eq word (45 ∷ 45 ∷ []) ≡ false → IsUtf8 word → values_of words ≡ later
    → (values_of words ≡ None → walk_fault line_built [] (state false (before ++ word ∷ [])) words ≡ [] → ⊥)
    → cond o None (option_map (λ (vs : List Text). word ∷ vs) later) ≡ None
    → walk_fault line_built [] (state false before) (word ∷ words) ≡ [] → ⊥
option_first before word words later true is d u none below h w =
    faulty_step before word words (unknown before word is d u) w
option_first before word words None false is d u none below h w =
    below none (faultless_step (state false before) (state false (before ++ word ∷ [])) word words
    (goes_on before word (value_word word d is)) w)
option_first before word words (Some vs) false is d u none below h w =
    let bad : Some (word ∷ vs) ≡ None = h in cc

marked_first : (before : List Text) (word : Text) (words : List Text) (d : Bool)
    → bytes_eq word (45 ∷ 45 ∷ []) ≡ d → IsUtf8 word
    → (values_of words ≡ None → walk_fault line_built [] (state false (before ++ word ∷ [])) words ≡ [] → ⊥)
    → cond d (Some words) (cond (is_option word) None (option_map (λ (vs : List Text). word ∷ vs) (values_of words)))
    ≡ None
    → walk_fault line_built [] (state false before) (word ∷ words) ≡ [] → ⊥
marked_first before word words true is u below h w = let bad : Some words ≡ None = h in cc
marked_first before word words false is u below h w =
    option_first before word words (values_of words) (is_option word) refl is u refl below h w

faultless_have_values : (before words : List Text) → All IsUtf8 words → values_of words ≡ None
    → walk_fault line_built [] (state false before) words ≡ [] → ⊥
faultless_have_values before [] u h w = let bad : Some [] ≡ None = h in cc
faultless_have_values before (word ∷ words) u h w =
    marked_first before word words (bytes_eq word (45 ∷ 45 ∷ [])) refl (All-head IsUtf8 word words u)
    (faultless_have_values (before ++ word ∷ []) words (All-tail IsUtf8 word words u)) h w

-- ---- words that ask for a task have it

or_else_first : (first second : Kinds) → or_else first second ≡ [] → first ≡ []
or_else_first [] second h = refl
or_else_first (k ∷ ks) second h = h

has_task : (words : List Text) (values : Option (List Text)) (task : _) → values_of words ≡ values → All IsUtf8 words
    → AskFor words task → option_and_then task_of_values values ≡ Some task
has_task words None task e u asks =
    absurd (faultless_have_values [] words u e (or_else_first _ _ (sym (fault_is words) ∙ asks.taken)))
has_task words (Some values) task e u asks = sym (ap task_of_values (found_in words values e)) ∙ asks.said

pub asked_is_theirs : TheirTaskIsAskedFor
asked_is_theirs words task u asks = has_task words (values_of words) task refl u asks
