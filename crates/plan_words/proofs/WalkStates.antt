-- clap's walk over the words of the command line, one word at a time.
use Rattle.std.proofs.Common.{◌≡◌, ℕ, Bool, true, false, ◌&&◌, cond, List, [], ◌∷◌, ◌++◌, codes, refl, sym, ◌∙◌, length, suc, nat_lt, ◌==◌, arith}
use Rattle.std.proofs.lemmas.Bool.Decides.{nat_tests}
use Rattle.std.specs.Prelude.{Some, None, option_and_then, bytes_eq}
use Rattle.clap.specs.Lexer.{long_of, long_of_rest, short_of, short_of_rest, strip_byte}
use Rattle.clap.specs.Walk.{Row, Text, Waiting, Walk, Held, idle, positional, nothing_held, reading_by, walked}
use Rattle.clap.specs.Simple.{Shape, built}
use Rattle.clap.specs.Faults.{turn_fault}
use Rattle.clap.specs.declared.parser.matches.ValueSource.TheVariants.{CommandLine}
use Rattle.eon_model.specs.Modes.{is_option}
use Rattle.plan_words.specs.CommandLine.{eonplan_app, mode_rule}

-- the command line as clap builds it
abbrev pub line_built : Shape
line_built = (built eonplan_app).top

-- what is kept of the mode
abbrev pub mode_row : Text → Row
mode_row mode = record {
  id = codes "mode";
  values = mode ∷ [];
  count = None;
  source = Some CommandLine;
  reading = reading_by mode_rule;
}

abbrev pub held_after : List Text → Held
held_after [] = nothing_held
held_after (mode ∷ []) = record { rows = []; pending = Some (codes "mode", mode ∷ []); skip = 0 }
held_after (mode ∷ name ∷ names) =
    record { rows = mode_row mode ∷ []; pending = Some (codes "names", name ∷ names); skip = 0 }

abbrev pub waiting_after : List Text → Waiting
waiting_after (mode ∷ name ∷ names) = positional
waiting_after _ = idle

abbrev pub position_after : List Text → ℕ
position_after [] = 1
position_after _ = 2

-- where the walk stands behind these values, before or behind a `--`
abbrev pub state : Bool → List Text → Walk
state is_trailing values = record {
  held = held_after values;
  waiting = waiting_after values;
  position = position_after values;
  is_trailing = is_trailing;
  stopped = None;
}

-- ---- a word that is a value

pub record IsValueWord (word : Text) : Type 0 where
  pub no_dashes : bytes_eq word (45 ∷ 45 ∷ []) ≡ false
  pub not_long : long_of word ≡ None
  pub not_short : short_of word ≡ None

-- one byte names no option
alone : (t : Bool) → (option_and_then long_of_rest (option_and_then (strip_byte 45) (cond t (Some []) None)) ≡ None)
    × (option_and_then short_of_rest (cond t (Some []) None) ≡ None)
alone true = (refl, refl)
alone false = (refl, refl)

-- nor does a word with another first byte
unbegun : (t : Bool) (rest : Text) → t ≡ false
    → (option_and_then long_of_rest (option_and_then (strip_byte 45) (cond t (Some rest) None)) ≡ None)
    × (option_and_then short_of_rest (cond t (Some rest) None) ≡ None)
unbegun t rest e = rw e (refl, refl)

and_false : (t u : Bool) → u ≡ true → (t && u) ≡ false → t ≡ false
and_false true u h e = sym h ∙ e
and_false false u h e = refl

more_than_none : (n : ℕ) → nat_lt 0 (suc n) ≡ true
more_than_none n = grind (arith, nat_tests)

unbegun_value : (b c : ℕ) (rest : Text) → is_option (b ∷ c ∷ rest) ≡ false → (b == 45) ≡ false
unbegun_value b c rest o = and_false (b == 45) (nat_lt 0 (length (c ∷ rest))) (more_than_none (length rest)) o

pub value_word : (word : Text) → bytes_eq word (45 ∷ 45 ∷ []) ≡ false → is_option word ≡ false → IsValueWord word
value_word [] d o = record { no_dashes = d; not_long = refl; not_short = refl }
value_word (b ∷ []) d o =
    record { no_dashes = d; not_long = (alone (b == 45)).0; not_short = (alone (b == 45)).1 }
value_word (b ∷ c ∷ rest) d o = let other : (b == 45) ≡ false = unbegun_value b c rest o in
    record {
      no_dashes = d;
      not_long = (unbegun (b == 45) (c ∷ rest) other).0;
      not_short = (unbegun (b == 45) (c ∷ rest) other).1;
    }

-- ---- a step over one word

-- the walk goes on in this state, and found no fault
pub record Goes (before : Walk) (word : Text) (after : Walk) : Type 0 where
  pub to : walked line_built.rules [] before word ≡ after
  pub well : turn_fault line_built [] before word ≡ []

-- behind a `--` each word is a value
pub goes_behind : (values : List Text) (word : Text) → Goes (state true values) word (state true (values ++ word ∷ []))
unfolding walked
goes_behind [] word = record { to = refl; well = refl }
goes_behind (mode ∷ []) word = record { to = refl; well = refl }
goes_behind (mode ∷ name ∷ names) word = record { to = refl; well = refl }

-- before it a word that is no option is one
pub goes_on : (values : List Text) (word : Text) → IsValueWord word
    → Goes (state false values) word (state false (values ++ word ∷ []))
unfolding walked
goes_on [] word w = record {
  to = rw (w.no_dashes, w.not_long, w.not_short) refl;
  well = rw (w.no_dashes, w.not_long, w.not_short) refl;
}
goes_on (mode ∷ []) word w = record {
  to = rw (w.no_dashes, w.not_long, w.not_short) refl;
  well = rw (w.no_dashes, w.not_long, w.not_short) refl;
}
goes_on (mode ∷ name ∷ names) word w = record {
  to = rw (w.no_dashes, w.not_long, w.not_short) refl;
  well = rw (w.no_dashes, w.not_long, w.not_short) refl;
}

-- a `--` is none
pub goes_through : (values : List Text) (word : Text) → bytes_eq word (45 ∷ 45 ∷ []) ≡ true
    → Goes (state false values) word (state true values)
unfolding walked
goes_through [] word e = record { to = rw e refl; well = rw e refl }
goes_through (mode ∷ []) word e = record { to = rw e refl; well = rw e refl }
goes_through (mode ∷ name ∷ names) word e = record { to = rw e refl; well = rw e refl }
