-- Reading a whole line.
use Rattle.std.specs.Prelude.{ℕ, List, [], ◌∷◌, length, min, codes, Result, Ok, Err}
use Rattle.eon_model.specs.Names.{Name}
use Rattle.eon_model.specs.LiveCommands.{LiveCommand}
use Rattle.command_text.specs.Reading.{Read, ◌>>=◌, after}
use Rattle.command_text.specs.Parts.{name_at}
use Rattle.command_text.specs.Lines.{field_at, ended}
use Rattle.live_failure.specs.declared.verb.Verb.{Verb}
use Rattle.live_failure.specs.declared.verb.Verb.TheVariants as verb

abbrev pub verb_word : Verb → List ℕ
verb_word verb.Fail = codes "fail"
verb_word verb.Repair = codes "repair"
verb_word verb.Lights = codes "lights"
verb_word verb.Exposed = codes "exposed"
verb_word verb.Audit = codes "audit"
verb_word verb.Quit = codes "quit"

abbrev pub verbs : List Verb
verbs = verb.Fail ∷ verb.Repair ∷ verb.Lights ∷ verb.Exposed ∷ verb.Audit ∷ verb.Quit ∷ []

-- the verb whose word stands here; else where the word that goes farthest leaves off
unfoldable pub verb_among : ℕ → List Verb → List ℕ → Read Verb
verb_among left [] bytes = Err left
verb_among left (v ∷ vs) bytes =
    elim (after (verb_word v) bytes) [ Ok rest ↦ Ok (v, rest) | Err short ↦ verb_among (min left short) vs bytes ]

unfoldable pub verb_at : List ℕ → Read Verb
verb_at bytes = verb_among (length bytes) verbs bytes

-- ---- what follows the verb

abbrev pub named_at : (Name → LiveCommand) → List ℕ → Read LiveCommand
named_at command bytes = do
  name ← field_at name_at bytes
  Ok (command name.0, name.1)

unfoldable pub rest_at : Verb → List ℕ → Read LiveCommand
rest_at verb.Fail bytes = named_at LiveCommand.Fail bytes
rest_at verb.Repair bytes = Ok (LiveCommand.Repair, bytes)
rest_at verb.Lights bytes = Ok (LiveCommand.Lights, bytes)
rest_at verb.Exposed bytes = Ok (LiveCommand.Exposed, bytes)
rest_at verb.Audit bytes = named_at LiveCommand.Audit bytes
rest_at verb.Quit bytes = Ok (LiveCommand.Quit, bytes)

unfoldable pub start_at : List ℕ → Read LiveCommand
start_at line = do
  verb ← verb_at line
  rest_at verb.0 verb.1

-- the command of the line; else how many bytes are left from the place on where no line goes on
unfoldable pub command_at : List ℕ → Result LiveCommand ℕ
command_at line = start_at line >>= ended
