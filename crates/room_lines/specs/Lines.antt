-- Reading a whole line.
use Rattle.std.specs.Prelude.{ℕ, List, [], ◌∷◌, length, min, codes, Result, Ok, Err}
use Rattle.eon_model.specs.RoomCommands.{Question, RoomCommand}
use Rattle.command_text.specs.Reading.{Read, ◌>>=◌, after}
use Rattle.command_text.specs.Parts.{name_at, positive_at}
use Rattle.command_text.specs.Lines.{field_at, path_at, ended}
use Rattle.room_lines.specs.declared.verb.Verb.{Verb}
use Rattle.room_lines.specs.declared.verb.Verb.TheVariants as verb

abbrev pub verb_word : Verb → List ℕ
verb_word verb.Room = codes "room"
verb_word verb.Quit = codes "quit"

abbrev pub verbs : List Verb
verbs = verb.Room ∷ verb.Quit ∷ []

-- the verb whose word stands here; else where the word that goes farthest leaves off
unfoldable pub verb_among : ℕ → List Verb → List ℕ → Read Verb
verb_among left [] bytes = Err left
verb_among left (v ∷ vs) bytes =
    elim (after (verb_word v) bytes) [ Ok rest ↦ Ok (v, rest) | Err short ↦ verb_among (min left short) vs bytes ]

unfoldable pub verb_at : List ℕ → Read Verb
verb_at bytes = verb_among (length bytes) verbs bytes

-- ---- what follows the verb

unfoldable pub question_at : List ℕ → Read Question
question_at bytes = do
  src ← field_at name_at bytes
  dst ← field_at name_at src.1
  rate ← field_at (positive_at 60000) dst.1
  work ← path_at rate.1
  Ok (record { src = src.0; dst = dst.0; rate = rate.0; work = work.0 }, work.1)

abbrev pub asked_at : List ℕ → Read RoomCommand
asked_at bytes = do
  question ← question_at bytes
  Ok (RoomCommand.Room question.0, question.1)

unfoldable pub rest_at : Verb → List ℕ → Read RoomCommand
rest_at verb.Room bytes = asked_at bytes
rest_at verb.Quit bytes = Ok (RoomCommand.Quit, bytes)

unfoldable pub start_at : List ℕ → Read RoomCommand
start_at line = do
  verb ← verb_at line
  rest_at verb.0 verb.1

-- the command of the line; else how many bytes are left from the place on where no line goes on
unfoldable pub command_at : List ℕ → Result RoomCommand ℕ
command_at line = start_at line >>= ended
