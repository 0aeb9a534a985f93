-- Reading a whole command line.
use Rattle.std.specs.Prelude.{ℕ, List, [], ◌∷◌, length, min, codes, ◌==◌, if◌then◌else◌, Option, Some, None, Result, Ok, Err}
use Rattle.eon_model.specs.declared.Class.{Class}
use Rattle.eon_model.specs.declared.Class.TheVariants.{Bare, Shared, Dual}
use Rattle.eon_model.specs.Names.{Name}
use Rattle.eon_model.specs.Commands.{Demand, PathWords, Command}
use Rattle.command_text.specs.declared.verb.Verb.{Verb}
use Rattle.command_text.specs.declared.verb.Verb.TheVariants as verb
use Rattle.command_text.specs.Reading.{Read, ◌>>=◌, after}
use Rattle.command_text.specs.Parts.{name_at, positive_at, centre_at, class_at, fibres_at}

abbrev pub verb_word : Verb → List ℕ
verb_word verb.Place = codes "place"
verb_word verb.Admit = codes "admit"
verb_word verb.Release = codes "release"
verb_word verb.Push = codes "push"
verb_word verb.Make = codes "make"
verb_word verb.Finish = codes "finish"
verb_word verb.Back = codes "back"
verb_word verb.Refit = codes "refit"
verb_word verb.Compact = codes "compact"
verb_word verb.Drill = codes "drill"
verb_word verb.Routes = codes "routes"
verb_word verb.Show = codes "show"
verb_word verb.List = codes "list"
verb_word verb.Map = codes "map"
verb_word verb.Stats = codes "stats"
verb_word verb.Report = codes "report"
verb_word verb.Quit = codes "quit"

abbrev pub verbs : List Verb
verbs =
    verb.Place ∷ verb.Admit ∷ verb.Release ∷ verb.Push ∷ verb.Make ∷ verb.Finish ∷ verb.Back ∷ verb.Refit
    ∷ verb.Compact ∷ verb.Drill ∷ verb.Routes ∷ verb.Show ∷ verb.List ∷ verb.Map ∷ verb.Stats ∷ verb.Report
    ∷ verb.Quit ∷ []

-- the verb whose word stands here; else where the word that goes farthest leaves off
unfoldable pub verb_among : ℕ → List Verb → List ℕ → Read Verb
verb_among left [] bytes = Err left
verb_among left (v ∷ vs) bytes =
    elim (after (verb_word v) bytes) [ Ok rest ↦ Ok (v, rest) | Err short ↦ verb_among (min left short) vs bytes ]

unfoldable pub verb_at : List ℕ → Read Verb
verb_at bytes = verb_among (length bytes) verbs bytes

-- ---- a space and a part

abbrev pub field_at : {A : Type 0} → (List ℕ → Read A) → List ℕ → Read A
field_at part bytes = after (32 ∷ []) bytes >>= part

unfoldable pub demand_at : List ℕ → Read Demand
demand_at bytes = do
  name ← field_at name_at bytes
  src ← field_at name_at name.1
  dst ← field_at name_at src.1
  rate ← field_at (positive_at 60000) dst.1
  class ← field_at class_at rate.1
  Ok (record { name = name.0; src = src.0; dst = dst.0; rate = rate.0; class = class.0 }, class.1)

unfoldable pub path_at : List ℕ → Read PathWords
path_at bytes = do
  fibres ← field_at fibres_at bytes
  n ← field_at centre_at fibres.1
  Ok (record { fibres = fibres.0; n = n.0 }, n.1)

abbrev pub some_path_at : List ℕ → Read (Option PathWords)
some_path_at bytes = do
  path ← path_at bytes
  Ok (Some path.0, path.1)

-- a backup path, exactly where the class is protected
unfoldable pub back_at : Class → List ℕ → Read (Option PathWords)
back_at Bare bytes = Ok (None, bytes)
back_at Shared bytes = some_path_at bytes
back_at Dual bytes = some_path_at bytes

-- ---- what follows the verb

unfoldable pub place_at : List ℕ → Read Command
place_at bytes = do
  demand ← demand_at bytes
  work ← path_at demand.1
  back ← back_at demand.0.class work.1
  Ok (Command.Place demand.0 work.0 back.0, back.1)

unfoldable pub admit_at : List ℕ → Read Command
admit_at bytes = do
  demand ← demand_at bytes
  Ok (Command.Admit demand.0, demand.1)

unfoldable pub push_at : List ℕ → Read Command
push_at bytes = do
  name ← field_at name_at bytes
  n ← field_at centre_at name.1
  Ok (Command.Push name.0 n.0, n.1)

unfoldable pub avoid_at : Name → List ℕ → Read Command
avoid_at name [] = Ok (Command.Make name None, [])
avoid_at name (b ∷ bytes) = do
  rest ← after (codes " avoid") (b ∷ bytes)
  fibre ← field_at name_at rest
  Ok (Command.Make name (Some fibre.0), fibre.1)

unfoldable pub make_at : List ℕ → Read Command
make_at bytes = do
  name ← field_at name_at bytes
  avoid_at name.0 name.1

unfoldable pub routes_at : List ℕ → Read Command
routes_at bytes = do
  src ← field_at name_at bytes
  dst ← field_at name_at src.1
  Ok (Command.Routes src.0 dst.0, dst.1)

abbrev pub named_at : (Name → Command) → List ℕ → Read Command
named_at command bytes = do
  name ← field_at name_at bytes
  Ok (command name.0, name.1)

unfoldable pub rest_at : Verb → List ℕ → Read Command
rest_at verb.Place bytes = place_at bytes
rest_at verb.Admit bytes = admit_at bytes
rest_at verb.Release bytes = named_at Command.Release bytes
rest_at verb.Push bytes = push_at bytes
rest_at verb.Make bytes = make_at bytes
rest_at verb.Finish bytes = named_at Command.Finish bytes
rest_at verb.Back bytes = named_at Command.Back bytes
rest_at verb.Refit bytes = named_at Command.Refit bytes
rest_at verb.Compact bytes = Ok (Command.Compact, bytes)
rest_at verb.Drill bytes = named_at Command.Drill bytes
rest_at verb.Routes bytes = routes_at bytes
rest_at verb.Show bytes = named_at Command.Show bytes
rest_at verb.List bytes = Ok (Command.List, bytes)
rest_at verb.Map bytes = named_at Command.Map bytes
rest_at verb.Stats bytes = Ok (Command.Stats, bytes)
rest_at verb.Report bytes = Ok (Command.Report, bytes)
rest_at verb.Quit bytes = Ok (Command.Quit, bytes)

unfoldable pub start_at : List ℕ → Read Command
start_at line = do
  verb ← verb_at line
  rest_at verb.0 verb.1

-- the command, where no byte is left
abbrev pub ended : {A : Type 0} → A × List ℕ → Result A ℕ
ended found = if length found.1 == 0 then Ok found.0 else Err (length found.1)

-- the command of the line; else how many bytes are left from the place on where no line goes on
unfoldable pub command_at : List ℕ → Result Command ℕ
command_at line = start_at line >>= ended
