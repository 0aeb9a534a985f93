-- The words of a command's line.
use Rattle.std.specs.Prelude.{ℕ, List, [], ◌∷◌, ◌++◌}
use Rattle.std.specs.Option.{option_to_list}
use Rattle.std.specs.List.{flat_map}
use Rattle.std.specs.Fmt.{signed_decimal}
use Rattle.eon_model.specs.Commands.{Command}
use Rattle.eon_model.specs.CommandText.{demand_words, path_words, avoid_words}
use Rattle.command_text.specs.declared.verb.Verb.{Verb}
use Rattle.command_text.specs.declared.verb.Verb.TheVariants as verb

-- the words, each behind a space
abbrev pub behind : List (List ℕ) → List ℕ
behind [] = []
behind (w ∷ ws) = 32 ∷ w ++ behind ws

abbrev pub verb_of : Command → Verb
verb_of (Command.Place d work back) = verb.Place
verb_of (Command.Admit d) = verb.Admit
verb_of (Command.Release name) = verb.Release
verb_of (Command.Push name n) = verb.Push
verb_of (Command.Make name avoid) = verb.Make
verb_of (Command.Finish name) = verb.Finish
verb_of (Command.Back name) = verb.Back
verb_of (Command.Refit name) = verb.Refit
verb_of Command.Compact = verb.Compact
verb_of (Command.Drill name) = verb.Drill
verb_of (Command.Routes s t) = verb.Routes
verb_of (Command.Show name) = verb.Show
verb_of Command.List = verb.List
verb_of (Command.Map name) = verb.Map
verb_of Command.Stats = verb.Stats
verb_of Command.Report = verb.Report
verb_of Command.Quit = verb.Quit

-- the words behind the first
abbrev pub rest_words : Command → List (List ℕ)
rest_words (Command.Place d work back) = demand_words d ++ path_words work ++ flat_map path_words
    (option_to_list back)
rest_words (Command.Admit d) = demand_words d
rest_words (Command.Push name n) = name ∷ signed_decimal n ∷ []
rest_words (Command.Make name avoid) = name ∷ avoid_words avoid
rest_words (Command.Routes s t) = s ∷ t ∷ []
rest_words (Command.Release name) = name ∷ []
rest_words (Command.Finish name) = name ∷ []
rest_words (Command.Back name) = name ∷ []
rest_words (Command.Refit name) = name ∷ []
rest_words (Command.Drill name) = name ∷ []
rest_words (Command.Show name) = name ∷ []
rest_words (Command.Map name) = name ∷ []
rest_words Command.Compact = []
rest_words Command.List = []
rest_words Command.Stats = []
rest_words Command.Report = []
rest_words Command.Quit = []
