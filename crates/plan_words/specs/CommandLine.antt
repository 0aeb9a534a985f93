-- The command line of the program as clap has it: a mode, and the names behind it.
use Rattle.std.specs.Prelude.{List, [], ◌∷◌, codes, Some, true, unwrap_or}
use Rattle.std.specs.Option.{option_map_or}
use Rattle.clap.specs.Lexer.{usize_max}
use Rattle.clap.specs.Walk.{Row, Rule, Text, first_of, all_of}
use Rattle.clap.specs.Simple.{App, Shape, new_app, new_rule, on_top, with_rule}
use Rattle.clap.specs.declared.builder.action.ArgAction.TheVariants.{Set, Append}

-- the mode: a word that must be there
abbrev pub mode_rule : Rule
mode_rule = record (new_rule (codes "mode")) { action = Some Set; required = true }

-- the names: one word or more
abbrev pub names_rule : Rule
names_rule = record (new_rule (codes "names")) {
  action = Some Append;
  range = Some (record { start_inclusive = 1; end_inclusive = usize_max });
}

-- the words begin behind the program's name, and no flag asks for help
abbrev pub without_help : Shape → Shape
without_help s = record s { no_binary_name = true; disable_help_flag = true }

-- the command line: the mode, and last the names
abbrev pub eonplan_app : App
eonplan_app =
    with_rule (with_rule (on_top without_help (new_app (codes "eonplan"))) mode_rule) names_rule

-- the mode and the names that were found, in order; none where no mode was
abbrev pub values_found : List Row → List Text
values_found rows =
    option_map_or (λ mode. mode ∷ unwrap_or (all_of (codes "names") rows) [])
    (first_of (codes "mode") rows) []
