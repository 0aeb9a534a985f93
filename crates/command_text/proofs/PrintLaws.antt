-- The text of a command is its verb with the words behind it.
use Rattle.std.proofs.Common.{◌≡◌, ◌∙◌, ap, ◌++◌}
use Rattle.eon_model.specs.Commands.{Command}
use Rattle.eon_model.specs.CommandText.{command_text}
use Rattle.eon_model.specs.Spelling.{spaced}
use Rattle.line_writer.specs.Words.{behind}
use Rattle.line_writer.proofs.WordLaws.{spaced-behind}
use Rattle.command_text.specs.Lines.{verb_word}
use Rattle.command_text.specs.Words.{verb_of, rest_words}
use Rattle.command_text.proofs.CommandFields.{words_are}

pub printed-is : (c : Command) → command_text c ≡ verb_word (verb_of c) ++ behind (rest_words c)
printed-is c = ap spaced (words_are c) ∙ spaced-behind (verb_word (verb_of c)) (rest_words c)
