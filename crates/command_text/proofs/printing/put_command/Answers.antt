use Rattle.std.proofs.Common.{sym, ◌∙◌, ap}
use Rattle.line_writer.proofs.TakesLaws.{takes-both, takes-same}
use Rattle.command_text.specs.Lines.{verb_word}
use Rattle.command_text.specs.Told.{told}
use Rattle.command_text.proofs.PrintLaws.{printed-is}
use Rattle.command_text.proofs.printing.put_command.Goals as goal

pub returns : goal.returns
returns g c =
    takes-same _ _ _ _ (sym (printed-is (told c.args.command.now)))
    (takes-both _ _ _ _ _ (takes-same _ _ _ _ (c.word.ensures ∙ ap verb_word c.verb.ensures) c.put.ensures) c.put_rest.ensures)
