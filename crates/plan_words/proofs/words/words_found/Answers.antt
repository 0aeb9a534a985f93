use Rattle.std.proofs.Common.{◌∙◌, sym, ap}
use Rattle.std.specs.Prelude.{option_map}
use Rattle.clap.specs.Matches.{found_of}
use Rattle.eon_model.specs.Modes.{task_of_values}
use Rattle.plan_words.specs.AreWords.{task_asked}
use Rattle.plan_words.proofs.AskLemmas.{no_mode_found, no_names_found, both_found}
use Rattle.plan_words.proofs.words.words_found.Goals as goal

pub returns-in_err-mode : goal.returns-in_err-mode
returns-in_err-mode c = ap (option_map task_asked) c.from_residual.ensures
    ∙ ap task_of_values (sym (no_mode_found (found_of c.args.matches.now) c.get_str.result c.get_str.ensures
    c.in_err-mode.was))

pub returns-in_err-names : goal.returns-in_err-names
returns-in_err-names c = ap (option_map task_asked) c.from_residual-in_err-names.ensures
    ∙ ap task_of_values (sym (no_names_found (found_of c.args.matches.now) c.get_str.result c.get_strs.result
    c.in_ok-mode.mode c.get_str.ensures c.get_strs.ensures c.in_ok-mode.was c.in_err-names.was))

pub returns : goal.returns
returns c = c.words_said.ensures
    ∙ ap task_of_values (sym (both_found (found_of c.args.matches.now) c.get_str.result c.get_strs.result
    c.in_ok-mode.mode c.in_ok-names.names c.get_str.ensures c.get_strs.ensures c.in_ok-mode.was c.in_ok-names.was))
