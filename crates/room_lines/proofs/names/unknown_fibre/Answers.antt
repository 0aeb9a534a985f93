use Rattle.std.proofs.Common.{◌∙◌, sym, not, rules, tests}
use Rattle.std.proofs.lemmas.Iterator.Adapters.{option_map_id}
use Rattle.std.proofs.lemmas.Iterator.Search.{find_from_yields_List}
use Rattle.std.proofs.lemmas.Iterator.Consumers.{YieldsList-from_first}
use Rattle.eon_model.specs.Step.{is_fibre}
use Rattle.command_text.specs.Walks.{names_left}
use Rattle.room_lines.proofs.names.unknown_fibre.Goals as goal

pub returns : goal.returns
returns c =
    sym (option_map_id c.find.result)
    ∙ find_from_yields_List (λ name. not (is_fibre c.args.net.now name)) c.find.new.self _ c.find.result c.find.ensures.ran
    (YieldsList-from_first (λ x. x) names_left c.args.names.now c.iter.ensures)
    (λ x b q. search (rules, tests))
