use Rattle.std.proofs.Common.{rules, tests}
use Rattle.std.proofs.lemmas.Iterator.Search.{all_from_yields_List}
use Rattle.std.proofs.lemmas.Iterator.Consumers.{YieldsList-from_first}
use Rattle.eon_model.specs.Step.{is_fibre}
use Rattle.command_text.specs.Walks.{names_left}
use Rattle.plan_check.proofs.entering.knows_fibres.Goals as goal

pub returns : goal.returns
returns c =
    all_from_yields_List (is_fibre c.args.net.now) c.all.new.self _ c.all.result c.all.ensures.ran
    (YieldsList-from_first (λ x. x) names_left c.args.names.now c.iter.ensures)
    (λ x b q k. search (rules, tests))
