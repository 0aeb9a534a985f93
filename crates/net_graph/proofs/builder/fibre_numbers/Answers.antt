use Rattle.std.proofs.Common.{◌≡◌, sym, ◌∙◌, ap, [], ◌∷◌, ◌++◌, Some}
use Rattle.std.specs.Option.{is_none}
use Rattle.eon_model.specs.Network.{number_of}
use Rattle.net_graph.specs.Rows.{row_names}
use Rattle.net_graph.proofs.GroupLemmas.{none_more, numbers_more}
use Rattle.net_graph.proofs.builder.fibre_numbers.Goals as goal

pub loop-name-preserved : goal.loop-name-preserved
loop-name-preserved c =
    let names = row_names c.args.rows.now in
    let fibres = c.args.names.now in
    let j = c.loop-name.name-index in
    let d = c.name-item.result in
    let found : Some c.in-Some.number ≡ number_of names d = sym c.in-Some.is ∙ c.number_of.ensures in
    let here = found ∙ ap (number_of names) c.name-item.is in
    record {
      found =
          c.in-Ok.ensures.items ∙ ap (λ ns. ns ++ c.in-Some.number ∷ []) c.loop-name.invariant.found
          ∙ sym (numbers_more names fibres j c.in-Some.number d c.loop-name-test.true here);
      known = none_more (λ f. is_none (number_of names f)) fibres j d c.loop-name-test.true
          c.loop-name.invariant.known (ap is_none (sym here));
    }
