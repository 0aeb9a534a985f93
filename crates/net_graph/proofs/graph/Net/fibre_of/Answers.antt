use Rattle.std.proofs.Common.{sym, ◌∙◌, ap}
use Rattle.eon_model.specs.Names.{ascend}
use Rattle.eon_model.specs.Network as model
use Rattle.net_graph.specs.Rows.{row_names, network_of}
use Rattle.net_graph.proofs.GraphParts.{parts_of, names_of_rows}
use Rattle.net_graph.proofs.graph.Net.fibre_of.Goals as goal

pub number_of-requires-clause-rise : goal.number_of-requires-clause-rise
number_of-requires-clause-rise c =
    let s = c.self.inside in
    let rows = s.rows.items in
    ap (λ rs. ascend (row_names rs)) c.deref.ensures.value ∙ ap ascend (sym (names_of_rows rows))
    ∙ (parts_of (network_of s.nodes.items rows s.groups.items) c.self.invariant.graph).fibres_rise

pub returns : goal.returns
returns c =
    let rows = c.self.inside.rows.items in
    let name = c.args.name.now in
    c.number_of.ensures ∙ ap (λ rs. model.number_of (row_names rs) name) c.deref.ensures.value
    ∙ ap (λ ns. model.number_of ns name) (sym (names_of_rows rows))
    ∙ ap (λ net. model.fibre_of net name) c.self.view_is
