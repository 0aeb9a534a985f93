use Rattle.std.proofs.Common.{rules, ◌≡◌, sym, ◌∙◌, ap, ◌+◌, length, map, Some, None}
use Rattle.std.specs.Option.{option_map, option_or}
use Rattle.eon_model.specs.Names.{ascend}
use Rattle.eon_model.specs.Network as model
use Rattle.net_graph.specs.declared.graph.GroupRow.{GroupRow}
use Rattle.net_graph.specs.Rows.{row_names, network_of}
use Rattle.net_graph.proofs.GraphParts.{parts_of, names_of_rows, names_of_groups, length_rows}
use Rattle.net_graph.proofs.graph.Net.risk_of.Goals as goal

pub number_of-requires-clause-rise : goal.number_of-requires-clause-rise
number_of-requires-clause-rise c =
    let s = c.self.inside in
    let rows = s.rows.items in
    ap (λ rs. ascend (row_names rs)) c.deref.ensures.value ∙ ap ascend (sym (names_of_rows rows))
    ∙ (parts_of (network_of s.nodes.items rows s.groups.items) c.self.invariant.graph).fibres_rise

pub number_of-requires-in-None-clause-rise : goal.number_of-requires-in-None-clause-rise
number_of-requires-in-None-clause-rise c =
    let s = c.self.inside in
    let groups = s.groups.items in
    ap (λ gs. ascend (map (λ (g : GroupRow). g.name) gs)) c.deref-in-None.ensures.value ∙ ap ascend (sym (names_of_groups groups))
    ∙ (parts_of (network_of s.nodes.items s.rows.items groups) c.self.invariant.graph).groups_rise

pub returns-in-Some : goal.returns-in-Some
returns-in-Some c =
    let s = c.self.inside in
    let name = c.args.name.now in
    let found : Some c.in-Some.fibre ≡ model.fibre_of (network_of s.nodes.items s.rows.items s.groups.items) name =
    sym c.in-Some.is ∙ c.number_of.ensures
    ∙ ap (λ rs. model.number_of (row_names rs) name) c.deref.ensures.value
    ∙ ap (λ ns. model.number_of ns name) (sym (names_of_rows s.rows.items)) in
    ap (λ o. option_or o (model.group_of (network_of s.nodes.items s.rows.items s.groups.items) name)) found
    ∙ ap (λ net. model.risk_number_of net name) c.self.view_is

pub returns-in-Some-number_of : goal.returns-in-Some-number_of
returns-in-Some-number_of c =
    let s = c.self.inside in
    let name = c.args.name.now in
    let net = network_of s.nodes.items s.rows.items s.groups.items in
    let none : None ≡ model.fibre_of net name =
    sym c.in-None.is ∙ c.number_of.ensures
    ∙ ap (λ rs. model.number_of (row_names rs) name) c.deref.ensures.value
    ∙ ap (λ ns. model.number_of ns name) (sym (names_of_rows s.rows.items)) in
    let found : Some c.in-Some-number_of.group ≡ model.number_of (model.group_names net.groups) name =
    sym c.in-Some-number_of.is ∙ c.number_of-in-None.ensures
    ∙ ap (λ gs. model.number_of (map (λ (g : GroupRow). g.name) gs) name) c.deref-in-None.ensures.value
    ∙ ap (λ ns. model.number_of ns name) (sym (names_of_groups s.groups.items)) in
    let long : c.len.result ≡ length s.rows.items = search rules in
    ap (λ n. Some (n + c.in-Some-number_of.group)) (long ∙ sym (length_rows s.rows.items))
    ∙ ap (λ o. option_map (λ j. length net.fibres + j) o) found
    ∙ ap (λ o. option_or o (model.group_of net name)) none
    ∙ ap (λ v. model.risk_number_of v name) c.self.view_is

pub returns-in-None-number_of : goal.returns-in-None-number_of
returns-in-None-number_of c =
    let s = c.self.inside in
    let name = c.args.name.now in
    let net = network_of s.nodes.items s.rows.items s.groups.items in
    let none : None ≡ model.fibre_of net name =
    sym c.in-None.is ∙ c.number_of.ensures
    ∙ ap (λ rs. model.number_of (row_names rs) name) c.deref.ensures.value
    ∙ ap (λ ns. model.number_of ns name) (sym (names_of_rows s.rows.items)) in
    let found : None ≡ model.number_of (model.group_names net.groups) name =
    sym c.in-None-number_of.is ∙ c.number_of-in-None.ensures
    ∙ ap (λ gs. model.number_of (map (λ (g : GroupRow). g.name) gs) name) c.deref-in-None.ensures.value
    ∙ ap (λ ns. model.number_of ns name) (sym (names_of_groups s.groups.items)) in
    ap (λ o. option_map (λ j. length net.fibres + j) o) found
    ∙ ap (λ o. option_or o (model.group_of net name)) none
    ∙ ap (λ v. model.risk_number_of v name) c.self.view_is
