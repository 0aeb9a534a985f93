use Rattle.std.proofs.Common.{sym, ◌∙◌, ap, ◌<◌, [], length, arith}
use Rattle.eon_model.specs.Names.{ascend}
use Rattle.eon_model.proofs.Members.{map-itself}
use Rattle.net_graph.specs.Graph.{comes_after}
use Rattle.net_graph.specs.Rows.{network_of}
use Rattle.net_graph.proofs.GraphParts.{length_rows, names_of_rows}
use Rattle.net_graph.proofs.NameOrder.{number_itself}
use Rattle.net_graph.proofs.FaultLemmas.{fibre-order, fibre-unknown_a, fibre-unknown_b, fibre-self_end, fibre-accepted}
use Rattle.net_graph.proofs.builder.new_fibre.Goals as goal

pub number_of-requires-clause-rise : goal.number_of-requires-clause-rise
number_of-requires-clause-rise c = ap ascend (map-itself c.args.nodes.now) ∙ c.requires.nodes_rise

pub number_of-requires-2-clause-rise : goal.number_of-requires-2-clause-rise
number_of-requires-2-clause-rise c = ap ascend (map-itself c.args.nodes.now) ∙ c.requires.nodes_rise

pub returns-then-not-is_above_last-clause-refused : goal.returns-then-not-is_above_last-clause-refused
returns-then-not-is_above_last-clause-refused c =
    let net = network_of c.args.nodes.now c.args.rows.now [] in
    let nodes = c.args.nodes.now in
    let rows = c.args.rows.now in
    let few : length net.fibres < 128 = omega (arith, length_rows rows) in
    let after = ap (λ names. comes_after names c.args.name) (names_of_rows rows) ∙ sym c.is_above_last.ensures.above in
    sym (fibre-order net c.args.name c.args.a c.args.b few (after ∙ c.if-not-is_above_last.true))

pub returns-in_default-clause-refused : goal.returns-in_default-clause-refused
returns-in_default-clause-refused c =
    let net = network_of c.args.nodes.now c.args.rows.now [] in
    let nodes = c.args.nodes.now in
    let rows = c.args.rows.now in
    let few : length net.fibres < 128 = omega (arith, length_rows rows) in
    let after = ap (λ names. comes_after names c.args.name) (names_of_rows rows) ∙ sym c.is_above_last.ensures.above in
    sym (fibre-unknown_a net c.args.name c.args.a c.args.b few (after ∙ c.if-not-is_above_last.false)
    (number_itself nodes c.args.a _ _ c.number_of.ensures c.in_default.is))

pub returns-in_default-number_of-clause-refused : goal.returns-in_default-number_of-clause-refused
returns-in_default-number_of-clause-refused c =
    let net = network_of c.args.nodes.now c.args.rows.now [] in
    let nodes = c.args.nodes.now in
    let rows = c.args.rows.now in
    let few : length net.fibres < 128 = omega (arith, length_rows rows) in
    let after = ap (λ names. comes_after names c.args.name) (names_of_rows rows) ∙ sym c.is_above_last.ensures.above in
    sym (fibre-unknown_b net c.args.name c.args.a c.args.b c.in-Some.first few
    (after ∙ c.if-not-is_above_last.false) (number_itself nodes c.args.a _ _ c.number_of.ensures c.in-Some.is)
    (number_itself nodes c.args.b _ _ c.number_of-2.ensures c.in_default-number_of.is))

pub returns-then-first-second-clause-refused : goal.returns-then-first-second-clause-refused
returns-then-first-second-clause-refused c =
    let net = network_of c.args.nodes.now c.args.rows.now [] in
    let nodes = c.args.nodes.now in
    let rows = c.args.rows.now in
    let few : length net.fibres < 128 = omega (arith, length_rows rows) in
    let after = ap (λ names. comes_after names c.args.name) (names_of_rows rows) ∙ sym c.is_above_last.ensures.above in
    sym (fibre-self_end net c.args.name c.args.a c.args.b c.in-Some.first c.in-Some-number_of.second few
    (after ∙ c.if-not-is_above_last.false) (number_itself nodes c.args.a _ _ c.number_of.ensures c.in-Some.is)
    (number_itself nodes c.args.b _ _ c.number_of-2.ensures c.in-Some-number_of.is) c.if-first-second.true)

pub returns-clause-accepted : goal.returns-clause-accepted
returns-clause-accepted c =
    let net = network_of c.args.nodes.now c.args.rows.now [] in
    let nodes = c.args.nodes.now in
    let rows = c.args.rows.now in
    let few : length net.fibres < 128 = omega (arith, length_rows rows) in
    let after = ap (λ names. comes_after names c.args.name) (names_of_rows rows) ∙ sym c.is_above_last.ensures.above in
    fibre-accepted net c.args.name c.args.a c.args.b c.in-Some.first c.in-Some-number_of.second few
    (after ∙ c.if-not-is_above_last.false) (number_itself nodes c.args.a _ _ c.number_of.ensures c.in-Some.is)
    (number_itself nodes c.args.b _ _ c.number_of-2.ensures c.in-Some-number_of.is) c.if-first-second.false
