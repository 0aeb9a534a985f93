use Rattle.std.proofs.Common.{rules, ◌≡◌, sym, ◌∙◌, ap, ◌-◌, ◌<◌, length, get_or, arith}
use Rattle.eon_model.specs.Network as model
use Rattle.net_graph.specs.declared.graph.FibreRow.{FibreRow}
use Rattle.net_graph.specs.declared.graph.GroupRow.{GroupRow}
use Rattle.net_graph.proofs.GraphParts.{risk_name-fibre, risk_name-group, length_rows, length_groups}
use Rattle.net_graph.proofs.graph.Net.risk_name.Goals as goal

pub returns-then-risk-len : goal.returns-then-risk-len
returns-then-risk-len c =
    let s = c.self.inside in
    let l : c.args.risk < length s.rows.items = search rules in
    ap (λ (r : FibreRow). r.fibre.name) c.index.ensures
    ∙ risk_name-fibre s.nodes.items s.rows.items s.groups.items c.args.risk c.index.result.now l
    ∙ ap (λ net. model.risk_name net c.args.risk) c.self.view_is

pub returns-else-risk-len : goal.returns-else-risk-len
returns-else-risk-len c =
    let s = c.self.inside in
    let rows : c.len-else-risk-len.result ≡ length s.rows.items = search rules in
    let fibres = sym (length_rows s.rows.items) ∙ ap (λ net. length net.fibres) c.self.view_is in
    let groups = sym (length_groups s.groups.items) ∙ ap (λ net. length net.groups) c.self.view_is in
    let l : c.args.risk - length s.rows.items < length s.groups.items =
    omega (arith, fibres, groups, rows, c.if-risk-len.false, c.len.ensures, c.len-else-risk-len.ensures) in
    ap (λ (g : GroupRow). g.name) c.index-else-risk-len.ensures
    ∙ ap (λ n. (get_or s.groups.items (c.args.risk - n) c.index-else-risk-len.result.now).name) rows
    ∙ risk_name-group s.nodes.items s.rows.items s.groups.items c.args.risk c.index-else-risk-len.result.now
    (omega (arith, rows, c.if-risk-len.false, c.len.ensures, c.len-else-risk-len.ensures)) l
    ∙ ap (λ net. model.risk_name net c.args.risk) c.self.view_is
