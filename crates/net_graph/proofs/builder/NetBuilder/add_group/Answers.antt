use Rattle.std.proofs.Common.{◌≡◌, sym, ◌∙◌, ap, inl, inr, ◌+◌, [], ◌∷◌, ◌++◌, length, cond, arith}
use Rattle.std.specs.Result.{is_ok}
use Rattle.std.proofs.lemmas.Result.{err_from_is_err_and}
use Rattle.eon_model.specs.Names.{ascend}
use Rattle.net_graph.specs.Graph.{group_fault, group_named, with_group}
use Rattle.net_graph.specs.Rows.{network_of, row_names, rows_with}
use Rattle.net_graph.proofs.GraphParts.{parts_of, length_rows, names_of_rows}
use Rattle.net_graph.proofs.JoinFacts.{joins}
use Rattle.net_graph.proofs.JoinLemmas.{kept-with_group, added-group}
use Rattle.net_graph.proofs.builder.NetBuilder.add_group.Goals as goal
use Rattle.net_graph.proofs.builder.NetBuilder.add_group.Goals.{in-Ok, in-Err}

pub new_group-requires-clause-few_fibres : goal.new_group-requires-clause-few_fibres
new_group-requires-clause-few_fibres c =
    let s = c.self.inside in
    let few = (parts_of (network_of s.nodes.items s.rows.items s.groups.items) c.self.invariant.graph).fibres_few in
    omega (arith, few, length_rows s.rows.items, ap length c.deref.ensures.value)

pub new_group-requires-clause-fibres_rise : goal.new_group-requires-clause-fibres_rise
new_group-requires-clause-fibres_rise c =
    let s = c.self.inside in
    let rows = s.rows.items in
    ap (λ rs. ascend (row_names rs)) c.deref.ensures.value ∙ ap ascend (sym (names_of_rows rows))
    ∙ (parts_of (network_of s.nodes.items rows s.groups.items) c.self.invariant.graph).fibres_rise

pub returns-in_err-group-clause-refused : goal.returns-in_err-group-clause-refused
returns-in_err-group-clause-refused c =
    let s = c.self.inside in
    let at_rows = c.deref.ensures.value in
    let at_groups = c.deref-2.ensures.value in
    let same = (λ i. group_fault (network_of [] (at_rows i) (at_groups i)) c.args.name c.args.fibres.now)
    ∙ ap (λ net. group_fault net c.args.name c.args.fibres.now) c.self.view_is in
    let p = err_from_is_err_and c.from_residual.result c.from_residual.ensures.1 in
    rw (p.1, p.2) (elim c.in_err-group.ensures.refused [
      | inl memory ↦ inl memory
      | inr fault ↦ inr (sym same ∙ fault)
    ])

pub put_group-requires-clause-few_fibres : goal.put_group-requires-clause-few_fibres
put_group-requires-clause-few_fibres c =
    let s = c.self.inside in
    let few = (parts_of (network_of s.nodes.items s.rows.items s.groups.items) c.self.invariant.graph).fibres_few in
    omega (arith, few, length_rows s.rows.items)

pub put_group-requires-clause-few_groups : goal.put_group-requires-clause-few_groups
put_group-requires-clause-few_groups c =
    (joins c.self.inside.nodes.items c.self.inside.rows.items c.self.inside.groups.items c.self.invariant c.args.name
    c.args.fibres.now c.in_ok-group.group _ _ c.deref.ensures.value c.deref-2.ensures.value
    c.in_ok-group.ensures.made c.in_ok-group.ensures.accepted).few

pub put_group-requires-clause-known : goal.put_group-requires-clause-known
put_group-requires-clause-known c =
    (joins c.self.inside.nodes.items c.self.inside.rows.items c.self.inside.groups.items c.self.invariant c.args.name
    c.args.fibres.now c.in_ok-group.group _ _ c.deref.ensures.value c.deref-2.ensures.value
    c.in_ok-group.ensures.made c.in_ok-group.ensures.accepted).known

pub put_group-requires-clause-ascend : goal.put_group-requires-clause-ascend
put_group-requires-clause-ascend c =
    (joins c.self.inside.nodes.items c.self.inside.rows.items c.self.inside.groups.items c.self.invariant c.args.name
    c.args.fibres.now c.in_ok-group.group _ _ c.deref.ensures.value c.deref-2.ensures.value
    c.in_ok-group.ensures.made c.in_ok-group.ensures.accepted).rise

pub put_group-requires-clause-room : goal.put_group-requires-clause-room
put_group-requires-clause-room c =
    (joins c.self.inside.nodes.items c.self.inside.rows.items c.self.inside.groups.items c.self.invariant c.args.name
    c.args.fibres.now c.in_ok-group.group _ _ c.deref.ensures.value c.deref-2.ensures.value
    c.in_ok-group.ensures.made c.in_ok-group.ensures.accepted).room

pub invariant_of-self : goal.invariant_of-self
invariant_of-self c =
    let rows = c.self.inside.rows.items in
    let groups = c.self.inside.groups.items in
    let g = c.in_ok-group.group in
    let j = joins c.self.inside.nodes.items rows groups c.self.invariant c.args.name c.args.fibres.now g _ _
    c.deref.ensures.value c.deref-2.ensures.value c.in_ok-group.ensures.made c.in_ok-group.ensures.accepted in
    kept-with_group c.self.inside.nodes.items rows groups g c.args.name c.args.fibres.now (is_ok c.put_group.result)
    c.put_group.new.rows.items c.put_group.new.groups.items c.self.invariant j.made c.in_ok-group.ensures.named
    j.accepted c.requires c.put_group.ensures.rows c.put_group.ensures.groups

pub returns-clause-added : goal.returns-clause-added
returns-clause-added c =
    let nodes = c.self.inside.nodes.items in
    let rows = c.self.inside.rows.items in
    let groups = c.self.inside.groups.items in
    let g = c.in_ok-group.group in
    let j = joins c.self.inside.nodes.items rows groups c.self.invariant c.args.name c.args.fibres.now g _ _
    c.deref.ensures.value c.deref-2.ensures.value c.in_ok-group.ensures.made c.in_ok-group.ensures.accepted in
    let grown = with_group (network_of nodes rows groups)
    (group_named (network_of nodes rows groups) c.args.name c.args.fibres.now) in
    elim c.match-put_group.branch [
      | in-Ok w ↦
          let rows_are : c.put_group.new.rows.items
          ≡ rows_with (length rows + length groups) g.fibres.items 0 rows =
          c.put_group.ensures.rows
          ∙ (λ i. cond (is_ok (w.in-Ok.is i)) (rows_with (length rows + length groups) g.fibres.items 0 rows) rows) in
          let groups_are : c.put_group.new.groups.items ≡ groups ++ g ∷ [] =
          c.put_group.ensures.groups ∙ (λ i. cond (is_ok (w.in-Ok.is i)) (groups ++ g ∷ []) groups) in
          let added : network_of nodes c.put_group.new.rows.items c.put_group.new.groups.items ≡ grown =
          added-group nodes rows groups g _ c.put_group.new.rows.items c.put_group.new.groups.items j.made
          rows_are groups_are in
          rw w.result-is (added
          ∙ ap (λ n. with_group n (group_named n c.args.name c.args.fibres.now)) c.self.view_is)
      | in-Err w ↦ rw w.result-is tt
    ]
