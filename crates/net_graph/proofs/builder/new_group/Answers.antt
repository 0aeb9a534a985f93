use Rattle.std.proofs.Common.{sym, ◌∙◌, ap, inl, inr, ◌<◌, [], length, Some, arith}
use Rattle.std.proofs.lemmas.Result.{err_from_is_err_and}
use Rattle.net_graph.specs.Rows.{network_of}
use Rattle.net_graph.proofs.GraphParts.{length_groups}
use Rattle.net_graph.proofs.FaultLemmas.{group-order, group-twice, group-unknown, group-groups, group-accepted}
use Rattle.net_graph.proofs.GroupLemmas.{numbers_within}
use Rattle.net_graph.proofs.GroupTests.{after_is, twice_is, unknown_is, numbers_are, full_is}
use Rattle.net_graph.proofs.builder.new_group.Goals as goal

pub returns-then-not-is_above_last-clause-refused : goal.returns-then-not-is_above_last-clause-refused
returns-then-not-is_above_last-clause-refused c =
    let rows = c.args.rows.now in
    let groups = c.args.groups.now in
    let name = c.args.name in
    let fibres = c.args.fibres.now in
    let few : length (network_of [] rows groups).groups < 128 = omega (arith, length_groups groups) in
    inr (group-order (network_of [] rows groups) name fibres few
    (after_is rows groups name fibres _ _ c.is_above_last.ensures.above c.if-not-is_above_last.true))

pub returns-then-is_some-clause-refused : goal.returns-then-is_some-clause-refused
returns-then-is_some-clause-refused c =
    let rows = c.args.rows.now in
    let groups = c.args.groups.now in
    let name = c.args.name in
    let fibres = c.args.fibres.now in
    let few : length (network_of [] rows groups).groups < 128 = omega (arith, length_groups groups) in
    let on = after_is rows groups name fibres _ _ c.is_above_last.ensures.above c.if-not-is_above_last.false in
    let rise = sym c.names_ascend.ensures ∙ c.if-not-names_ascend.false in
    inr (group-twice (network_of [] rows groups) name fibres few on rise
    (twice_is rows groups name fibres _ _ _ c.number_of.ensures c.is_some.ensures c.if-is_some.true))

pub returns-in_err-fibres-clause-refused : goal.returns-in_err-fibres-clause-refused
returns-in_err-fibres-clause-refused c =
    let rows = c.args.rows.now in
    let groups = c.args.groups.now in
    let name = c.args.name in
    let fibres = c.args.fibres.now in
    let few : length (network_of [] rows groups).groups < 128 = omega (arith, length_groups groups) in
    let on = after_is rows groups name fibres _ _ c.is_above_last.ensures.above c.if-not-is_above_last.false in
    let rise = sym c.names_ascend.ensures ∙ c.if-not-names_ascend.false in
    let new = twice_is rows groups name fibres _ _ _ c.number_of.ensures c.is_some.ensures c.if-is_some.false in
    let p = err_from_is_err_and c.from_residual.result c.from_residual.ensures.1 in
    rw (p.1, p.2) (elim c.in_err-fibres.ensures.refused [
      | inl memory ↦ inl memory
      | inr unknown ↦
          inr (group-unknown (network_of [] rows groups) name fibres few on rise new (unknown_is rows groups name fibres _ unknown.1)
          ∙ ap Some (sym unknown.0))
    ])

pub some_full-requires : goal.some_full-requires
some_full-requires c =
    numbers_within c.args.rows.now c.args.fibres.now c.deref.result.now
    (c.deref.ensures.value ∙ c.in_ok-fibres.ensures.found.0)

pub returns-then-some_full-clause-refused : goal.returns-then-some_full-clause-refused
returns-then-some_full-clause-refused c =
    let rows = c.args.rows.now in
    let groups = c.args.groups.now in
    let name = c.args.name in
    let fibres = c.args.fibres.now in
    let few : length (network_of [] rows groups).groups < 128 = omega (arith, length_groups groups) in
    let on = after_is rows groups name fibres _ _ c.is_above_last.ensures.above c.if-not-is_above_last.false in
    let rise = sym c.names_ascend.ensures ∙ c.if-not-names_ascend.false in
    let new = twice_is rows groups name fibres _ _ _ c.number_of.ensures c.is_some.ensures c.if-is_some.false in
    let known = unknown_is rows groups name fibres _ c.in_ok-fibres.ensures.found.1 in
    inr (group-groups (network_of [] rows groups) name fibres few on rise new known (full_is rows groups name fibres c.requires.counted
    c.in_ok-fibres.fibres.items c.deref.result.now c.in_ok-fibres.ensures.found.0 c.deref.ensures.value _ _
    c.some_full.ensures c.if-some_full.true))

pub returns-clause-made : goal.returns-clause-made
returns-clause-made c =
    ap (λ ns. record { name = c.args.name; fibres = ns })
    (c.in_ok-fibres.ensures.found.0
    ∙ sym (numbers_are c.args.rows.now c.args.groups.now c.args.name c.args.fibres.now))

pub returns-clause-accepted : goal.returns-clause-accepted
returns-clause-accepted c =
    let rows = c.args.rows.now in
    let groups = c.args.groups.now in
    let name = c.args.name in
    let fibres = c.args.fibres.now in
    let few : length (network_of [] rows groups).groups < 128 = omega (arith, length_groups groups) in
    let on = after_is rows groups name fibres _ _ c.is_above_last.ensures.above c.if-not-is_above_last.false in
    let rise = sym c.names_ascend.ensures ∙ c.if-not-names_ascend.false in
    let new = twice_is rows groups name fibres _ _ _ c.number_of.ensures c.is_some.ensures c.if-is_some.false in
    let known = unknown_is rows groups name fibres _ c.in_ok-fibres.ensures.found.1 in
    group-accepted (network_of [] rows groups) name fibres few on rise new known (full_is rows groups name fibres c.requires.counted
    c.in_ok-fibres.fibres.items c.deref.result.now c.in_ok-fibres.ensures.found.0 c.deref.ensures.value _ _
    c.some_full.ensures c.if-some_full.false)
