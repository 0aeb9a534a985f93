use Rattle.std.proofs.Common.{sym, ◌∙◌, ap, ◌<◌, length, get_or, set, arith}
use Rattle.std.proofs.lemmas.List.Elements.{All-get_or}
use Rattle.net_graph.specs.Rows.{row_with}
use Rattle.net_graph.proofs.RowLemmas.{rows_with-none, next_few, mark_more}
use Rattle.net_graph.proofs.builder.mark.Goals as goal

pub loop-fibre-init : goal.loop-fibre-init
loop-fibre-init c = sym (rows_with-none c.args.risk 0 c.args.rows.now)

pub join_group-requires-clause-few : goal.join_group-requires-clause-few
join_group-requires-clause-few c =
    let fibres = c.args.fibres.now in
    let j = c.loop-fibre.fibre-index in
    let known = All-get_or (λ i. i < length c.args.rows.now) fibres j 0 c.loop-fibre-test.true c.requires.known in
    let few = next_few c.args.risk fibres j c.args.rows.now c.index-rows-fibre.result c.requires.ascend
    c.loop-fibre-test.true known c.requires.few in
    let same = ap (λ rows. (get_or rows (get_or fibres j 0) c.index-rows-fibre.result).groups)
    c.loop-fibre.invariant in
    omega (arith, few, same)

pub loop-fibre-preserved : goal.loop-fibre-preserved
loop-fibre-preserved c =
    let fibres = c.args.fibres.now in
    let j = c.loop-fibre.fibre-index in
    let d = c.index-rows-fibre.result in
    let risk = c.args.risk in
    let known = All-get_or (λ i. i < length c.args.rows.now) fibres j 0 c.loop-fibre-test.true c.requires.known in
    ap (set c.loop-fibre.rows (get_or fibres j 0)) c.join_group.ensures
    ∙ ap (λ rows. set rows (get_or fibres j 0) (row_with risk (get_or rows (get_or fibres j 0) d)))
    c.loop-fibre.invariant
    ∙ mark_more risk fibres j c.args.rows.now d c.requires.ascend c.loop-fibre-test.true known
