use Rattle.std.proofs.Common.{sym, ◌<◌, nat_le, length, get_or, arith}
use Rattle.std.proofs.lemmas.Bool.{le-leb, lt-leb}
use Rattle.std.proofs.lemmas.List.Elements.{All-get_or}
use Rattle.net_graph.specs.Rows.{count_at}
use Rattle.net_graph.proofs.GroupLemmas.{any_at, none_more, count_at-read}
use Rattle.net_graph.proofs.builder.some_full.Goals as goal

pub returns-then-rows-fibre-ge-MOST_GROUPS_OF_FIBRE : goal.returns-then-rows-fibre-ge-MOST_GROUPS_OF_FIBRE
returns-then-rows-fibre-ge-MOST_GROUPS_OF_FIBRE c =
    let rows = c.args.rows.now in
    let fibres = c.args.fibres.now in
    let j = c.loop-fibre.fibre-index in
    let known = All-get_or (λ i. i < length rows) fibres j 0 c.loop-fibre-test.true c.requires in
    let count = count_at-read rows (get_or fibres j 0) c.index-rows-fibre.result known in
    sym (any_at (λ i. nat_le 8 (count_at rows i)) fibres j 0
    (le-leb 8 _ (omega (arith, count, c.if-rows-fibre-ge-MOST_GROUPS_OF_FIBRE.true))) c.loop-fibre-test.true)

pub loop-fibre-preserved : goal.loop-fibre-preserved
loop-fibre-preserved c =
    let rows = c.args.rows.now in
    let fibres = c.args.fibres.now in
    let j = c.loop-fibre.fibre-index in
    let known = All-get_or (λ i. i < length rows) fibres j 0 c.loop-fibre-test.true c.requires in
    let count = count_at-read rows (get_or fibres j 0) c.index-rows-fibre.result known in
    none_more (λ i. nat_le 8 (count_at rows i)) fibres j 0 c.loop-fibre-test.true c.loop-fibre.invariant
    (lt-leb 8 _ (omega (arith, count, c.if-rows-fibre-ge-MOST_GROUPS_OF_FIBRE.false)))
