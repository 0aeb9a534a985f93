use Rattle.std.proofs.Common.{sym, ◌∙◌, ap, take, true, ◌≡◌}
use Rattle.std.proofs.lemmas.Bool.{and_from}
use Rattle.eon_model.specs.Names.{ascend}
use Rattle.eon_model.proofs.Members.{map-itself}
use Rattle.net_graph.specs.Graph.{comes_after}
use Rattle.net_graph.proofs.NameOrder.{ascend-taken, ascend-not}
use Rattle.net_graph.proofs.named.names_ascend.Goals as goal

pub returns-then-not-is_above_last : goal.returns-then-not-is_above_last
returns-then-not-is_above_last c =
    let names = c.args.names.now in
    let i = c.loop-i.i in
    ascend-not names i c.index-names-i.result c.loop-i-test.true
    (ap (comes_after (take i names)) (sym c.index-names-i.is)
    ∙ ap (λ ns. comes_after ns c.index-names-i.result) (sym (map-itself (take i names)))
    ∙ sym c.is_above_last.ensures.above ∙ c.if-not-is_above_last.true)

pub loop-i-preserved : goal.loop-i-preserved
loop-i-preserved c =
    let names = c.args.names.now in
    let i = c.loop-i.i in
    let before : ascend (take i names) ≡ true = c.loop-i.invariant in
    ascend-taken names i c.index-names-i.result c.loop-i-test.true
    ∙ and_from (ascend (take i names)) _ before
    (ap (comes_after (take i names)) (sym c.index-names-i.is)
    ∙ ap (λ ns. comes_after ns c.index-names-i.result) (sym (map-itself (take i names)))
    ∙ sym c.is_above_last.ensures.above ∙ c.if-not-is_above_last.false)
