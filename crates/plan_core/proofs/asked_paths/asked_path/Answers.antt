use Rattle.std.proofs.Common.{◌∙◌, ap, w16}
use Rattle.std.proofs.lemmas.Int.{to_z-of_z}
use Rattle.eon_model.specs.Commands.{Demand}
use Rattle.eon_model.specs.Step.{node_numbered}
use Rattle.plan_core.proofs.FaultSteps.{asked-some, asked-none}
use Rattle.plan_core.proofs.asked_paths.asked_path.Goals as goal

pub returns-in-Some : goal.returns-in-Some
returns-in-Some c = asked-some c.args.net.now c.args.demand.now c.args.part
    (record { fibres = c.args.names.now; n = c.args.n }) c.node_numbered-src.result c.node_numbered-dst.result
    c.deref.result.now c.in_ok-route.field-0 (c.deref.ensures.value ∙ c.in_ok-numbers.ensures)
    (c.node_numbered-src.ensures ∙ ap (λ (d : Demand). node_numbered c.args.net.now d.src) c.demand.view_is)
    (c.node_numbered-dst.ensures ∙ ap (λ (d : Demand). node_numbered c.args.net.now d.dst) c.demand.view_is)
    c.in_ok-route.ensures.route c.in-Some.route _ c.in-Some.is (to_z-of_z w16 c.args.n c.ranges.n)

pub returns : goal.returns
returns c = asked-none c.args.net.now c.args.demand.now c.args.part
    (record { fibres = c.args.names.now; n = c.args.n }) c.node_numbered-src.result c.node_numbered-dst.result
    c.deref.result.now c.in_ok-route.field-0 (c.deref.ensures.value ∙ c.in_ok-numbers.ensures)
    (c.node_numbered-src.ensures ∙ ap (λ (d : Demand). node_numbered c.args.net.now d.src) c.demand.view_is)
    (c.node_numbered-dst.ensures ∙ ap (λ (d : Demand). node_numbered c.args.net.now d.dst) c.demand.view_is)
    c.in_ok-route.ensures.route c.in-None.is
