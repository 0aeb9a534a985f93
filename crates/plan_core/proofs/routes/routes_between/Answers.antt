use Rattle.std.proofs.Common.{sym, ◌∙◌, ap, not, [], ◌∷◌, find}
use Rattle.eon_model.specs.Legal.{Setup}
use Rattle.eon_model.specs.Step.{is_node, node_numbered, routes_shown}
use Rattle.plan_core.proofs.ShownLaws.{routes-unknown, routes-known}
use Rattle.plan_core.proofs.routes.routes_between.Goals as goal

pub returns-in-Some-clause-is : goal.returns-in-Some-clause-is
returns-in-Some-clause-is c =
    let src = c.args.src.now in
    let dst = c.args.dst.now in
    routes-unknown c.args.setup.now src dst c.in-Some.name
    (sym c.in-Some.is ∙ c.unknown_end.ensures
    ∙ ap (λ (v : Setup). find (λ n. not (is_node v.network n)) (src ∷ dst ∷ [])) c.setup.view_is)

pub returns-clause-is : goal.returns-clause-is
returns-clause-is c =
    let src = c.args.src.now in
    let dst = c.args.dst.now in
    let from = c.node_numbered-s.ensures ∙ ap (λ (v : Setup). node_numbered v.network src) c.setup.view_is in
    let till = c.node_numbered-t.ensures ∙ ap (λ (v : Setup). node_numbered v.network dst) c.setup.view_is in
    routes-known c.args.setup.now src dst c.in_ok-routes.routes
    (sym c.in_default.is ∙ c.unknown_end.ensures
    ∙ ap (λ (v : Setup). find (λ n. not (is_node v.network n)) (src ∷ dst ∷ [])) c.setup.view_is)
    (c.in_ok-routes.ensures.routes ∙ (λ i. routes_shown c.args.setup.now (from i) (till i)))
