use Rattle.std.proofs.Common.{sym, ◌∙◌, ap, None}
use Rattle.std.proofs.lemmas.Result.{IfOk-weaker}
use Rattle.eon_model.specs.Candidates.{max_reach}
use Rattle.eon_model.specs.Routes.{first_routes}
use Rattle.kept_routes.specs.declared.table.Search.{Search}
use Rattle.kept_routes.specs.Kept.{found_by}
use Rattle.kept_routes.proofs.table.KeptRoutes.routes_kept.Goals as goal

pub returns-in-Some-clause-routes : goal.returns-in-Some-clause-routes
returns-in-Some-clause-routes c =
    let search : Search = record { s = c.args.s; t = c.args.t; avoid = c.args.avoid; behind = None } in
    IfOk-weaker c.copy_of.result _ _ (λ rs e. e ∙ c.in-Some.ensures c.self.inside.setup.setup c.self.invariant.1
    ∙ ap (λ v. found_by v search) (c.self.view_is ∙ c.requires.same)) c.copy_of.ensures

pub keep-requires : goal.keep-requires
keep-requires c =
    let setup = c.args.setup.now in
    c.in_ok-routes.ensures ∙ (λ j. first_routes setup.network c.args.s c.args.t (λ i. c.avoided.ensures i j) setup.k
    (max_reach setup.formats)) ∙ ap (λ v. found_by v (record { s = c.args.s; t = c.args.t; avoid = c.args.avoid; behind = None })) (sym c.requires.same)

pub returns-clause-routes : goal.returns-clause-routes
returns-clause-routes c =
    let setup = c.args.setup.now in
    c.in_ok-routes.ensures ∙ (λ j. first_routes setup.network c.args.s c.args.t (λ i. c.avoided.ensures i j) setup.k
    (max_reach setup.formats))
