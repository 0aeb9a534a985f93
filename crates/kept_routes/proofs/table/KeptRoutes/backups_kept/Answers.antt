use Rattle.std.proofs.Common.{sym, ◌∙◌, ap, Some}
use Rattle.std.proofs.lemmas.Result.{IfOk-weaker}
use Rattle.kept_routes.specs.declared.table.Search.{Search}
use Rattle.kept_routes.specs.Kept.{found_by}
use Rattle.kept_routes.proofs.BehindLaws.{backups-kept, backups-searched}
use Rattle.kept_routes.proofs.table.KeptRoutes.backups_kept.Goals as goal

pub returns-in-Some-clause-backups : goal.returns-in-Some-clause-backups
returns-in-Some-clause-backups c =
    let search : Search = record { s = c.args.s; t = c.args.t; avoid = c.args.avoid; behind = Some c.args.rank } in
    IfOk-weaker c.copy_of.result _ _ (λ rs e. backups-kept c.args.setup.now c.args.s c.args.t c.args.avoid c.args.works.now
    c.requires.works c.args.rank rs c.requires.rank
    (e ∙ c.in-Some.ensures c.self.inside.setup.setup c.self.invariant.1
    ∙ ap (λ v. found_by v search) (c.self.view_is ∙ c.requires.same))) c.copy_of.ensures

pub keep-requires : goal.keep-requires
keep-requires c =
    let search : Search = record { s = c.args.s; t = c.args.t; avoid = c.args.avoid; behind = Some c.args.rank } in
    (backups-searched c.args.setup.now c.args.s c.args.t c.args.avoid c.args.works.now c.requires.works c.args.rank
    c.in_ok-routes.routes c.at.result.now c.at.ensures.route c.in_ok-routes.ensures).0
    ∙ ap (λ v. found_by v search) (sym c.requires.same)

pub returns-clause-backups : goal.returns-clause-backups
returns-clause-backups c =
    (backups-searched c.args.setup.now c.args.s c.args.t c.args.avoid c.args.works.now c.requires.works c.args.rank
    c.in_ok-routes.routes c.at.result.now c.at.ensures.route c.in_ok-routes.ensures).1
