use Rattle.std.proofs.Common.{◌∙◌, slice_get}
use Rattle.std.proofs.lemmas.Result.{IfOk-weaker}
use Rattle.kept_routes.proofs.BehindLaws.{bare-backups, safe-backups}
use Rattle.kept_routes.proofs.candidates.backups_at.Goals as goal

pub returns-in-Shared-clause-backups : goal.returns-in-Shared-clause-backups
returns-in-Shared-clause-backups c =
    let d = c.args.demand in
    IfOk-weaker c.backups_kept.result _ _ (λ rs e. safe-backups c.args.setup.now d.s d.t d.class
    (slice_get c.args.works.now c.args.rank) rs c.in-Shared.is e) c.backups_kept.ensures.backups

pub returns-in-Bare-clause-backups : goal.returns-in-Bare-clause-backups
returns-in-Bare-clause-backups c =
    let d = c.args.demand in
    bare-backups c.args.setup.now d.s d.t d.class c.args.works.now c.args.rank c.of.result c.in-Bare.is
    (c.of.ensures ∙ c.new.ensures.items) c.requires.rank
