use Rattle.std.proofs.Common.{◌∙◌}
use Rattle.eon_model.specs.Grid.{Units}
use Rattle.admission.specs.Clear.{work_is_free}
use Rattle.admission.proofs.WalkLaws.{least-where}
use Rattle.admission.proofs.search.least_work.Goals as goal

pub returns : goal.returns
returns c =
    c.least_centre.ensures
    ∙ least-where c.work_row.result c.args.band.now
    (λ (s : Units). work_is_free c.args.services.now.list (record { route = c.args.route.now; units = s }))
    c.args.m c.parts.ensures.valid c.work_row.ensures
