use Rattle.std.proofs.Common.{◌∙◌, ap}
use Rattle.std.specs.Option.{option_copied}
use Rattle.eon_model.specs.Grid.{Units}
use Rattle.admission.specs.Clear.{back_is_free, spare_found}
use Rattle.admission.proofs.WalkLaws.{least-where}
use Rattle.admission.proofs.search.least_back.Goals as goal

pub returns : goal.returns
returns c =
    let list = c.args.services.now.list in
    let own = option_copied c.args.own in
    c.least_centre.ensures
    ∙ least-where c.back_row.result c.args.band.now
    (λ (s : Units). back_is_free list own c.args.class c.args.work.now
    (record { route = c.spare.inside.route; units = s })) c.spare.inside.m c.parts.ensures.valid c.back_row.ensures
    ∙ ap (spare_found list c.args.band.now c.args.class own c.args.work.now) c.spare.view_is
