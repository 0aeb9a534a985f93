use Rattle.std.proofs.Common.{sym, ◌∙◌, ap, subst, Some}
use Rattle.std.specs.Prelude.{IfSome}
use Rattle.eon_model.specs.Legal.{Setup}
use Rattle.eon_model.specs.Services.{Service}
use Rattle.eon_model.proofs.ChangeLaws.{named_fits}
use Rattle.backup_sharing.specs.Shared.{IsThere}
use Rattle.row_admission.specs.RowFirst.{backup_of}
use Rattle.kept_admission.proofs.ThereLaws.{leg-there}
use Rattle.kept_admission.proofs.FirstLaws.{all-there, few-pairs, first-for-second}
use Rattle.kept_admission.proofs.placing.first_for_second_leg.Goals as goal

pub first-requires-clause-few : goal.first-requires-clause-few
first-requires-clause-few c =
    few-pairs c.args.setup.now c.requires.in_range c.args.rows.now c.args.pairs.now c.requires.pairs

pub first-requires-clause-band : goal.first-requires-clause-band
first-requires-clause-band c = ap (λ (s : Setup). s.band) c.setup.view_is ∙ sym c.requires.served.2.stands.sharing_band

pub first-requires-clause-view_band : goal.first-requires-clause-view_band
first-requires-clause-view_band c = c.requires.served.2.stands.band ∙ sym c.requires.served.2.stands.sharing_band

pub first-requires-clause-view_fibres : goal.first-requires-clause-view_fibres
first-requires-clause-view_fibres c = c.requires.served.2.stands.fibres ∙ sym c.requires.served.2.stands.sharing_fibres

pub first-requires-clause-pairs : goal.first-requires-clause-pairs
first-requires-clause-pairs c =
    all-there c.args.setup.now c.requires.in_range c.args.rows.now c.args.pairs.now c.requires.pairs
    (c.requires.served.0, c.requires.served.2.stands)

pub first-requires-clause-own : goal.first-requires-clause-own
first-requires-clause-own c =
    let at = c.requires.served.2 in
    subst (λ (v : Service). IfSome (backup_of (Some v.leg)) (IsThere c.args.rows.now.sharing)) (sym c.service.view_is)
    (leg-there c.args.setup.now c.requires.in_range c.requires.served.0 c.args.rows.now at.stands c.args.service.now
    c.args.service.now.leg
    (named_fits c.args.setup.now c.requires.served.0 c.requires.served.1 c.args.service.now at.legal at.found))

pub returns : goal.returns
returns c =
    first-for-second c.args.setup.now c.args.rows.now c.setup.inside.band (sym (ap (λ (s : Setup). s.band) c.setup.view_is))
    c.service.inside.class (Some c.service.inside.leg) c.args.pairs.now c.first.result c.first.ensures.answer
    c.first.ensures.place c.args.service.now (sym (ap (λ (v : Service). v.class) c.service.view_is))
    (ap (λ (v : Service). Some v.leg) c.service.view_is)
