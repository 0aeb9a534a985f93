use Rattle.std.proofs.Common.{refl, sym, ◌∙◌, ap, None}
use Rattle.eon_model.specs.Legal.{Setup}
use Rattle.kept_admission.proofs.FirstLaws.{all-there, few-pairs, first-for-new}
use Rattle.kept_admission.proofs.placing.first_for_new_service.Goals as goal

pub first-requires-clause-few : goal.first-requires-clause-few
first-requires-clause-few c =
    few-pairs c.args.setup.now c.requires.in_range c.args.rows.now c.args.pairs.now c.requires.pairs

pub first-requires-clause-band : goal.first-requires-clause-band
first-requires-clause-band c = ap (λ (s : Setup). s.band) c.setup.view_is ∙ sym c.requires.rows.1.sharing_band

pub first-requires-clause-view_band : goal.first-requires-clause-view_band
first-requires-clause-view_band c = c.requires.rows.1.band ∙ sym c.requires.rows.1.sharing_band

pub first-requires-clause-view_fibres : goal.first-requires-clause-view_fibres
first-requires-clause-view_fibres c = c.requires.rows.1.fibres ∙ sym c.requires.rows.1.sharing_fibres

pub first-requires-clause-pairs : goal.first-requires-clause-pairs
first-requires-clause-pairs c =
    all-there c.args.setup.now c.requires.in_range c.args.rows.now c.args.pairs.now c.requires.pairs c.requires.rows

pub returns : goal.returns
returns c =
    first-for-new c.args.setup.now c.args.rows.now c.setup.inside.band (sym (ap (λ (s : Setup). s.band) c.setup.view_is))
    c.args.class None c.args.pairs.now c.first.result c.first.ensures.answer c.first.ensures.place refl
