use Rattle.std.proofs.Common.{◌∙◌, sym, ap, refl}
use Rattle.eon_model.specs.Legal.{Setup}
use Rattle.net_graph.specs.Walks.{route_from}
use Rattle.journal_record.specs.Told as told
use Rattle.plan_core.specs.Following.{slot_suits}
use Rattle.plan_core.proofs.ToldLegLaws.{path_fit, path_unfit}
use Rattle.plan_core.proofs.told_leg.told_path.Goals as goal

pub returns-then-not-slot_suits : goal.returns-then-not-slot_suits
returns-then-not-slot_suits c = path_unfit c.args.setup.now c.args.traffic.src c.args.traffic.dst c.args.traffic.rate
    (told.path_told c.args.text.now) c.in-Some.route (sym c.in-Some.is ∙ c.in_ok-route.ensures
    ∙ ap (λ (s : Setup). route_from s.network c.args.traffic.src c.args.traffic.dst c.args.text.now.fibres) c.setup.view_is)
    (ap (λ km. slot_suits c.args.setup.now c.args.traffic.rate km c.args.text.now.slot) (sym c.km.ensures)
    ∙ sym c.slot_suits.ensures ∙ c.if-not-slot_suits.true)

pub returns : goal.returns
returns c = path_fit c.args.setup.now c.args.traffic.src c.args.traffic.dst c.args.traffic.rate
    (told.path_told c.args.text.now) c.in-Some.route (sym c.in-Some.is ∙ c.in_ok-route.ensures
    ∙ ap (λ (s : Setup). route_from s.network c.args.traffic.src c.args.traffic.dst c.args.text.now.fibres) c.setup.view_is)
    (ap (λ km. slot_suits c.args.setup.now c.args.traffic.rate km c.args.text.now.slot) (sym c.km.ensures)
    ∙ sym c.slot_suits.ensures ∙ c.if-not-slot_suits.false) _ refl
