use Rattle.std.proofs.Common.{◌≡◌, ◌∙◌, sym, ap, subst, find, not, Some, None}
use Rattle.std.specs.Option.{option_copied, option_to_list, option_and_then}
use Rattle.eon_model.specs.Network.{Network, fibre_of}
use Rattle.eon_model.specs.Legal.{Setup}
use Rattle.eon_model.specs.Events.{leg_told, leg_text_of}
use Rattle.eon_model.specs.Step.{is_fibre}
use Rattle.make_rule.specs.Told.{make_told}
use Rattle.make_rule.proofs.MakeSteps.{make-unknown, make-busy, make-tried, second-told, started-more, listed-one}
use Rattle.make_rule.proofs.making.make.Goals as goal

pub returns-in-Err-clause-is : goal.returns-in-Err-clause-is
returns-in-Err-clause-is c =
    make-unknown c.args.setup.now c.args.services.now.list c.args.name.now c.args.avoid.now c.in-Some.service.now
    (sym c.find.ensures ∙ ap option_copied c.in-Some.is) c.in-Err.name
    (subst (λ (net : Network). find (λ fibre. not (is_fibre net fibre)) (option_to_list c.args.avoid.now) ≡ Some c.in-Err.name)
    (ap (λ (s : Setup). s.network) c.setup.view_is) c.in-Err.ensures.unknown)

pub returns-then-is_moving-clause-is : goal.returns-then-is_moving-clause-is
returns-then-is_moving-clause-is c =
    make-busy c.args.setup.now c.args.services.now.list c.args.name.now c.args.avoid.now c.in-Some.service.now
    (sym c.find.ensures ∙ ap option_copied c.in-Some.is)
    (subst (λ (net : Network). find (λ fibre. not (is_fibre net fibre)) (option_to_list c.args.avoid.now) ≡ None)
    (ap (λ (s : Setup). s.network) c.setup.view_is) c.in-Ok.ensures.known)
    (sym c.is_moving.ensures ∙ c.if-is_moving.true)

pub candidates_of-requires-clause-listed : goal.candidates_of-requires-clause-listed
candidates_of-requires-clause-listed c =
    listed-one c.args.setup.now c.args.services.now.list c.args.name.now c.in-Some.service.now c.requires.listed
    (sym c.find.ensures ∙ ap option_copied c.in-Some.is)

pub returns-clause-is : goal.returns-clause-is
returns-clause-is c =
    make-tried c.args.setup.now c.args.services.now.list c.args.name.now c.args.avoid.now c.in-Some.service.now
    (sym c.find.ensures ∙ ap option_copied c.in-Some.is) c.first_is_of_a_second_leg.ensures c.requires.in_range
    c.requires.legal
    (subst (λ (net : Network). find (λ fibre. not (is_fibre net fibre)) (option_to_list c.args.avoid.now) ≡ None)
    (ap (λ (s : Setup). s.network) c.setup.view_is) c.in-Ok.ensures.known)
    (sym c.is_moving.ensures ∙ c.if-is_moving.false) c.in-Ok.fibre c.in_ok-pairs.pairs
    (subst (λ (net : Network). c.in-Ok.fibre ≡ option_and_then (fibre_of net) c.args.avoid.now)
    (ap (λ (s : Setup). s.network) c.setup.view_is) c.in-Ok.ensures.number) c.in_ok-pairs.ensures.candidates
    (make_told c.args.name.now c.placed.result) (c.placed.ensures.is c.args.name.now)

pub returns-clause-leg : goal.returns-clause-leg
returns-clause-leg c =
    started-more c.placed.result _ (λ leg. leg_told c.args.setup.now.network (leg_text_of leg) ≡ leg)
    (second-told c.args.setup.now c.args.services.now.list c.args.name.now c.args.avoid.now c.in-Some.service.now
    (sym c.find.ensures ∙ ap option_copied c.in-Some.is) c.first_is_of_a_second_leg.ensures c.requires.in_range
    c.requires.legal
    (subst (λ (net : Network). find (λ fibre. not (is_fibre net fibre)) (option_to_list c.args.avoid.now) ≡ None)
    (ap (λ (s : Setup). s.network) c.setup.view_is) c.in-Ok.ensures.known)
    (sym c.is_moving.ensures ∙ c.if-is_moving.false) c.in-Ok.fibre c.in_ok-pairs.pairs
    (subst (λ (net : Network). c.in-Ok.fibre ≡ option_and_then (fibre_of net) c.args.avoid.now)
    (ap (λ (s : Setup). s.network) c.setup.view_is) c.in-Ok.ensures.number) c.in_ok-pairs.ensures.candidates)
    c.placed.ensures.leg
