use Rattle.std.proofs.Common.{◌≡◌, ◌∙◌, sym, ap, subst, true}
use Rattle.std.specs.Bool.{then_some}
use Rattle.std.proofs.lemmas.Bool.{and_parts}
use Rattle.eon_model.specs.CommandText.{is_centre}
use Rattle.eon_model.specs.EventText.{is_event}
use Rattle.eon_model.specs.Events.{Event as change}
use Rattle.eon_model.specs.Names.{is_name}
use Rattle.eon_model.specs.Replay.{can_follow}
use Rattle.eon_model.proofs.EventFronts.{signed_back, centre_short}
use Rattle.journal_record.specs.declared.event.Event.{Event}
use Rattle.journal_record.specs.Told.{event_told}
use Rattle.plan_core.specs.declared.proposal.Prepared.TheVariants as prepared
use Rattle.plan_core.specs.Waiting.{needed}
use Rattle.plan_core.proofs.FollowLaws.{leave-follows, finish-follows, back-follows}
use Rattle.plan_core.proofs.follow.needed_by.Goals as goal

pub returns-in-Leave-clause-is : goal.returns-in-Leave-clause-is
returns-in-Leave-clause-is c =
    c.nothing_if.ensures
    ∙ ap (λ b. then_some b prepared.Nothing) (c.is_taken.ensures
    ∙ leave-follows c.args.setup.now c.args.services.now.list c.in-Leave.name c.requires.legal)
    ∙ sym (ap (λ (e : Event). then_some (can_follow c.args.setup.now c.args.services.now.list (event_told e))
    (needed c.args.setup.now.network (event_told e))) c.in-Leave.is)

pub returns-in-Finish-clause-is : goal.returns-in-Finish-clause-is
returns-in-Finish-clause-is c =
    c.nothing_if-in-Finish.ensures
    ∙ ap (λ b. then_some b prepared.Nothing) (c.moves.ensures
    ∙ finish-follows c.args.setup.now c.args.services.now.list c.in-Finish.name c.requires.legal)
    ∙ sym (ap (λ (e : Event). then_some (can_follow c.args.setup.now c.args.services.now.list (event_told e))
    (needed c.args.setup.now.network (event_told e))) c.in-Finish.is)

pub returns-in-Back-clause-is : goal.returns-in-Back-clause-is
returns-in-Back-clause-is c =
    c.nothing_if-in-Back.ensures
    ∙ ap (λ b. then_some b prepared.Nothing) (c.moves-in-Back.ensures
    ∙ back-follows c.args.setup.now c.args.services.now.list c.in-Back.name c.requires.legal)
    ∙ sym (ap (λ (e : Event). then_some (can_follow c.args.setup.now c.args.services.now.list (event_told e))
    (needed c.args.setup.now.network (event_told e))) c.in-Back.is)

pub returns-in-Push-clause-is : goal.returns-in-Push-clause-is
returns-in-Push-clause-is c =
    let range = subst (λ (e : Event). is_event (event_told e) ≡ true) c.in-Push.is c.requires.in_range in
    let centre = (and_parts (is_name c.in-Push.name) (is_centre c.in-Push.to) range).1 in
    c.nothing_if-in-Push.ensures
    ∙ ap (λ b. then_some b prepared.Nothing) (c.may_push.ensures
    ∙ ap (λ n. can_follow c.args.setup.now c.args.services.now.list (change.Push c.in-Push.name n))
    (signed_back c.in-Push.to (centre_short c.in-Push.to centre)))
    ∙ sym (ap (λ (e : Event). then_some (can_follow c.args.setup.now c.args.services.now.list (event_told e))
    (needed c.args.setup.now.network (event_told e))) c.in-Push.is)

pub returns-in-Refit-clause-is : goal.returns-in-Refit-clause-is
returns-in-Refit-clause-is c =
    let range = subst (λ (e : Event). is_event (event_told e) ≡ true) c.in-Refit.is c.requires.in_range in
    let centre = (and_parts (is_name c.in-Refit.name) (is_centre c.in-Refit.n) range).1 in
    c.nothing_if-in-Refit.ensures
    ∙ ap (λ b. then_some b prepared.Nothing) (c.may_refit.ensures
    ∙ ap (λ n. can_follow c.args.setup.now c.args.services.now.list (change.Refit c.in-Refit.name n))
    (signed_back c.in-Refit.n (centre_short c.in-Refit.n centre)))
    ∙ sym (ap (λ (e : Event). then_some (can_follow c.args.setup.now c.args.services.now.list (event_told e))
    (needed c.args.setup.now.network (event_told e))) c.in-Refit.is)
