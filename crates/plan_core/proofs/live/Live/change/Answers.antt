use Rattle.std.proofs.Common.{◌≡◌, sym, ◌∙◌, ap, subst, true, ℤ}
use Rattle.eon_model.specs.Changes.{change_service, with_leg, drifting_to, backup_at}
use Rattle.eon_model.specs.Events.{apply}
use Rattle.eon_model.specs.Replay.{can_follow}
use Rattle.journal_record.specs.declared.event.Event.{Event}
use Rattle.journal_record.specs.Told.{enter_told, leg_told, event_told}
use Rattle.leg_state.specs.Asks.{has_service, may_drift, may_refit}
use Rattle.plan_core.specs.Waiting.{needed}
use Rattle.plan_core.proofs.MadeLaws.{entering-fresh}
use Rattle.plan_core.proofs.MoveLaws.{push-drifts, finish-finishes, back-goes_back, make-makes, refit-refits}
use Rattle.plan_core.proofs.live.Live.change.Goals as goal

pub enter-requires-clause-fresh : goal.enter-requires-clause-fresh
enter-requires-clause-fresh c =
    let kept = c.requires.1 in
    entering-fresh c.requires.0 c.args.self.now.services.list (enter_told c.in-Enter.service) c.in-Service.service
    c.args.prepared c.in-Service.is
    (kept.waits.is_needed ∙ ap (λ (e : Event). needed c.requires.0.network (event_told e)) c.in-Enter.is)
    (subst (λ (e : Event). can_follow c.requires.0 c.args.self.now.services.list (event_told e) ≡ true) c.in-Enter.is
    kept.waits.follows)

pub set_to-requires : goal.set_to-requires
set_to-requires c =
    let kept = c.requires.1 in
    let drifts = push-drifts c.requires.0 c.args.self.now.services.list kept.in_range kept.legal c.in-Push.name
    c.in-Push.to
    (subst (λ (e : Event). can_follow c.requires.0 c.args.self.now.services.list (event_told e) ≡ true) c.in-Push.is
    kept.waits.follows) in
    subst (λ (n : ℤ). has_service (may_drift n) c.args.self.now.services.list c.in-Push.name ≡ true) (sym drifts.1) drifts.0

pub end_move-requires : goal.end_move-requires
end_move-requires c =
    let kept = c.requires.1 in
    finish-finishes c.requires.0 c.args.self.now.services.list kept.in_range kept.legal c.in-Finish.name
    (subst (λ (e : Event). can_follow c.requires.0 c.args.self.now.services.list (event_told e) ≡ true) c.in-Finish.is
    kept.waits.follows)

pub undo_move-requires : goal.undo_move-requires
undo_move-requires c =
    let kept = c.requires.1 in
    back-goes_back c.requires.0 c.args.self.now.services.list kept.in_range kept.legal c.in-Back.name
    (subst (λ (e : Event). can_follow c.requires.0 c.args.self.now.services.list (event_told e) ≡ true) c.in-Back.is
    kept.waits.follows)

pub add_leg-requires : goal.add_leg-requires
add_leg-requires c =
    let kept = c.requires.1 in
    make-makes c.requires.0 c.args.self.now.services.list kept.in_range kept.legal c.in-Make.name c.in-Make.class
    (leg_told c.in-Make.leg)
    (subst (λ (e : Event). can_follow c.requires.0 c.args.self.now.services.list (event_told e) ≡ true) c.in-Make.is
    kept.waits.follows)

pub set_back-requires : goal.set_back-requires
set_back-requires c =
    let kept = c.requires.1 in
    let refits = refit-refits c.requires.0 c.args.self.now.services.list kept.in_range kept.legal c.in-Refit.name
    c.in-Refit.n
    (subst (λ (e : Event). can_follow c.requires.0 c.args.self.now.services.list (event_told e) ≡ true) c.in-Refit.is
    kept.waits.follows) in
    subst (λ (n : ℤ). has_service (may_refit n) c.args.self.now.services.list c.in-Refit.name ≡ true) (sym refits.1) refits.0

pub returns-in-Push : goal.returns-in-Push
returns-in-Push c = λ net needs.
    let kept = c.requires.1 in
    let drifts = push-drifts c.requires.0 c.args.self.now.services.list kept.in_range kept.legal c.in-Push.name
    c.in-Push.to
    (subst (λ (e : Event). can_follow c.requires.0 c.args.self.now.services.list (event_told e) ≡ true) c.in-Push.is
    kept.waits.follows) in
    c.set_to.ensures.list
    ∙ ap (λ (n : ℤ). change_service c.in-Push.name (with_leg (drifting_to n)) c.args.self.now.services.list) drifts.1
    ∙ sym (ap (λ (e : Event). apply net c.args.self.now.services.list (event_told e)) c.in-Push.is)

pub returns-in-Refit : goal.returns-in-Refit
returns-in-Refit c = λ net needs.
    let kept = c.requires.1 in
    let refits = refit-refits c.requires.0 c.args.self.now.services.list kept.in_range kept.legal c.in-Refit.name
    c.in-Refit.n
    (subst (λ (e : Event). can_follow c.requires.0 c.args.self.now.services.list (event_told e) ≡ true) c.in-Refit.is
    kept.waits.follows) in
    c.set_back.ensures.list
    ∙ ap (λ (n : ℤ). change_service c.in-Refit.name (with_leg (backup_at n)) c.args.self.now.services.list) refits.1
    ∙ sym (ap (λ (e : Event). apply net c.args.self.now.services.list (event_told e)) c.in-Refit.is)
