use Rattle.std.proofs.Common.{◌∙◌, sym, ap, None}
use Rattle.eon_model.specs.Candidates.{candidates}
use Rattle.eon_model.specs.Commands.{Demand}
use Rattle.eon_model.specs.Names.{Name}
use Rattle.eon_model.specs.Events as changes
use Rattle.eon_model.specs.Replies.{Reply}
use Rattle.eon_model.specs.Step.{Say, Change, node_numbered}
use Rattle.reply_text.specs.Replied.{reply_told}
use Rattle.plan_core.specs.Told.{outcome_told}
use Rattle.plan_core.proofs.AdmitSteps.{admit-refused, admit-tried, admit-told, admit-is_event}
use Rattle.plan_core.proofs.EventLaws.{enter-IsPrepared}
use Rattle.plan_core.proofs.admit.admit.Goals as goal

pub returns-in-Some-clause-is : goal.returns-in-Some-clause-is
returns-in-Some-clause-is c = ap outcome_told c.say.ensures.decision
    ∙ admit-refused c.args.setup.now c.args.services.now.list c.args.demand.now (reply_told c.in-Some.reply) (sym c.in-Some.ensures)

pub enter-requires : goal.enter-requires
enter-requires c =
    let src = c.node_numbered-src.ensures ∙ (λ i. node_numbered (c.setup.view_is i).network (c.demand.view_is i).src) in
    let dst = c.node_numbered-dst.ensures ∙ (λ i. node_numbered (c.setup.view_is i).network (c.demand.view_is i).dst) in
    admit-is_event c.args.setup.now c.args.services.now.list c.args.demand.now (changes.Event.Enter (changes.enter_text_of c.in-Ok.service))
    (Reply.Admitted c.args.demand.now.name) c.requires.in_range c.requires.legal c.requires.right
    (admit-tried c.args.setup.now c.args.services.now.list c.args.demand.now (Change (changes.Event.Enter (changes.enter_text_of c.in-Ok.service)) (Reply.Admitted c.args.demand.now.name))
    c.in_ok-pairs.pairs c.first_is_of_a_new_service.ensures c.requires.in_range c.requires.legal
    (sym c.in_default.ensures)
    (c.in_ok-pairs.ensures.pairs ∙ (λ i. candidates c.args.setup.now (src i) (dst i) (c.demand.view_is i).rate
    (c.demand.view_is i).class None)) (c.in-Ok.ensures.is))

pub returns-in-Ok-clause-is : goal.returns-in-Ok-clause-is
returns-in-Ok-clause-is c =
    let src = c.node_numbered-src.ensures ∙ (λ i. node_numbered (c.setup.view_is i).network (c.demand.view_is i).src) in
    let dst = c.node_numbered-dst.ensures ∙ (λ i. node_numbered (c.setup.view_is i).network (c.demand.view_is i).dst) in
    c.enter.ensures.decision
    ∙ ap (λ (x : Name). Change (changes.Event.Enter (changes.enter_text_of c.in-Ok.service)) (Reply.Admitted x))
    (ap (λ (d : Demand). d.name) c.demand.view_is)
    ∙ admit-tried c.args.setup.now c.args.services.now.list c.args.demand.now (Change (changes.Event.Enter (changes.enter_text_of c.in-Ok.service)) (Reply.Admitted c.args.demand.now.name))
    c.in_ok-pairs.pairs c.first_is_of_a_new_service.ensures c.requires.in_range c.requires.legal
    (sym c.in_default.ensures)
    (c.in_ok-pairs.ensures.pairs ∙ (λ i. candidates c.args.setup.now (src i) (dst i) (c.demand.view_is i).rate
    (c.demand.view_is i).class None)) (c.in-Ok.ensures.is)

pub returns-in-Ok-clause-prepared : goal.returns-in-Ok-clause-prepared
returns-in-Ok-clause-prepared c =
    let src = c.node_numbered-src.ensures ∙ (λ i. node_numbered (c.setup.view_is i).network (c.demand.view_is i).src) in
    let dst = c.node_numbered-dst.ensures ∙ (λ i. node_numbered (c.setup.view_is i).network (c.demand.view_is i).dst) in
    enter-IsPrepared c.args.setup.now.network c.in-Ok.service c.enter.result.decision c.enter.result.prepared _
    (admit-told c.args.setup.now c.args.services.now.list c.args.demand.now c.in-Ok.service c.in_ok-pairs.pairs
    c.first_is_of_a_new_service.ensures c.requires.in_range c.requires.legal (sym c.in_default.ensures)
    (c.in_ok-pairs.ensures.pairs ∙ (λ i. candidates c.args.setup.now (src i) (dst i) (c.demand.view_is i).rate
    (c.demand.view_is i).class None)) c.in-Ok.ensures.service) c.enter.ensures.decision c.enter.ensures.prepared

pub returns-in-Err-clause-is : goal.returns-in-Err-clause-is
returns-in-Err-clause-is c =
    let src = c.node_numbered-src.ensures ∙ (λ i. node_numbered (c.setup.view_is i).network (c.demand.view_is i).src) in
    let dst = c.node_numbered-dst.ensures ∙ (λ i. node_numbered (c.setup.view_is i).network (c.demand.view_is i).dst) in
    ap outcome_told c.say-in-Err.ensures.decision
    ∙ admit-tried c.args.setup.now c.args.services.now.list c.args.demand.now (Say (reply_told c.in-Err.reply))
    c.in_ok-pairs.pairs c.first_is_of_a_new_service.ensures c.requires.in_range c.requires.legal
    (sym c.in_default.ensures)
    (c.in_ok-pairs.ensures.pairs ∙ (λ i. candidates c.args.setup.now (src i) (dst i) (c.demand.view_is i).rate
    (c.demand.view_is i).class None)) (c.in-Err.ensures.is)
