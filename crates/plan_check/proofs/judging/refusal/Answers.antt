use Rattle.std.proofs.Common.{◌∙◌, sym, ap, w16}
use Rattle.std.proofs.lemmas.Int.{to_z-of_z}
use Rattle.eon_model.specs.Legal.{Setup}
use Rattle.eon_model.specs.Step as step
use Rattle.push_rule.specs.Told.{push_told}
use Rattle.push_rule.specs.declared.answers.Push.{Push}
use Rattle.plan_check.specs.Judged.{refusal_of}
use Rattle.plan_check.proofs.judging.refusal.Goals as goal

pub returns-in-Band : goal.returns-in-Band
returns-in-Band c =
    let setup = c.args.core.now.setup in
    let name = c.args.next.now.name in
    let to = to_z-of_z w16 c.to_of.result (record { sfits = c.to_of.type_inv }) ∙ c.to_of.ensures in
    let told = c.push.ensures setup (sym (ap (λ (s : Setup). s.band) (c.behind-core.view_is ∙ c.setup.ensures.setup))) in
    ap (λ (p : Push). refusal_of (push_told name p)) (sym c.in-Band.is)
    ∙ ap refusal_of (told ∙ (λ i. step.push setup (c.services.ensures.list i) name (to i)))

pub returns-in-Clash : goal.returns-in-Clash
returns-in-Clash c =
    let setup = c.args.core.now.setup in
    let name = c.args.next.now.name in
    let to = to_z-of_z w16 c.to_of.result (record { sfits = c.to_of.type_inv }) ∙ c.to_of.ensures in
    let told = c.push.ensures setup (sym (ap (λ (s : Setup). s.band) (c.behind-core.view_is ∙ c.setup.ensures.setup))) in
    ap (λ (p : Push). refusal_of (push_told name p)) (sym c.in-Clash.is)
    ∙ ap refusal_of (told ∙ (λ i. step.push setup (c.services.ensures.list i) name (to i)))

pub returns-in-Unknown : goal.returns-in-Unknown
returns-in-Unknown c =
    let setup = c.args.core.now.setup in
    let name = c.args.next.now.name in
    let to = to_z-of_z w16 c.to_of.result (record { sfits = c.to_of.type_inv }) ∙ c.to_of.ensures in
    let told = c.push.ensures setup (sym (ap (λ (s : Setup). s.band) (c.behind-core.view_is ∙ c.setup.ensures.setup))) in
    ap (λ (p : Push). refusal_of (push_told name p)) (sym c.in-Unknown.is)
    ∙ ap refusal_of (told ∙ (λ i. step.push setup (c.services.ensures.list i) name (to i)))

pub returns-in-Busy : goal.returns-in-Busy
returns-in-Busy c =
    let setup = c.args.core.now.setup in
    let name = c.args.next.now.name in
    let to = to_z-of_z w16 c.to_of.result (record { sfits = c.to_of.type_inv }) ∙ c.to_of.ensures in
    let told = c.push.ensures setup (sym (ap (λ (s : Setup). s.band) (c.behind-core.view_is ∙ c.setup.ensures.setup))) in
    ap (λ (p : Push). refusal_of (push_told name p)) (sym c.in-Busy.is)
    ∙ ap refusal_of (told ∙ (λ i. step.push setup (c.services.ensures.list i) name (to i)))

pub returns-in-Same : goal.returns-in-Same
returns-in-Same c =
    let setup = c.args.core.now.setup in
    let name = c.args.next.now.name in
    let to = to_z-of_z w16 c.to_of.result (record { sfits = c.to_of.type_inv }) ∙ c.to_of.ensures in
    let told = c.push.ensures setup (sym (ap (λ (s : Setup). s.band) (c.behind-core.view_is ∙ c.setup.ensures.setup))) in
    ap (λ (p : Push). refusal_of (push_told name p)) (sym c.in-Same.is)
    ∙ ap refusal_of (told ∙ (λ i. step.push setup (c.services.ensures.list i) name (to i)))

pub returns-in-Done : goal.returns-in-Done
returns-in-Done c =
    let setup = c.args.core.now.setup in
    let name = c.args.next.now.name in
    let to = to_z-of_z w16 c.to_of.result (record { sfits = c.to_of.type_inv }) ∙ c.to_of.ensures in
    let told = c.push.ensures setup (sym (ap (λ (s : Setup). s.band) (c.behind-core.view_is ∙ c.setup.ensures.setup))) in
    ap (λ (p : Push). refusal_of (push_told name p)) (sym c.in-Done.is)
    ∙ ap refusal_of (told ∙ (λ i. step.push setup (c.services.ensures.list i) name (to i)))
