use Rattle.std.proofs.Common.{sym, ◌∙◌, ap, w16, rules}
use mir.Val.{SFits}
use Rattle.std.proofs.lemmas.Int.{to_z-of_z}
use Rattle.eon_model.specs.Legal.{Setup}
use Rattle.room_lines.specs.Asking.{first_unknown, route_asked}
use Rattle.room_lines.specs.Told.{question_told}
use Rattle.room_lines.proofs.AskLaws.{unknown-fault, path-fault, block-by}
use Rattle.room_lines.proofs.asking.asked_block.Goals as goal

pub returns-in-Some : goal.returns-in-Some
returns-in-Some c =
    let q = question_told c.args.question.now in
    unknown-fault c.args.setup.now q c.in-Some.name
    (sym (c.first_unknown.ensures ∙ ap (λ (s : Setup). first_unknown s.network q.src q.dst q.work.fibres) c.setup.view_is) ∙ c.in-Some.is)

pub returns-in-Some-2 : goal.returns-in-Some-2
returns-in-Some-2 c =
    let q = question_told c.args.question.now in
    let low : SFits w16 c.args.question.now.n = search rules in
    let on = rw (to_z-of_z w16 c.args.question.now.n low) at c.block_on.ensures in
    block-by c.args.setup.now q
    (sym (c.first_unknown.ensures ∙ ap (λ (s : Setup). first_unknown s.network q.src q.dst q.work.fibres) c.setup.view_is)
    ∙ c.in_default.is)
    c.in-Some-2.route (sym (c.in_ok-route.ensures ∙ ap (λ (s : Setup). route_asked s.network q) c.setup.view_is) ∙ c.in-Some-2.is)
    c.block_on.result on

pub returns-in-None : goal.returns-in-None
returns-in-None c =
    let q = question_told c.args.question.now in
    path-fault c.args.setup.now q
    (sym (c.first_unknown.ensures ∙ ap (λ (s : Setup). first_unknown s.network q.src q.dst q.work.fibres) c.setup.view_is)
    ∙ c.in_default.is)
    (sym (c.in_ok-route.ensures ∙ ap (λ (s : Setup). route_asked s.network q) c.setup.view_is) ∙ c.in-None.is)
